use Rattle.std.proofs.Common.{◌≡◌, map, length}
use Rattle.std.specs.Vec.Iter.{into_iter_items, into_iter_len}
use Rattle.pyc_lex.specs.View.{line_in}
use Rattle.pyc_lower.specs.Parts.{lowered_of}
use Rattle.pyc_lower.proofs.PartLemmas.{IsParted}
use Rattle.pyc_lower_atom.specs.OriginView.{origin_of}
use Rattle.pyc_lower.proofs.parts.lower_parts.Given as goal

-- the lines that are lowered, the part and the lines that are left are all, and the iterator counts what is left
abbrev pub invariant-loop-line : goal.invariant-loop-line
invariant-loop-line g l =
    (IsParted g.Q.Quotes.spelled (origin_of l.lowering.origin) (map line_in l.fn.lines.items) (map line_in l.part.items)
    (map line_in (into_iter_items l.line-iterator)) (lowered_of l.found))
    × (into_iter_len l.line-iterator ≡ length (into_iter_items l.line-iterator))
