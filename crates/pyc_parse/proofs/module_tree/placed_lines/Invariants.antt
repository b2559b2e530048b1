use Rattle.std.proofs.Common.{◌≡◌, map, length}
use Rattle.std.specs.Vec.Iter.{into_iter_items, into_iter_len}
use Rattle.pyc_lex.specs.View.{line_in}
use Rattle.pyc_parse.specs.PlacedView.{placed_of}
use Rattle.pyc_parse.specs.Modules.{placed_lines}
use Rattle.pyc_parse.proofs.ModuleLemmas.{with_placed}
use Rattle.pyc_parse.proofs.module_tree.placed_lines.Given as goal

-- the lines that are left come after those with trees, and the iterator counts them
abbrev pub invariant-loop-line : goal.invariant-loop-line
invariant-loop-line l =
    (with_placed (map placed_of l.found.items) (placed_lines (map line_in (into_iter_items l.line-iterator))) ≡ placed_lines (map line_in l.fn.lines.items))
    × (into_iter_len l.line-iterator ≡ length (into_iter_items l.line-iterator))
