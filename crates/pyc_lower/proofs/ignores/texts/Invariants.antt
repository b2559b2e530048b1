use Rattle.std.proofs.Common.{◌≡◌, map, take}
use Rattle.pyc_lower_atom.specs.Origins.{text_at}
use Rattle.pyc_lower.proofs.ignores.texts.Given as goal

-- the texts of the spans so far
abbrev pub invariant-loop-span : goal.invariant-loop-span
invariant-loop-span l = l.found.items ≡ map (text_at l.source) (take l.span-index l.spans)
