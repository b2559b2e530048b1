use Rattle.std.proofs.Common.{◌≡◌, take}
use Rattle.pyc_declarations.proofs.kinds.copy_parts.Given as goal

-- those that were passed
abbrev pub invariant-loop-part : goal.invariant-loop-part
invariant-loop-part l = l.copy.items ≡ take l.part-index l.parts
