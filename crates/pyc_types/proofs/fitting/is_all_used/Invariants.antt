use Rattle.std.proofs.Common.{◌≡◌, true}
use Rattle.pyc_types.specs.Parameters as spec
use Rattle.pyc_types.specs.Slots.{slots_in}
use Rattle.pyc_types.proofs.fitting.is_all_used.Given as goal

-- each one so far is used
abbrev pub invariant-loop-i : goal.invariant-loop-i
invariant-loop-i l = spec.all_below l.i (spec.is_used (slots_in l.gots) (slots_in l.wants)) ≡ true
