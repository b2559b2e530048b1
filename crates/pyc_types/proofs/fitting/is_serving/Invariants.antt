use Rattle.std.proofs.Common.{◌≡◌, false}
use Rattle.pyc_types.specs.Parameters as spec
use Rattle.pyc_types.specs.Slots.{slots_in}
use Rattle.pyc_types.proofs.fitting.is_serving.Given as goal

-- no wanted one so far is served by it
abbrev pub invariant-loop-j : goal.invariant-loop-j
invariant-loop-j l = spec.any_below l.j (spec.serves (slots_in l.gots) (slots_in l.wants) l.i) ≡ false
