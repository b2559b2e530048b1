use Rattle.std.proofs.Common.{◌≡◌, drop}
use Rattle.pyc_types.specs.Parameters as spec
use Rattle.pyc_types.specs.Slots.{slots_in}
use Rattle.pyc_types.proofs.fitting.plain_param_index.Given as goal

-- the place that is left stands where the place stood
abbrev pub invariant-loop-i : goal.invariant-loop-i
invariant-loop-i l =
    spec.plain_from l.i (slots_in (drop l.i l.params)) l.left ≡ spec.plain_from 0 (slots_in l.params) l.place
