use Rattle.std.proofs.Common.{◌≡◌, drop}
use Rattle.pyc_types.specs.Parameters as spec
use Rattle.pyc_types.specs.Slots.{slots_in}
use Rattle.pyc_types.proofs.fitting.named_param_index.Given as goal

-- the name is left where it stood
abbrev pub invariant-loop-i : goal.invariant-loop-i
invariant-loop-i l =
    spec.named_from l.name l.i (slots_in (drop l.i l.params)) l.left ≡ spec.named_from l.name 0 (slots_in l.params) l.used
