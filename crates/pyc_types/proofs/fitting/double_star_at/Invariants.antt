use Rattle.std.proofs.Common.{◌≡◌, drop}
use Rattle.std.specs.List.{position_from}
use Rattle.pyc_types.specs.Parameters as spec
use Rattle.pyc_types.specs.Slots.{slots_in}
use Rattle.pyc_types.proofs.fitting.double_star_at.Given as goal

-- it is left where it stood
abbrev pub invariant-loop-i : goal.invariant-loop-i
invariant-loop-i l =
    position_from spec.is_double_star l.i (slots_in (drop l.i l.params)) ≡ position_from spec.is_double_star 0 (slots_in l.params)
