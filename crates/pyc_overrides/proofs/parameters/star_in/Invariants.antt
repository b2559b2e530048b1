use Rattle.std.proofs.Common.{◌≡◌, drop}
use Rattle.pyc_overrides.specs.Parameters.{star_in}
use Rattle.pyc_type_forms.specs.TypeView.{param_row}
use Rattle.pyc_overrides.proofs.parameters.star_in.Given as goal

-- the one that is sought is among those that are left
abbrev pub invariant-loop-got : goal.invariant-loop-got
invariant-loop-got l = star_in (param_row (drop l.got-index l.gots)) ≡ star_in (param_row l.gots)
