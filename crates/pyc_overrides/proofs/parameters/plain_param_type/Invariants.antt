use Rattle.std.proofs.Common.{◌≡◌, drop}
use Rattle.pyc_overrides.specs.Parameters.{plain_param_type}
use Rattle.pyc_type_forms.specs.TypeView.{param_row}
use Rattle.pyc_overrides.proofs.parameters.plain_param_type.Given as goal

-- behind those that are left stands what stood behind all
abbrev pub invariant-loop-got : goal.invariant-loop-got
invariant-loop-got l = plain_param_type (param_row (drop l.got-index l.gots)) l.left ≡ plain_param_type (param_row l.gots) l.place
