use Rattle.std.proofs.Common.{◌≡◌, drop}
use Rattle.pyc_type_forms.specs.TypeView.{param_row}
use Rattle.pyc_type_forms.specs.Text.{are_plain}
use Rattle.pyc_type_forms.proofs.text.are_plain.Given as goal

-- the parameters that are left decide
abbrev pub invariant-loop-param : goal.invariant-loop-param
invariant-loop-param l = are_plain (param_row (drop l.param-index l.params)) ≡ are_plain (param_row l.params)
