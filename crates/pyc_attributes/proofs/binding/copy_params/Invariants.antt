use Rattle.std.proofs.Common.{◌≡◌, ◌++◌, map, drop}
use Rattle.pyc_type_forms.specs.TypeView.{param_of}
use Rattle.pyc_attributes.proofs.binding.copy_params.Given as goal

-- the parameters so far, with those that are left, are all
abbrev pub invariant-loop-param : goal.invariant-loop-param
invariant-loop-param l = map param_of l.copy.items ++ map param_of (drop l.param-index l.params) ≡ map param_of l.params
