use Rattle.std.proofs.Common.{◌≡◌, ◌++◌, map, drop}
use Rattle.pyc_annotations.specs.Annotations.{plain_param}
use Rattle.pyc_type_forms.specs.TypeView.{ty_of, param_of}
use Rattle.pyc_annotations.proofs.form_types.plain_params.Given as goal

-- the parameters so far, with those of the types that are left, are all
abbrev pub invariant-loop-ty : goal.invariant-loop-ty
invariant-loop-ty l =
    map param_of l.params.items ++ map plain_param (map ty_of (drop l.ty-index l.types))
    ≡ map plain_param (map ty_of l.types)
