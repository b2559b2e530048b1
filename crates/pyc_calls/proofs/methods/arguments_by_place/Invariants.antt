use Rattle.std.proofs.Common.{◌≡◌, ◌++◌, map, drop}
use Rattle.pyc_calls.specs.Methods.{arguments_by_place}
use Rattle.pyc_arguments.specs.Views.{read_in}
use Rattle.pyc_type_forms.specs.TypeView.{ty_of}
use Rattle.pyc_calls.proofs.methods.arguments_by_place.Given as goal

-- the arguments so far, with those of the types that are left, are all
abbrev pub invariant-loop-ty : goal.invariant-loop-ty
invariant-loop-ty l = map read_in l.arguments.items ++ arguments_by_place (map ty_of (drop l.ty-index l.types)) ≡ arguments_by_place (map ty_of l.types)
