-- The types of a row of the code.
use Rattle.std.proofs.Common.{◌≡◌, List, [], ◌∷◌, map, refl, ap}
use Rattle.pyc_operators.specs.Made.{types_in}
use Rattle.pyc_type_forms.specs.declared.types.Ty.{Ty}
use Rattle.pyc_type_forms.specs.TypeView.{ty_of, row}

pub row_types : (xs : List Ty) → types_in (row xs) ≡ map ty_of xs
row_types [] = refl
row_types (x ∷ xs) = ap (λ rest. ty_of x ∷ rest) (row_types xs)
