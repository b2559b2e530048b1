-- Rows of other lengths are not the same.
use Rattle.std.proofs.Common.{◌≡◌, false, List, [], ◌∷◌, length, suc, refl, ap}
use Rattle.std.proofs.Math.Bool.{and-false}
use Rattle.pyc_type_forms.specs.declared.types.Param.{Param}
use Rattle.pyc_type_forms.specs.declared.types.Ty.{Ty}
use Rattle.pyc_type_forms.specs.TypeView.{row, param_row}
use Rattle.pyc_type_forms.specs.Equality.{same_types, same_listed}

pub other_types : (xs ys : List Ty) → ¬ (length xs ≡ length ys) → same_types (row xs) (row ys) ≡ false
other_types [] [] other = absurd (other refl)
other_types [] (y ∷ ys) other = refl
other_types (x ∷ xs) [] other = refl
other_types (x ∷ xs) (y ∷ ys) other = rw (other_types xs ys (λ same. other (ap suc same))) (and-false _)

pub other_params : (ps qs : List Param) → ¬ (length ps ≡ length qs) → same_listed (param_row ps) (param_row qs) ≡ false
other_params [] [] other = absurd (other refl)
other_params [] (q ∷ qs) other = refl
other_params (p ∷ ps) [] other = refl
other_params (p ∷ ps) (q ∷ qs) other = rw (other_params ps qs (λ same. other (ap suc same))) (and-false _)
