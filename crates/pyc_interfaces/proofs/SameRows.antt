-- Rows of other lengths are not one.
use Rattle.std.proofs.Common.{◌≡◌, Bool, false, List, [], ◌∷◌, length, map, suc, refl, ap}
use Rattle.std.proofs.Math.Bool.{and-false}
use Rattle.std.specs.Cmp.Lexicographic.{pointwise}
use Rattle.pyc_ast.specs.declared.expr.Element.{Element}
use Rattle.pyc_ast.specs.declared.expr.Index.{Index}
use Rattle.pyc_ast.specs.Exprs.{elements, indices_of}
use Rattle.pyc_ast.specs.ExprView.{element_of, index_of}
use Rattle.pyc_interfaces.specs.SameExpressions.{same_elements, same_indices}

pub other_elements : (xs ys : List Element) → ¬ (length xs ≡ length ys) → same_elements (elements (map element_of xs)) (elements (map element_of ys)) ≡ false
other_elements [] [] other = absurd (other refl)
other_elements [] (y ∷ ys) other = refl
other_elements (x ∷ xs) [] other = refl
other_elements (x ∷ xs) (y ∷ ys) other = rw (other_elements xs ys (λ same. other (ap suc same))) (and-false _)

pub other_indices : (xs ys : List Index) → ¬ (length xs ≡ length ys) → same_indices (indices_of (map index_of xs)) (indices_of (map index_of ys)) ≡ false
other_indices [] [] other = absurd (other refl)
other_indices [] (y ∷ ys) other = refl
other_indices (x ∷ xs) [] other = refl
other_indices (x ∷ xs) (y ∷ ys) other = rw (other_indices xs ys (λ same. other (ap suc same))) (and-false _)

pub other_rows : {X Y : Type 0} (same : Y → Y → Bool) (g : X → Y) (xs ys : List X) → ¬ (length xs ≡ length ys) → pointwise same (map g xs) (map g ys) ≡ false
other_rows same g [] [] other = absurd (other refl)
other_rows same g [] (y ∷ ys) other = refl
other_rows same g (x ∷ xs) [] other = refl
other_rows same g (x ∷ xs) (y ∷ ys) other = rw (other_rows same g xs ys (λ same. other (ap suc same))) (and-false _)
