-- Rows of types, and the lists that they come of.
use Rattle.std.proofs.Common.{◌≡◌, ◌==◌, ℕ, zero, suc, ◌<◌, ◌≤◌, nat_lt, false, Bor, List, [], ◌∷◌, length, map, get_or, Option, None, Some, option_map, is_some, IfSome, refl, sym, ap, ◌∙◌, arith}
use Rattle.pyc_subscripts.specs.Chosen.{row_length, ty_at}
use Rattle.std.proofs.lemmas.Bool.{false≢true, ltb-true, ltb-false}
use Rattle.pyc_subscripts.specs.Iteration.{types_of, fixed_part}
use Rattle.pyc_type_forms.specs.declared.types.Ty.{Ty as TyOf}
use Rattle.pyc_type_forms.specs.TypeView.{ty_of, row}
use Rattle.pyc_type_forms.specs.Unions.{union_of}

pub types_of_row : (xs : List TyOf) → types_of (row xs) ≡ map ty_of xs
types_of_row [] = refl
types_of_row (x ∷ xs) = ap (λ l. ty_of x ∷ l) (types_of_row xs)

pub row_length_row : (xs : List TyOf) → row_length (row xs) ≡ length xs
row_length_row [] = refl
row_length_row (x ∷ xs) = ap suc (row_length_row xs)

-- an item of a fixed tuple that is not empty
pub nonempty_part : (xs : List TyOf) → false ≡ (length xs == 0) → fixed_part (row xs) ≡ union_of (map ty_of xs)
nonempty_part [] is = absurd (false≢true is)
nonempty_part (x ∷ xs) is = ap (λ l. union_of (ty_of x ∷ l)) (types_of_row xs)

within : (xs : List TyOf) (n : ℕ) (x : TyOf) → n < length xs → Some (ty_of (get_or xs n x)) ≡ ty_at (row xs) n
within [] n x h = absurd (omega arith)
within (y ∷ xs) zero x h = refl
within (y ∷ xs) (suc n) x h = within xs n x (omega arith)

beyond : (xs : List TyOf) (n : ℕ) → length xs ≤ n → None ≡ ty_at (row xs) n
beyond [] n h = refl
beyond (y ∷ xs) zero h = absurd (omega arith)
beyond (y ∷ xs) (suc n) h = beyond xs n (omega arith)

-- what is found at a place of a list is the type at that place of its row
pub found_at : (xs : List TyOf) (n : ℕ) (r : Option (Bor TyOf)) → is_some r ≡ nat_lt n (length xs) → IfSome r (λ x. x.now ≡ get_or xs n x.now)
    → option_map (λ (ty : Bor TyOf). ty_of ty.now) r ≡ ty_at (row xs) n
found_at xs n None there is = beyond xs n (ltb-false n (length xs) (sym there))
found_at xs n (Some x) there is = ap (λ t. Some (ty_of t)) is ∙ within xs n x.now (ltb-true n (length xs) (sym there))
