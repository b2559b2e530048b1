-- The items of rows, and the sizes of their types.
use Rattle.std.proofs.Common.{◌≡◌, ◌≤◌, ◌<◌, ℕ, zero, suc, List, [], ◌∷◌, ◌++◌, length, get_or, map, refl, ap, arith}
use Rattle.std.specs.List.{flat_map}
use Rattle.pyc_type_forms.specs.declared.types.Ty.{Ty}
use Rattle.pyc_type_forms.specs.TypeView.{ty_of, row}
use Rattle.pyc_type_forms.specs.Size.{size, row_size}
use Rattle.pyc_type_forms.specs.Unions.{items_of, row_items}

-- the items of a row are those of each of its types
pub row_items_flat : (xs : List Ty) → row_items (row xs) ≡ flat_map items_of (map ty_of xs)
row_items_flat [] = refl
row_items_flat (x ∷ xs) = ap (λ rest. items_of (ty_of x) ++ rest) (row_items_flat xs)

-- a type of a row is no larger than the row
pub size_in_row : (xs : List Ty) (k : ℕ) (x : Ty) → k < length xs → x ≡ get_or xs k x → size (ty_of x) ≤ row_size (row xs)
size_in_row [] k x within is = absurd (omega arith)
size_in_row (y ∷ xs) zero x within is = rw is (omega arith)
size_in_row (y ∷ xs) (suc k) x within is =
    let rest : size (ty_of x) ≤ row_size (row xs) = size_in_row xs k x (omega arith) is in
    omega (arith, rest)
