-- Unions (typing specification, "Union types").
use Rattle.std.specs.Prelude.{ℕ, List, [], ◌∷◌, ◌++◌, Bool, if◌then◌else◌, nat_lt}
use Rattle.std.specs.List.{list_any, flat_map}
use Rattle.pyc_type_forms.specs.Types.{Ty, Tys, any, union, nil, cons}
use Rattle.pyc_type_forms.specs.TypeView.{tys_of}
use Rattle.pyc_type_forms.specs.Equality.{same_type}
use Rattle.pyc_type_forms.specs.Size.{size}

-- the largest size that a type has which a union forms
abbrev pub most_types : ℕ
most_types = 1000

abbrev mutual
  -- the items of a type: those of the items of a union, else the type itself
  pub items_of : Ty → List Ty
  items_of (union items) = row_items items
  items_of ty = ty ∷ []

  -- the items of the types of a row
  pub row_items : Tys → List Ty
  row_items nil = []
  row_items (cons ty tys) = items_of ty ++ row_items tys

-- whether a type is one of these
abbrev pub is_among : List Ty → Ty → Bool
is_among tys ty = list_any (λ other. same_type other ty) tys

-- some types with one more, unless it is one of them
abbrev pub with_item : List Ty → Ty → List Ty
with_item kept ty = if is_among kept ty then kept else kept ++ ty ∷ []

-- some types with those of a list that are not among them, in order
abbrev pub with_items : List Ty → List Ty → List Ty
with_items kept [] = kept
with_items kept (ty ∷ tys) = with_items (with_item kept ty) tys

-- one type is itself, and else a union
abbrev pub joined : List Ty → Ty
joined (ty ∷ []) = ty
joined tys = union (tys_of tys)

-- a type that is not too large, else Any
abbrev pub any_if_too_large : Ty → Ty
any_if_too_large ty = if nat_lt most_types (size ty) then any else ty

-- the union of some types: flat, without repeats, in the order in which they are first seen; one type is itself, and a
-- union that is too large is Any
abbrev pub union_of : List Ty → Ty
union_of tys = any_if_too_large (joined (with_items [] (flat_map items_of tys)))
