-- Two unions against one another, each pair of their items walked once: the ways of a pair serve both directions.
use Rattle.std.specs.Prelude.{ℕ, suc, Bool, true, false, ◌&&◌, ◌||◌, not, nat_lt, nat_le}
use Rattle.std.specs.Prelude.{List, [], ◌∷◌}
use Rattle.pyc_type_forms.specs.Types.{Ty, Tys, nil, cons}
use Rattle.pyc_types.specs.declared.ways.Ways.{Ways}
use Rattle.pyc_types.specs.Assignable.{is_union}
use Rattle.pyc_types.specs.Pairs.{both}
use Rattle.pyc_types.specs.Ways.{gathered}

-- how many types a row has
abbrev pub count : Tys → ℕ
count nil = 0
count (cons ty tys) = suc (count tys)

-- whether no type of a row is a union
abbrev pub is_flat : Tys → Bool
is_flat nil = true
is_flat (cons ty tys) = not (is_union ty) && is_flat tys

-- whether two unions of these items can be crossed: neither is empty nor has a union as an item, and the second has at
-- most 1,000
abbrev pub is_crossable : Tys → Tys → Bool
is_crossable items others =
    nat_lt 0 (count items)
    && (nat_lt 0 (count others) && (nat_le (count others) 1000 && (is_flat items && is_flat others)))

-- whether a type goes to some of a row
abbrev pub goes_to_some : (Ty → Ways) → Tys → Bool
goes_to_some item nil = false
goes_to_some item (cons other others) = (item other).there || goes_to_some item others

-- whether each of some types goes to some of a row
abbrev pub each_goes : List (Ty → Ways) → Tys → Bool
each_goes [] others = true
each_goes (item ∷ items) others = goes_to_some item others && each_goes items others

-- whether each of a row goes to some of these types
abbrev pub each_back : List (Ty → Ways) → Tys → Bool
each_back items nil = true
each_back items (cons other others) = (gathered items other).back && each_back items others

-- the ways between two unions: each item goes to some of the others, and each of the others goes to some item
abbrev pub cross_ways : List (Ty → Ways) → Tys → Ways
cross_ways items others = both (each_goes items others) (each_back items others)

-- ---- marks of what is reached

-- the marks of a row's types, with those of the ones that go to a type
abbrev pub reach : (Ty → Ways) → Tys → List Bool → List Bool
reach item (cons other others) (mark ∷ marks) = (mark || (item other).back) ∷ reach item others marks
reach item _ marks = marks

-- the marks, with those of the ones that go to some of these types
abbrev pub reach_all : List (Ty → Ways) → Tys → List Bool → List Bool
reach_all [] others marks = marks
reach_all (item ∷ items) others marks = reach_all items others (reach item others marks)
