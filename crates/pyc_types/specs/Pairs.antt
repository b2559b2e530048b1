-- The parameters of two callables, each pair with the ways between its types.
use Rattle.std.specs.Prelude.{ℕ, suc, Bool, true, ◌&&◌, ◌||◌, not, List, [], ◌∷◌}
use Rattle.pyc_type_forms.specs.Types.{Slot, Ty, Listed, no_param, param}
use Rattle.pyc_types.specs.declared.ways.Ways.{Ways}
use Rattle.pyc_types.specs.Parameters.{fits, serves}
use Rattle.pyc_types.specs.Assignable.{slots_of}

-- the two ways
abbrev pub both : Bool → Bool → Ways
both there back = record { there = there; back = back }

-- where both of two pairs go
abbrev pub meet : Ways → Ways → Ways
meet a b = both (a.there && b.there) (a.back && b.back)

-- where either of two pairs goes
abbrev pub either : Ways → Ways → Ways
either a b = both (a.there || b.there) (a.back || b.back)

-- there where either goes there, back where both go back: a type against the items of a union
abbrev pub choose : Ways → Ways → Ways
choose a b = both (a.there || b.there) (a.back && b.back)

-- there where both go there, back where either goes back: the items of a union against a type
abbrev pub gather : Ways → Ways → Ways
gather a b = both (a.there && b.there) (a.back || b.back)

-- what the pair of got's i-th and the wanted j-th parameter asks of the ways between their types: the served one goes
-- backwards to the one that serves it
abbrev pub pair_ways : List Slot → List Slot → ℕ → ℕ → Ways → Ways
pair_ways gots wants i j ways =
    both (not (serves gots wants i j) || ways.back) (not (serves wants gots j i) || ways.there)

-- what the pairs of one of got's parameters ask, from the j-th wanted one on
abbrev pub row_ways : (ℕ → Ways → Ways) → ℕ → (Ty → Ways) → Listed → Ways
row_ways pair j ways no_param = both true true
row_ways pair j ways (param slot ty wants) = meet (pair j (ways ty)) (row_ways pair (suc j) ways wants)

-- what all pairs ask, from got's i-th parameter on
abbrev pub rows_ways : (ℕ → ℕ → Ways → Ways) → ℕ → List (Ty → Ways) → Listed → Ways
rows_ways pair i [] wants = both true true
rows_ways pair i (ways ∷ rest) wants = meet (row_ways (pair i) 0 ways wants) (rows_ways pair (suc i) rest wants)

-- whether the kinds of two rows of parameters fit, each way
abbrev pub fitting : List Slot → List Slot → Ways
fitting gots wants = both (fits gots wants) (fits wants gots)

-- the ways between two rows of parameters
abbrev pub listed_ways : List Slot → List (Ty → Ways) → Listed → Ways
listed_ways gots ways wants =
    meet (fitting gots (slots_of wants)) (rows_ways (pair_ways gots (slots_of wants)) 0 ways wants)
