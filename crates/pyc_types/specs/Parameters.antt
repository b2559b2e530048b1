-- Which parameter of one callable serves one of another, and whether all are served (typing specification, "Callables",
-- "Assignability rules for callables"). Types are left out here: a parameter is its kind, with its name, and whether a
-- call may leave it out.
use Rattle.std.specs.Prelude.{ℕ, zero, suc, ◌+◌, Bool, true, false, ◌&&◌, ◌||◌, not, if◌then◌else◌, bytes_eq}
use Rattle.std.specs.Prelude.{List, [], ◌∷◌, take, length, Option, None, Some, nat_eq}
use Rattle.std.specs.List.{slice_get, position_from}
use Rattle.std.specs.Option.{option_or}
use Rattle.pyc_type_forms.specs.Types.{Kind, plain, star, keyword_only, double_star, Slot}

-- ---- kinds

-- whether a parameter is filled by place
abbrev pub is_plain_kind : Kind → Bool
is_plain_kind (plain name) = true
is_plain_kind _ = false

abbrev pub is_plain : Slot → Bool
is_plain slot = is_plain_kind slot.kind

-- whether a parameter is `*args`
abbrev pub is_star_kind : Kind → Bool
is_star_kind star = true
is_star_kind _ = false

abbrev pub is_star : Slot → Bool
is_star slot = is_star_kind slot.kind

-- whether a parameter is `**kwargs`
abbrev pub is_double_star_kind : Kind → Bool
is_double_star_kind double_star = true
is_double_star_kind _ = false

abbrev pub is_double_star : Slot → Bool
is_double_star slot = is_double_star_kind slot.kind

-- whether a parameter is filled by this name alone
abbrev pub is_keyword_kind : List ℕ → Kind → Bool
is_keyword_kind name (keyword_only own) = bytes_eq own name
is_keyword_kind name _ = false

abbrev pub is_keyword : List ℕ → Slot → Bool
is_keyword name slot = is_keyword_kind name slot.kind

-- whether a parameter is filled by place and has this name
abbrev pub is_plain_named_kind : List ℕ → Kind → Bool
is_plain_named_kind name (plain (Some own)) = bytes_eq own name
is_plain_named_kind name _ = false

abbrev pub is_plain_named : List ℕ → Slot → Bool
is_plain_named name slot = is_plain_named_kind name slot.kind

-- whether a call may leave a parameter out
abbrev pub may_be_left_out : Slot → Bool
may_be_left_out slot = slot.is_optional || (is_star slot || is_double_star slot)

-- ---- places

-- how many parameters are filled by place
abbrev pub count_plain : List Slot → ℕ
count_plain [] = 0
count_plain (slot ∷ slots) = if is_plain slot then suc (count_plain slots) else count_plain slots

-- where the parameter of this place stands, in a row whose first stands at i
abbrev pub plain_from : ℕ → List Slot → ℕ → Option ℕ
plain_from i [] place = None
plain_from i (slot ∷ slots) zero = if is_plain slot then Some i else plain_from (i + 1) slots zero
plain_from i (slot ∷ slots) (suc place) =
    if is_plain slot then plain_from (i + 1) slots place else plain_from (i + 1) slots (suc place)

-- where a parameter of this name stands that none of the first so many places uses, in a row whose first stands at i
abbrev pub named_from : List ℕ → ℕ → List Slot → ℕ → Option ℕ
named_from name i [] used = None
named_from name i (slot ∷ slots) zero =
    if is_keyword name slot || is_plain_named name slot then Some i else named_from name (i + 1) slots zero
named_from name i (slot ∷ slots) (suc used) =
    if is_keyword name slot then Some i
    else if is_plain slot then named_from name (i + 1) slots used
    else named_from name (i + 1) slots (suc used)

-- ---- which parameter serves another

-- what serves a wanted parameter of this kind and place, where so many are wanted by place: for one by place got's of
-- that place, else got's `*`; for `*` got's `*`; for one by name got's of that name that no place has used, else got's
-- `**`; for `**` got's `**`
abbrev pub server_of : List Slot → ℕ → ℕ → Kind → Option ℕ
server_of gots places place (plain name) = option_or (plain_from 0 gots place) (position_from is_star 0 gots)
server_of gots places place star = position_from is_star 0 gots
server_of gots places place (keyword_only name) =
    option_or (named_from name 0 gots places) (position_from is_double_star 0 gots)
server_of gots places place double_star = position_from is_double_star 0 gots

-- what serves the j-th of the wanted parameters
abbrev pub server_at : List Slot → List Slot → ℕ → Option Slot → Option ℕ
server_at gots wants j (Some want) = server_of gots (count_plain wants) (count_plain (take j wants)) want.kind
server_at gots wants j None = None

abbrev pub server : List Slot → List Slot → ℕ → Option ℕ
server gots wants j = server_at gots wants j (slice_get wants j)

-- whether the i-th of got's parameters serves the j-th of the wanted ones
abbrev pub serves_at : Option ℕ → ℕ → Bool
serves_at (Some k) i = nat_eq k i
serves_at None i = false

abbrev pub serves : List Slot → List Slot → ℕ → ℕ → Bool
serves gots wants i j = serves_at (server gots wants j) i

-- ---- whether all fit

-- whether each number below n passes
abbrev pub all_below : ℕ → (ℕ → Bool) → Bool
all_below zero test = true
all_below (suc n) test = all_below n test && test n

-- whether some number below n passes
abbrev pub any_below : ℕ → (ℕ → Bool) → Bool
any_below zero test = false
any_below (suc n) test = any_below n test || test n

-- whether a parameter may be left out, if there is one
abbrev pub is_free : Option Slot → Bool
is_free (Some slot) = may_be_left_out slot
is_free None = false

-- whether a wanted parameter that may be left out may still be so in what serves it
abbrev pub keeps_optional : Option Slot → Option Slot → Bool
keeps_optional (Some want) (Some got) = not want.is_optional || may_be_left_out got
keeps_optional _ _ = false

-- whether the j-th wanted parameter is served, and stays optional where it is
abbrev pub is_served_by : List Slot → List Slot → ℕ → Option ℕ → Bool
is_served_by gots wants j (Some i) = keeps_optional (slice_get wants j) (slice_get gots i)
is_served_by gots wants j None = false

abbrev pub is_served : List Slot → List Slot → ℕ → Bool
is_served gots wants j = is_served_by gots wants j (server gots wants j)

-- whether got's i-th parameter may be left out or serves a wanted one
abbrev pub is_used : List Slot → List Slot → ℕ → Bool
is_used gots wants i = is_free (slice_get gots i) || any_below (length wants) (serves gots wants i)

-- whether each wanted parameter is served, and got has no further required one
unfoldable pub fits : List Slot → List Slot → Bool
fits gots wants = all_below (length wants) (is_served gots wants) && all_below (length gots) (is_used gots wants)
