-- The parameters that a call must fill and does not (Python reference 3.13, "Calls").
use Rattle.std.specs.Prelude.{ℕ, ◌+◌, List, [], ◌∷◌, ◌++◌, Bool, true, not, ◌||◌, if◌then◌else◌}
use Rattle.std.specs.Prelude.{Option}
use Rattle.pyc_matching.specs.Matching.{Fill, is_filled, is_plain}
use Rattle.pyc_type_forms.specs.Types.{Kind, plain, keyword_only, Slot, Listed, no_param, param}

-- a parameter that is not filled: a plain one with its name, if it has one, and with its number among the plain ones,
-- counted from 1; or a keyword-only one with its name
pub data MissingArgument : Type 0 where
  missing_place : Option (List ℕ) → ℕ → MissingArgument
  missing_name : List ℕ → MissingArgument

-- whether the parameter with this index is not filled, and a call may not leave it out
abbrev pub is_unfilled : Fill → ℕ → Slot → Bool
is_unfilled fill i slot = not (slot.is_optional || is_filled fill i)

-- a plain parameter with this number, where it is unfilled
abbrev pub place_of : Bool → ℕ → Kind → List MissingArgument
place_of true number (plain name) = missing_place name number ∷ []
place_of _ number _ = []

-- a keyword-only parameter, where it is unfilled
abbrev pub name_of : Bool → Kind → List MissingArgument
name_of true (keyword_only name) = missing_name name ∷ []
name_of _ _ = []

-- the number of the next plain parameter
abbrev pub number_after : ℕ → Kind → ℕ
number_after number kind = if is_plain kind then number + 1 else number

-- the plain parameters that are missing, in a row whose first parameter has the index i and whose first plain one has
-- this number
abbrev pub missing_places : Fill → ℕ → ℕ → Listed → List MissingArgument
missing_places fill i number no_param = []
missing_places fill i number (param slot ty rest) =
    place_of (is_unfilled fill i slot) number slot.kind
    ++ missing_places fill (i + 1) (number_after number slot.kind) rest

-- the keyword-only parameters that are missing, in a row whose first parameter has the index i
abbrev pub missing_names : Fill → ℕ → Listed → List MissingArgument
missing_names fill i no_param = []
missing_names fill i (param slot ty rest) =
    name_of (is_unfilled fill i slot) slot.kind ++ missing_names fill (i + 1) rest

-- the parameters that are missing after all arguments: the plain ones in order, and then the keyword-only ones
abbrev pub missing : Fill → Listed → List MissingArgument
missing fill params = missing_places fill 0 1 params ++ missing_names fill 0 params
