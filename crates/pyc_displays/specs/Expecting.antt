-- What is expected of a display and of its parts (typing specification, "Union types"; Python reference 3.13,
-- "Displays for lists, sets and dictionaries" and "Parenthesized forms").
use Rattle.std.specs.Prelude.{ℕ, Bool, true, false, if◌then◌else◌, nat_eq, List, [], ◌∷◌, length, Option, None, Some}
use Rattle.std.specs.List.{flat_map}
use Rattle.pyc_displays.specs.declared.expecting.DisplayKind.{DisplayKind}
use Rattle.pyc_displays.specs.declared.expecting.DisplayKind.TheVariants as kind
use Rattle.pyc_type_forms.specs.Types.{Ty, Tys, list, dict, tuple, tuple_of, nil, cons}
use Rattle.pyc_type_forms.specs.Unions.{items_of}

-- the types of a key and its value
pub record Entry : Type 0 where
  pub key : Ty
  pub value : Ty

-- whether the displays of a kind are of a type of this form
abbrev pub is_of : DisplayKind → Ty → Bool
is_of kind.List (list item) = true
is_of kind.Dict (dict key value) = true
is_of kind.Tuple (tuple places) = true
is_of kind.Tuple (tuple_of item) = true
is_of _ _ = false

-- a type, if the displays of a kind are of its form
abbrev pub if_of : DisplayKind → Ty → List Ty
if_of k ty = if is_of k ty then ty ∷ [] else []

-- the one type of a list, if it has just one
abbrev pub only : List Ty → Option Ty
only (ty ∷ []) = Some ty
only _ = None

-- what is expected of a display of a kind: of a union the item that such displays are of, if there is just one
abbrev pub expected : DisplayKind → Option Ty → Option Ty
expected k None = None
expected k (Some ty) = only (flat_map (if_of k) (items_of ty))

-- ---- lists

-- the type of the items of a list
abbrev pub list_item : Ty → Option Ty
list_item (list item) = Some item
list_item _ = None

abbrev pub item_of : Option Ty → Option Ty
item_of None = None
item_of (Some ty) = list_item ty

-- what is expected of each item of a list display
abbrev pub expected_item : Option Ty → Option Ty
expected_item want = item_of (expected kind.List want)

-- ---- dictionaries

-- the types of the entries of a dictionary
abbrev pub dict_entry_types : Ty → Option Entry
dict_entry_types (dict key value) = Some (record { key = key; value = value })
dict_entry_types _ = None

abbrev pub entry_of : Option Ty → Option Entry
entry_of None = None
entry_of (Some ty) = dict_entry_types ty

-- what is expected of each entry of a dict display
abbrev pub expected_entry : Option Ty → Option Entry
expected_entry want = entry_of (expected kind.Dict want)

-- ---- tuples

-- the types of a row
abbrev pub types_in : Tys → List Ty
types_in nil = []
types_in (cons ty tys) = ty ∷ types_in tys

-- these types, if they are so many
abbrev pub if_as_many : ℕ → List Ty → List Ty
if_as_many count tys = if nat_eq (length tys) count then tys else []

-- the types of the places of a tuple with so many; else nothing is known of them
abbrev pub tuple_places : ℕ → Ty → List Ty
tuple_places count (tuple places) = if_as_many count (types_in places)
tuple_places count _ = []

abbrev pub places_of : ℕ → Option Ty → List Ty
places_of count None = []
places_of count (Some ty) = tuple_places count ty

-- what is expected of each place of a tuple display of so many items: nothing where one stands after `*`
abbrev pub expected_places : Bool → ℕ → Option Ty → List Ty
expected_places true count want = []
expected_places false count want = places_of count (expected kind.Tuple want)
