-- The types of displays, and what their parts are reported to be (Python reference 3.13, "Displays for lists, sets and
-- dictionaries" and "Parenthesized forms"; typing specification, "Type system concepts").
use Rattle.std.specs.Prelude.{ℕ, ◌+◌, Bool, true, false, List, [], ◌∷◌, ◌++◌, length, Option, None, Some}
use Rattle.std.specs.List.{list_any, slice_get}
use Rattle.pyc_ast.specs.Exprs.{Expr, Element, DictItem, element, entry, unpacking, at_of}
use Rattle.pyc_displays.specs.Expecting.{Entry, expected_item, expected_entry, expected_places}
use Rattle.pyc_displays.specs.Messages.{required_item, required_entry}
use Rattle.pyc_reading.specs.Traces.{Step, required, owing}
use Rattle.pyc_reading.specs.Readings.{Done, and_then, ◌>>=◌}
use Rattle.pyc_type_forms.specs.Types.{Ty, any, list, dict, tuple, tuple_of}
use Rattle.pyc_type_forms.specs.TypeView.{tys_of}
use Rattle.pyc_type_forms.specs.Unions.{union_of, any_if_too_large}

-- how a part of an expression is read, with the type that is expected of it, if one is
abbrev pub Reads : Type 0
Reads = Expr → Option Ty → Step Ty

-- to read a part of which nothing is expected, whatever its type is
unfoldable pub infer_freely : Reads → Expr → Step (Unit {0})
infer_freely read x = and_then (read x None) (λ ty. Done tt)

-- ---- items

-- whether an item stands after `*`
abbrev pub is_starred : Element → Bool
is_starred (element starred x) = starred

-- what stands in an item
abbrev pub value_in : Element → Expr
value_in (element starred x) = x

-- these types with those of some items, in turn: of the first as much is expected as of the place of this number
unfoldable pub more_types : Reads → List Ty → ℕ → List Ty → List Element → Step (List Ty)
more_types read places index types [] = Done types
more_types read places index types (x ∷ xs) =
    and_then (read (value_in x) (slice_get places index))
    (λ ty. more_types read places (index + 1) (types ++ (ty ∷ [])) xs)

-- the types of items, in turn, with what is expected of each place
abbrev pub types_of : Reads → List Ty → List Element → Step (List Ty)
types_of read places items = more_types read places 0 [] items

-- ---- lists

-- an item that must be of a type: one after `*` is read alone
unfoldable pub check_value_type : Reads → Ty → ℕ → Expr → Step (Unit {0})
check_value_type read want index x = do
  got ← read x (Some want)
  required (required_item (at_of x) index got want)

abbrev pub check_item_type : Reads → Ty → ℕ → Element → Step (Unit {0})
check_item_type read want index (element true x) = infer_freely read x
check_item_type read want index (element false x) = check_value_type read want index x

-- items that must be of a type, in turn: the first has this number
unfoldable pub check_item_types : Reads → Ty → ℕ → List Element → Step (Unit {0})
check_item_types read want index [] = Done tt
check_item_types read want index (x ∷ xs) = and_then (check_item_type read want index x)
    (λ u. check_item_types read want (index + 1) xs)

-- a list of items of these types: of Any where they are not all known
abbrev pub list_type : Bool → List Ty → Ty
list_type true types = list any
list_type false types = any_if_too_large (list (union_of types))

-- whether not all items are known: there are none, or some stand after `*`
abbrev pub is_open_list : List Element → Bool
is_open_list [] = true
is_open_list (x ∷ xs) = list_any is_starred (x ∷ xs)

-- a list display of which nothing is expected
unfoldable pub free_list : Reads → List Element → Step Ty
free_list read items = and_then (types_of read [] items) (λ types. Done (list_type (is_open_list items) types))

-- a list display whose items must be of a type
unfoldable pub check_list_display : Reads → List Element → Ty → Step Ty
check_list_display read items want = and_then (check_item_types read want 0 items) (λ u. Done (list want))

-- a list display, by what is expected of its items
abbrev pub list_by : Reads → List Element → Option Ty → Step Ty
list_by read items (Some want) = check_list_display read items want
list_by read items None = free_list read items

-- the type of a list display
abbrev pub list_display : Reads → List Element → Option Ty → Step Ty
list_display read items want = list_by read items (expected_item want)

-- ---- dictionaries

-- the types of a key and its value, with what is expected of each
unfoldable pub entry_types : Reads → (key value : Expr) → (want_key want_value : Option Ty) → Step Entry
entry_types read key value want_key want_value =
    and_then (read key want_key) (λ got_key.
    and_then (read value want_value) (λ got_value.
    Done (record { key = got_key; value = got_value })))

-- a key and its value that must be of these types
unfoldable pub check_pair_types : Reads → Entry → ℕ → (key value : Expr) → Step (Unit {0})
check_pair_types read want index key value = do
  got ← entry_types read key value (Some want.key) (Some want.value)
  owing (required_entry (at_of key) index got want)

-- an entry that must be of these types: what stands after `**` is read alone
abbrev pub check_entry_types : Reads → Entry → ℕ → DictItem → Step (Unit {0})
check_entry_types read want index (entry key value) = check_pair_types read want index key value
check_entry_types read want index (unpacking x) = infer_freely read x

-- entries that must be of these types, in turn: the first has this number
unfoldable pub entries_to : Reads → Entry → ℕ → List DictItem → Step (Unit {0})
entries_to read want index [] = Done tt
entries_to read want index (x ∷ xs) =
    and_then (check_entry_types read want index x) (λ u. entries_to read want (index + 1) xs)

-- the types of the keys and the values of entries
pub record EntryTypes : Type 0 where
  pub keys : List Ty
  pub values : List Ty

-- the types of keys and values, and those of one more entry, if it has some
abbrev pub with_entry : EntryTypes → Option Entry → EntryTypes
with_entry types None = types
with_entry types (Some found) =
    record { keys = types.keys ++ (found.key ∷ []); values = types.values ++ (found.value ∷ []) }

-- the types of a key and its value of which nothing is expected
unfoldable pub free_pair : Reads → (key value : Expr) → Step (Option Entry)
free_pair read key value = and_then (entry_types read key value None None) (λ found. Done (Some found))

-- what stands after `**` is read alone
unfoldable pub free_unpacking : Reads → Expr → Step (Option Entry)
free_unpacking read x = and_then (infer_freely read x) (λ u. Done None)

-- the types of an entry of which nothing is expected
abbrev pub free_entry : Reads → DictItem → Step (Option Entry)
free_entry read (entry key value) = free_pair read key value
free_entry read (unpacking x) = free_unpacking read x

-- the types of entries of which nothing is expected, in turn, after these
unfoldable pub more_entries : Reads → EntryTypes → List DictItem → Step EntryTypes
more_entries read types [] = Done types
more_entries read types (x ∷ xs) = and_then (free_entry read x) (λ found. more_entries read (with_entry types found) xs)

-- whether an item stands after `**`
abbrev pub is_unpacking : DictItem → Bool
is_unpacking (entry key value) = false
is_unpacking (unpacking x) = true

-- whether not all entries are known: there are none, or something stands after `**`
abbrev pub is_open_dict : List DictItem → Bool
is_open_dict [] = true
is_open_dict (x ∷ xs) = list_any is_unpacking (x ∷ xs)

-- a dictionary with keys and values of these types: of Any where they are not all known
abbrev pub dict_type : Bool → EntryTypes → Ty
dict_type true types = dict any any
dict_type false types = any_if_too_large (dict (union_of types.keys) (union_of types.values))

-- a dict display of which nothing is expected
unfoldable pub free_dict : Reads → List DictItem → Step Ty
free_dict read items =
    and_then (more_entries read (record { keys = []; values = [] }) items)
    (λ types. Done (dict_type (is_open_dict items) types))

-- a dict display whose entries must be of these types
unfoldable pub check_dict_display : Reads → List DictItem → Entry → Step Ty
check_dict_display read items want = and_then (entries_to read want 0 items) (λ u. Done (dict want.key want.value))

-- a dict display, by what is expected of its entries
abbrev pub dict_by : Reads → List DictItem → Option Entry → Step Ty
dict_by read items (Some want) = check_dict_display read items want
dict_by read items None = free_dict read items

-- the type of a dict display
abbrev pub dict_display : Reads → List DictItem → Option Ty → Step Ty
dict_display read items want = dict_by read items (expected_entry want)

-- ---- tuples and sets

-- a tuple of items of these types: one of any length where some stand after `*`
abbrev pub tuple_type : Bool → List Ty → Ty
tuple_type true types = tuple_of any
tuple_type false types = any_if_too_large (tuple (tys_of types))

-- the type of a tuple display
unfoldable pub tuple_display : Reads → List Element → Option Ty → Step Ty
tuple_display read items want =
    and_then (types_of read (expected_places (list_any is_starred items) (length items) want) items)
    (λ types. Done (tuple_type (list_any is_starred items) types))

-- the type of a set display, whose items are read alone
unfoldable pub set_display : Reads → List Element → Option Ty → Step Ty
set_display read items want = and_then (types_of read [] items) (λ types. Done any)
