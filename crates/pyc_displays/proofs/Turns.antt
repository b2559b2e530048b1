-- One turn of the loops that perform readings in turn.
use Rattle.std.proofs.Common.{◌≡◌, ℕ, ◌+◌, ◌<◌, List, [], ◌∷◌, ◌++◌, length, map, drop, get_or, Option, refl, ap, sym, ◌∙◌}
use Rattle.std.specs.List.{slice_get}
use Rattle.pyc_ast.specs.declared.expr.DictItem.{DictItem}
use Rattle.pyc_ast.specs.declared.expr.Element.{Element}
use Rattle.pyc_ast.specs.ExprView.{expr_of, element_of, dict_item_of}
use Rattle.pyc_displays.proofs.Parts.{stands_in}
use Rattle.pyc_displays.specs.Displays.{Reads, EntryTypes, value_in, more_types, check_item_type, check_item_types, check_entry_types, entries_to, free_entry, with_entry, more_entries}
use Rattle.pyc_displays.specs.Expecting.{Entry}
use Rattle.pyc_reading.proofs.RunLemmas.{one_turn}
use Rattle.pyc_reading.specs.Traces.{Trace, run}
use Rattle.pyc_reading.specs.Readings.{and_then}
use Rattle.pyc_type_forms.specs.Types.{Ty}

-- the types of items
more_type : (read : Reads) (places : List Ty) (i : ℕ) (types : List Ty) (x : Element) (xs : List Element)
    → more_types read places i types (map element_of (x ∷ xs))
    ≡ and_then (read (value_in (element_of x)) (slice_get places i)) (λ ty. more_types read places (i + 1) (types ++ (ty ∷ [])) (map element_of xs))
unfolding more_types
more_type read places i types x xs = refl

pub type_turn : (read : Reads) (places types more : List Ty) (xs : List Element) (i : ℕ) (x : Element) (want : Option Ty) (ty : Ty) (trace middle : Trace)
    → i < length xs → x ≡ get_or xs i x → slice_get places i ≡ want → run (read (expr_of x.value) want) trace ≡ (ty, middle)
    → more ≡ types ++ (ty ∷ [])
    → run (more_types read places (i + 1) more (map element_of (drop (i + 1) xs))) middle ≡ run (more_types read places i types (map element_of (drop i xs))) trace
type_turn read places types more xs i x want ty trace middle within is wanted first pushed =
    let read_first : run (read (value_in (element_of x)) (slice_get places i)) trace ≡ (ty, middle) =
    ap (λ e. run (read e (slice_get places i)) trace) (stands_in x) ∙ ap (λ w. run (read (expr_of x.value) w) trace) wanted ∙ first in
    ap (λ l. run (more_types read places (i + 1) l (map element_of (drop (i + 1) xs))) middle) pushed
    ∙ sym (one_turn (λ l. more_types read places i types (map element_of l)) (λ y. read (value_in (element_of y)) (slice_get places i))
    (λ a l. more_types read places (i + 1) (types ++ (a ∷ [])) (map element_of l)) (more_type read places i types) xs i x trace middle ty within is read_first)

-- items that must be of a type
more_item : (read : Reads) (want : Ty) (i : ℕ) (x : Element) (xs : List Element)
    → check_item_types read want i (map element_of (x ∷ xs)) ≡ and_then (check_item_type read want i (element_of x)) (λ u. check_item_types read want (i + 1) (map element_of xs))
unfolding check_item_types
more_item read want i x xs = refl

pub item_turn : (read : Reads) (want : Ty) (xs : List Element) (i : ℕ) (x : Element) (u : Unit {0}) (trace middle : Trace)
    → i < length xs → x ≡ get_or xs i x → run (check_item_type read want i (element_of x)) trace ≡ (u, middle)
    → run (check_item_types read want (i + 1) (map element_of (drop (i + 1) xs))) middle ≡ run (check_item_types read want i (map element_of (drop i xs))) trace
item_turn read want xs i x u trace middle within is first =
    sym (one_turn (λ l. check_item_types read want i (map element_of l)) (λ y. check_item_type read want i (element_of y))
    (λ a l. check_item_types read want (i + 1) (map element_of l)) (more_item read want i) xs i x trace middle u within is first)

-- entries that must be of types
more_entry_to : (read : Reads) (want : Entry) (i : ℕ) (x : DictItem) (xs : List DictItem)
    → entries_to read want i (map dict_item_of (x ∷ xs)) ≡ and_then (check_entry_types read want i (dict_item_of x)) (λ u. entries_to read want (i + 1) (map dict_item_of xs))
unfolding entries_to
more_entry_to read want i x xs = refl

pub entry_to_turn : (read : Reads) (want : Entry) (xs : List DictItem) (i : ℕ) (x : DictItem) (u : Unit {0}) (trace middle : Trace)
    → i < length xs → x ≡ get_or xs i x → run (check_entry_types read want i (dict_item_of x)) trace ≡ (u, middle)
    → run (entries_to read want (i + 1) (map dict_item_of (drop (i + 1) xs))) middle ≡ run (entries_to read want i (map dict_item_of (drop i xs))) trace
entry_to_turn read want xs i x u trace middle within is first =
    sym (one_turn (λ l. entries_to read want i (map dict_item_of l)) (λ y. check_entry_types read want i (dict_item_of y))
    (λ a l. entries_to read want (i + 1) (map dict_item_of l)) (more_entry_to read want i) xs i x trace middle u within is first)

-- the types of entries
more_entry : (read : Reads) (types : EntryTypes) (x : DictItem) (xs : List DictItem)
    → more_entries read types (map dict_item_of (x ∷ xs)) ≡ and_then (free_entry read (dict_item_of x)) (λ found. more_entries read (with_entry types found) (map dict_item_of xs))
unfolding more_entries
more_entry read types x xs = refl

pub entry_turn : (read : Reads) (types more : EntryTypes) (xs : List DictItem) (i : ℕ) (x : DictItem) (found : Option Entry) (trace middle : Trace)
    → i < length xs → x ≡ get_or xs i x → run (free_entry read (dict_item_of x)) trace ≡ (found, middle)
    → more ≡ with_entry types found
    → run (more_entries read more (map dict_item_of (drop (i + 1) xs))) middle ≡ run (more_entries read types (map dict_item_of (drop i xs))) trace
entry_turn read types more xs i x found trace middle within is first pushed =
    ap (λ t. run (more_entries read t (map dict_item_of (drop (i + 1) xs))) middle) pushed
    ∙ sym (one_turn (λ l. more_entries read types (map dict_item_of l)) (λ y. free_entry read (dict_item_of y))
    (λ a l. more_entries read (with_entry types a) (map dict_item_of l)) (more_entry read types) xs i x trace middle found within is first)
