-- What an expression is depends on its parts alone, none of which is higher than the highest: two readings of parts
-- that agree on those give the same.
use Rattle.std.proofs.Common.{◌≡◌, ◌≤◌, ◌+◌, ℕ, Bool, true, false, if◌then◌else◌, List, [], ◌∷◌, ◌++◌, map, Option, None, Some, refl, ap, ◌∙◌, arith}
use mathlib.Core.Path.{fun_ext}
use Rattle.std.specs.List.{slice_get}
use Rattle.pyc_arguments.specs.Arguments.{Arg, unread}
use Rattle.pyc_ast.specs.Exprs.{Expr, Elements, no_element, another_element, element, DictItems, no_dict_item, another_dict_item, entry, unpacking}
use Rattle.pyc_ast.specs.Exprs.{Arguments, no_argument, another_argument, argument}
use Rattle.pyc_displays.specs.Displays.{EntryTypes, more_types, check_item_types, check_value_type, infer_freely as display_read, list_by, check_list_display, free_list, with_entry}
use Rattle.pyc_displays.specs.Displays.{entry_types, check_pair_types, entries_to, free_pair, free_unpacking, more_entries, free_dict, check_dict_display, dict_by}
use Rattle.pyc_displays.specs.Displays.{tuple_display, set_display, list_display, dict_display}
use Rattle.pyc_displays.specs.Expecting.{Entry, expected_item, expected_entry}
use Rattle.pyc_expr_forms.specs.Contexts.{InferValue, type_in, infer_freely}
use Rattle.pyc_expr.specs.Heights.{height, elements_height, dict_items_height, arguments_height}
use Rattle.pyc_expr.specs.Parts.{element_list, dict_item_list, argument_list}
use Rattle.pyc_places.specs.States.{State}
use Rattle.pyc_reading.specs.Traces.{Step}
use Rattle.pyc_reading.specs.Readings.{Done, and_then}
use Rattle.pyc_type_forms.specs.Types.{Ty}

-- one reading after another, where both are the same
pub then_same : {A B : Type 0} (r s : Step A) (f g : A → Step B) → r ≡ s → ((a : A) → f a ≡ g a) → and_then r f ≡ and_then s g
then_same r s f g first next = ap (λ x. and_then x f) first ∙ ap (and_then s) (fun_ext next)

pub if_same : {A : Type 0} (b : Bool) (x y v w : A) → x ≡ v → y ≡ w → (if b then x else y) ≡ (if b then v else w)
if_same true x y v w first second = first
if_same false x y v w first second = second

-- two readings agree on all parts of at most this height
abbrev pub Agree : ℕ → InferValue → InferValue → Type 0
Agree n p q = (t : State) (y : Expr) (w : Option Ty) → height y ≤ n → p t y w ≡ q t y w

pub type_same : (n : ℕ) (p q : InferValue) → Agree n p q → (s : State) (x : Expr) (want : Option Ty) → height x ≤ n → type_in p s x want ≡ type_in q s x want
unfolding type_in
type_same n p q same s x want low = ap (λ (r : Step _). and_then r (λ found. Done found.ty)) (same s x want low)

pub read_same : (n : ℕ) (p q : InferValue) → Agree n p q → (s : State) (x : Expr) → height x ≤ n → infer_freely p s x ≡ infer_freely q s x
unfolding infer_freely
read_same n p q same s x low = ap (λ (r : Step _). and_then r (λ found. Done tt)) (same s x None low)

display_read_same : (n : ℕ) (p q : InferValue) → Agree n p q → (s : State) (x : Expr) → height x ≤ n → display_read (type_in p s) x ≡ display_read (type_in q s) x
unfolding display_read
display_read_same n p q same s x low = ap (λ (r : Step Ty). and_then r (λ ty. Done tt)) (type_same n p q same s x None low)

-- ---- displays of items

types_same : (n : ℕ) (p q : InferValue) → Agree n p q → (s : State) (places : List Ty) (i : ℕ) (types : List Ty) (xs : Elements) → elements_height xs ≤ n
    → more_types (type_in p s) places i types (element_list xs) ≡ more_types (type_in q s) places i types (element_list xs)
unfolding more_types
types_same n p q same s places i types no_element low = refl
types_same n p q same s places i types (another_element (element starred x) xs) low =
    then_same _ _ _ _ (type_same n p q same s x (slice_get places i) (omega (arith, low)))
    (λ ty. types_same n p q same s places (i + 1) (types ++ (ty ∷ [])) xs (omega (arith, low)))

value_same : (n : ℕ) (p q : InferValue) → Agree n p q → (s : State) (want : Ty) (i : ℕ) (x : Expr) → height x ≤ n → check_value_type (type_in p s) want i x ≡ check_value_type (type_in q s) want i x
unfolding check_value_type
value_same n p q same s want i x low = then_same _ _ _ _ (type_same n p q same s x (Some want) low) (λ got. refl)

items_same : (n : ℕ) (p q : InferValue) → Agree n p q → (s : State) (want : Ty) (i : ℕ) (xs : Elements) → elements_height xs ≤ n
    → check_item_types (type_in p s) want i (element_list xs) ≡ check_item_types (type_in q s) want i (element_list xs)
unfolding check_item_types
items_same n p q same s want i no_element low = refl
items_same n p q same s want i (another_element (element true x) xs) low =
    then_same _ _ _ _ (display_read_same n p q same s x (omega (arith, low))) (λ u. items_same n p q same s want (i + 1) xs (omega (arith, low)))
items_same n p q same s want i (another_element (element false x) xs) low =
    then_same _ _ _ _ (value_same n p q same s want i x (omega (arith, low))) (λ u. items_same n p q same s want (i + 1) xs (omega (arith, low)))

list_by_same : (n : ℕ) (p q : InferValue) → Agree n p q → (s : State) (xs : Elements) (item : Option Ty) → elements_height xs ≤ n
    → list_by (type_in p s) (element_list xs) item ≡ list_by (type_in q s) (element_list xs) item
unfolding free_list check_list_display
list_by_same n p q same s xs (Some want) low = then_same _ _ _ _ (items_same n p q same s want 0 xs low) (λ u. refl)
list_by_same n p q same s xs None low = then_same _ _ _ _ (types_same n p q same s [] 0 [] xs low) (λ types. refl)

pub list_same : (n : ℕ) (p q : InferValue) → Agree n p q → (s : State) (xs : Elements) (want : Option Ty) → elements_height xs ≤ n
    → list_display (type_in p s) (element_list xs) want ≡ list_display (type_in q s) (element_list xs) want
list_same n p q same s xs want low = list_by_same n p q same s xs (expected_item want) low

pub tuple_same : (n : ℕ) (p q : InferValue) → Agree n p q → (s : State) (xs : Elements) (want : Option Ty) → elements_height xs ≤ n
    → tuple_display (type_in p s) (element_list xs) want ≡ tuple_display (type_in q s) (element_list xs) want
unfolding tuple_display
tuple_same n p q same s xs want low = then_same _ _ _ _ (types_same n p q same s _ 0 [] xs low) (λ types. refl)

pub set_same : (n : ℕ) (p q : InferValue) → Agree n p q → (s : State) (xs : Elements) (want : Option Ty) → elements_height xs ≤ n
    → set_display (type_in p s) (element_list xs) want ≡ set_display (type_in q s) (element_list xs) want
unfolding set_display
set_same n p q same s xs want low = then_same _ _ _ _ (types_same n p q same s [] 0 [] xs low) (λ types. refl)

-- ---- displays of dictionaries

entry_same : (n : ℕ) (p q : InferValue) → Agree n p q → (s : State) (x y : Expr) (v w : Option Ty) → height x ≤ n → height y ≤ n
    → entry_types (type_in p s) x y v w ≡ entry_types (type_in q s) x y v w
unfolding entry_types
entry_same n p q same s x y v w low other =
    then_same _ _ _ _ (type_same n p q same s x v low) (λ key. then_same _ _ _ _ (type_same n p q same s y w other) (λ value. refl))

pair_same : (n : ℕ) (p q : InferValue) → Agree n p q → (s : State) (want : Entry) (i : ℕ) (x y : Expr) → height x ≤ n → height y ≤ n
    → check_pair_types (type_in p s) want i x y ≡ check_pair_types (type_in q s) want i x y
unfolding check_pair_types
pair_same n p q same s want i x y low other = then_same _ _ _ _ (entry_same n p q same s x y (Some want.key) (Some want.value) low other) (λ got. refl)

entries_same : (n : ℕ) (p q : InferValue) → Agree n p q → (s : State) (want : Entry) (i : ℕ) (xs : DictItems) → dict_items_height xs ≤ n
    → entries_to (type_in p s) want i (dict_item_list xs) ≡ entries_to (type_in q s) want i (dict_item_list xs)
unfolding entries_to
entries_same n p q same s want i no_dict_item low = refl
entries_same n p q same s want i (another_dict_item (entry x y) xs) low =
    then_same _ _ _ _ (pair_same n p q same s want i x y (omega (arith, low)) (omega (arith, low))) (λ u. entries_same n p q same s want (i + 1) xs (omega (arith, low)))
entries_same n p q same s want i (another_dict_item (unpacking x) xs) low =
    then_same _ _ _ _ (display_read_same n p q same s x (omega (arith, low))) (λ u. entries_same n p q same s want (i + 1) xs (omega (arith, low)))

free_pair_same : (n : ℕ) (p q : InferValue) → Agree n p q → (s : State) (x y : Expr) → height x ≤ n → height y ≤ n → free_pair (type_in p s) x y ≡ free_pair (type_in q s) x y
unfolding free_pair
free_pair_same n p q same s x y low other = then_same _ _ _ _ (entry_same n p q same s x y None None low other) (λ found. refl)

free_unpacking_same : (n : ℕ) (p q : InferValue) → Agree n p q → (s : State) (x : Expr) → height x ≤ n → free_unpacking (type_in p s) x ≡ free_unpacking (type_in q s) x
unfolding free_unpacking
free_unpacking_same n p q same s x low = then_same _ _ _ _ (display_read_same n p q same s x low) (λ u. refl)

more_entries_same : (n : ℕ) (p q : InferValue) → Agree n p q → (s : State) (types : EntryTypes) (xs : DictItems) → dict_items_height xs ≤ n
    → more_entries (type_in p s) types (dict_item_list xs) ≡ more_entries (type_in q s) types (dict_item_list xs)
unfolding more_entries
more_entries_same n p q same s types no_dict_item low = refl
more_entries_same n p q same s types (another_dict_item (entry x y) xs) low =
    then_same _ _ _ _ (free_pair_same n p q same s x y (omega (arith, low)) (omega (arith, low))) (λ found. more_entries_same n p q same s (with_entry types found) xs (omega (arith, low)))
more_entries_same n p q same s types (another_dict_item (unpacking x) xs) low =
    then_same _ _ _ _ (free_unpacking_same n p q same s x (omega (arith, low))) (λ found. more_entries_same n p q same s (with_entry types found) xs (omega (arith, low)))

dict_by_same : (n : ℕ) (p q : InferValue) → Agree n p q → (s : State) (xs : DictItems) (found : Option Entry) → dict_items_height xs ≤ n
    → dict_by (type_in p s) (dict_item_list xs) found ≡ dict_by (type_in q s) (dict_item_list xs) found
unfolding free_dict check_dict_display
dict_by_same n p q same s xs (Some want) low = then_same _ _ _ _ (entries_same n p q same s want 0 xs low) (λ u. refl)
dict_by_same n p q same s xs None low = then_same _ _ _ _ (more_entries_same n p q same s _ xs low) (λ types. refl)

pub dict_same : (n : ℕ) (p q : InferValue) → Agree n p q → (s : State) (xs : DictItems) (want : Option Ty) → dict_items_height xs ≤ n
    → dict_display (type_in p s) (dict_item_list xs) want ≡ dict_display (type_in q s) (dict_item_list xs) want
dict_same n p q same s xs want low = dict_by_same n p q same s xs (expected_entry want) low

-- ---- arguments

pub arguments_same : (n : ℕ) (p q : InferValue) → Agree n p q → (s : State) (xs : Arguments) → arguments_height xs ≤ n
    → map (unread (type_in p s)) (argument_list xs) ≡ map (unread (type_in q s)) (argument_list xs)
arguments_same n p q same s no_argument low = refl
arguments_same n p q same s (another_argument (argument at kind x) xs) low =
    let first : type_in p s x ≡ type_in q s x = fun_ext (λ want. type_same n p q same s x want (omega (arith, low))) in
    ap (λ (got : Option Ty → Step Ty). record { at = at; kind = kind; got = got } ∷ map (unread (type_in p s)) (argument_list xs)) first
    ∙ ap (λ (l : List Arg). record { at = at; kind = kind; got = type_in q s x } ∷ l) (arguments_same n p q same s xs (omega (arith, low)))
