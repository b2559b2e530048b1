-- What a test leaves of a type (typing specification, "Type narrowing"; Python standard library, `isinstance`).
use Rattle.std.specs.Prelude.{List, [], ◌∷◌, Bool, true, false, not, ◌&&◌, ◌||◌, if◌then◌else◌, Option, None, Some}
use Rattle.std.specs.List.{list_any, flat_map}
use Rattle.pyc_class_ids.specs.declared.builtin_class.BuiltinClass.TheVariants as class
use Rattle.pyc_class_ids.specs.Class.{Id, builtin, same_class, int_id, float_id}
use Rattle.pyc_class_ids.specs.Mro.{MroTable, leads, is_unknown}
use Rattle.pyc_type_forms.specs.Types.{Ty, any, none, instance, class_object, list, dict, tuple, tuple_of}
use Rattle.pyc_type_forms.specs.Types.{callable}
use Rattle.pyc_type_forms.specs.TypeView.{tys_of}
use Rattle.pyc_type_forms.specs.Equality.{same_types}
use Rattle.pyc_type_forms.specs.Instances.{instance_of}
use Rattle.pyc_type_forms.specs.Unions.{items_of, union_of}

-- what these items of a type are as a type: none where there is no item, the type itself where they are all of it
abbrev pub remaining_type : Ty → List Ty → Option Ty
remaining_type ty [] = None
remaining_type ty items = Some (if same_types (tys_of items) (tys_of (items_of ty)) then ty else union_of items)

-- an item, unless it is dropped
abbrev pub unless : Bool → Ty → List Ty
unless is_dropped item = if is_dropped then [] else item ∷ []

-- ---- instances

-- the class of which a type has the instances
abbrev pub class_of : Ty → Option Id
class_of (instance c) = Some c
class_of (list item) = Some (builtin class.List)
class_of (dict key value) = Some (builtin class.Dict)
class_of (tuple items) = Some (builtin class.Tuple)
class_of (tuple_of item) = Some (builtin class.Tuple)
class_of _ = None

-- whether the instances of d are all instances of c, as far as is known
abbrev pub is_within : MroTable → Id → Id → Bool
is_within orders d c = is_unknown (orders d) || leads orders d c

-- whether some instances of d may be instances of c: d is in the order of c, that order is not known, or an int stands
-- where a float is wanted
abbrev pub may_be_within : MroTable → Id → Id → Bool
may_be_within orders d c =
    (leads orders c d || is_unknown (orders c)) || (same_class d float_id && same_class c int_id)

-- what `isinstance` by c leaves of an item with the instances of d
abbrev pub narrowed_instance : MroTable → Ty → Id → Id → List Ty
narrowed_instance orders item d c =
    if is_within orders d c then item ∷ []
    else if may_be_within orders d c then instance_of c ∷ []
    else []

-- what `isinstance` by c leaves of an item with some class; without a class nothing
abbrev pub narrowed_by_class : MroTable → Ty → Option Id → Id → List Ty
narrowed_by_class orders item (Some d) c = narrowed_instance orders item d c
narrowed_by_class orders item None c = []

-- what `isinstance` by c leaves of an item: of Any the instances of c, of a callable and of a class object itself
abbrev pub narrowed_item : MroTable → Ty → Id → List Ty
narrowed_item orders any c = instance_of c ∷ []
narrowed_item orders (callable params result) c = callable params result ∷ []
narrowed_item orders (class_object d) c = class_object d ∷ []
narrowed_item orders item c = narrowed_by_class orders item (class_of item) c

-- what `isinstance` leaves of an item, class by class
abbrev pub narrowed_items : MroTable → List Id → Ty → List Ty
narrowed_items orders classes item = flat_map (narrowed_item orders item) classes

-- what a type is where `isinstance` by these classes says yes; none where it never does
abbrev pub narrow_to : MroTable → Ty → List Id → Option Ty
narrow_to orders ty classes = remaining_type ty (flat_map (narrowed_items orders classes) (items_of ty))

-- whether the instances of d are all instances of one of these classes
abbrev pub is_taken_class : MroTable → List Id → Option Id → Bool
is_taken_class orders classes (Some d) = not (is_unknown (orders d)) && list_any (leads orders d) classes
is_taken_class orders classes None = false

-- whether `isinstance` by these classes says yes of each value of an item
abbrev pub is_taken : MroTable → List Id → Ty → Bool
is_taken orders classes item = is_taken_class orders classes (class_of item)

-- what a type is where `isinstance` by these classes says no; none where it never does
abbrev pub narrow_away : MroTable → Ty → List Id → Option Ty
narrow_away orders ty classes =
    remaining_type ty (flat_map (λ item. unless (is_taken orders classes item) item) (items_of ty))

-- ---- None

-- whether a type is None
abbrev pub is_none : Ty → Bool
is_none none = true
is_none _ = false

-- what a type is without None; none where nothing is left
abbrev pub without_none : Ty → Option Ty
without_none ty = remaining_type ty (flat_map (λ item. unless (is_none item) item) (items_of ty))
