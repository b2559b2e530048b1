-- What the tests of a place keep of the type of its value (typing specification, "Type narrowing"; the library
-- reference, `isinstance`).
use Rattle.std.specs.Prelude.{◌≡◌, Bool, true, false, not, ◌&&◌, ◌||◌, IsTrue, List, [], ◌∷◌, Option}
use Rattle.std.specs.Prelude.{None, Some}
use Rattle.std.specs.List.{list_any}
use Rattle.pyc_class_ids.specs.declared.builtin_class.BuiltinClass.{BuiltinClass}
use Rattle.pyc_class_ids.specs.declared.builtin_class.BuiltinClass.TheVariants as class
use Rattle.pyc_class_ids.specs.Class.{Id, builtin, same_class, int_id, float_id}
use Rattle.pyc_class_ids.specs.Mro.{MroTable, leads}
use Rattle.pyc_builtins.specs.MroTable.{builtin_orders}
use Rattle.pyc_narrowing.specs.SplitStates.{none_of}
use Rattle.pyc_narrowing_laws.specs.Values.{Value, none_value, instance_value, is_none_value, has_known_order}
use Rattle.pyc_narrowing_laws.specs.Values.{is_instance, is_of}
use Rattle.pyc_type_forms.specs.Narrowing.{narrow_to, narrow_away, without_none}
use Rattle.pyc_type_forms.specs.Types.{Ty, none, module_type, instance}
use Rattle.pyc_type_forms.specs.Unions.{items_of, union_of}
use Rattle.pyc_types.specs.MroLaws.{AreOrderly}

-- whether some type is left, and a value is of it
abbrev pub is_of_left : MroTable → Value → Option Ty → Bool
is_of_left orders v (Some left) = is_of orders v left
is_of_left orders v None = false

-- ---- unions

-- a value of one of some types is of their union
abbrev pub UnionKeeps : Type 0
UnionKeeps =
    (orders : MroTable) (v : Value) (tys : List Ty) → IsTrue (list_any (is_of orders v) tys)
    → IsTrue (is_of orders v (union_of tys))

-- a value is of a type just where it is of one of its items
abbrev pub UnionIsItsItems : Type 0
UnionIsItsItems = (orders : MroTable) (v : Value) (ty : Ty) → is_of orders v ty ≡ list_any (is_of orders v)
    (items_of ty)

-- ---- None

-- a value of a type that is not None is of the type without None
abbrev pub WithoutNoneKeeps : Type 0
WithoutNoneKeeps =
    (orders : MroTable) (v : Value) (ty : Ty) → IsTrue (is_of orders v ty) → IsTrue (not (is_none_value v))
    → IsTrue (is_of_left orders v (without_none ty))

-- a value of a type that is None is of what is left where it is None
abbrev pub NoneKeeps : Type 0
NoneKeeps =
    (orders : MroTable) (v : Value) (ty : Ty) → IsTrue (is_of orders v ty) → IsTrue (is_none_value v)
    → IsTrue (is_of_left orders v (none_of ty))

-- ---- `isinstance`

-- whether `isinstance` by some classes says yes of a value
abbrev pub is_accepted : MroTable → List Id → Value → Bool
is_accepted orders classes v = list_any (is_instance orders v) classes

-- of each two classes of which a value is an instance, one stands in the order of the other
abbrev pub IsInLine : MroTable → Value → Type 0
IsInLine orders v =
    (c d : Id) → IsTrue (is_instance orders v c) → IsTrue (is_instance orders v d)
    → IsTrue (leads orders c d || leads orders d c)

-- whether one of some classes is this one
abbrev pub is_tested : List Id → Id → Bool
is_tested classes c = list_any (λ other. same_class other c) classes

-- whether a value that is no float stands for one of an item
abbrev pub stands_in : MroTable → Value → Ty → Bool
stands_in orders v (instance d) = same_class d float_id && not (is_instance orders v float_id)
stands_in orders v _ = false

-- whether the rule of a test that says yes sees the values of an item: None and modules are instances of `object`, but
-- the rule leaves nothing of them; of an int that stands for a float it knows where `int` itself is tested
abbrev pub is_seen_by_yes : MroTable → List Id → Value → Ty → Bool
is_seen_by_yes orders classes v none = false
is_seen_by_yes orders classes v (module_type m) = false
is_seen_by_yes orders classes v item = not (stands_in orders v item) || is_tested classes int_id

-- whether the rule of a test that says no sees a value of an item: an int that stands for a float is no instance of
-- `float`, but the rule takes the item away
abbrev pub is_seen_by_no : MroTable → List Id → Value → Ty → Bool
is_seen_by_no orders classes v item = not (stands_in orders v item) || not (is_tested classes float_id)

-- whether a value is of some item of a type, and the rule sees it there
abbrev pub is_of_seen : MroTable → (Value → Ty → Bool) → Value → Ty → Bool
is_of_seen orders sees v ty = list_any (λ item. is_of orders v item && sees v item) (items_of ty)

-- a value of a type of which the test says yes is of what is left there
abbrev pub NarrowToKeeps : Type 0
NarrowToKeeps =
    (orders : MroTable) (v : Value) (ty : Ty) (classes : List Id) → IsInLine orders v
    → IsTrue (is_of_seen orders (is_seen_by_yes orders classes) v ty) → IsTrue (is_accepted orders classes v)
    → IsTrue (is_of_left orders v (narrow_to orders ty classes))

-- a value of a type of which the test says no is of what is left there
abbrev pub NarrowAwayKeeps : Type 0
NarrowAwayKeeps =
    (orders : MroTable) (v : Value) (ty : Ty) (classes : List Id) → AreOrderly orders → IsTrue
    (has_known_order orders v)
    → IsTrue (is_of_seen orders (is_seen_by_no orders classes) v ty) → IsTrue (not (is_accepted orders classes v))
    → IsTrue (is_of_left orders v (narrow_away orders ty classes))

-- the instances of builtin classes, by the builtin orders, meet what the laws of `isinstance` ask of values
abbrev pub BuiltinValuesMeetThePremises : Type 0
BuiltinValuesMeetThePremises =
    (c : BuiltinClass) (fits : Ty → Bool) → let v = instance_value (builtin c) fits in
    IsInLine builtin_orders v × IsTrue (has_known_order builtin_orders v)

-- ---- values that the rules lose

-- a value of a type of which a test by one builtin class says yes, where the rule leaves nothing
abbrev pub IsLostByYes : Value → Ty → BuiltinClass → Type 0
IsLostByYes v ty tested =
    IsTrue (is_of builtin_orders v ty) × IsTrue (is_accepted builtin_orders (builtin tested ∷ []) v)
    × (narrow_to builtin_orders ty (builtin tested ∷ []) ≡ None)

-- a value of a type of which a test by one builtin class says no, where the rule leaves nothing
abbrev pub IsLostByNo : Value → Ty → BuiltinClass → Type 0
IsLostByNo v ty tested =
    IsTrue (is_of builtin_orders v ty) × IsTrue (not (is_accepted builtin_orders (builtin tested ∷ []) v))
    × (narrow_away builtin_orders ty (builtin tested ∷ []) ≡ None)

-- None is lost where `object` is tested, and an int that stands for a float where `bool` or `float` is tested
abbrev pub RulesLoseValues : Type 0
RulesLoseValues =
    (fits : Ty → Bool)
    → IsLostByYes none_value none class.Object
    × IsLostByYes (instance_value (builtin class.Bool) fits) (instance float_id) class.Bool
    × IsLostByNo (instance_value int_id fits) (instance float_id) class.Float
