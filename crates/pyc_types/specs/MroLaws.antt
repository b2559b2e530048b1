-- Assignability as an order of types: each type goes to itself, and where one goes to a second and that to a third, the
-- first goes to the third (typing specification, "Type system concepts").
use Rattle.std.specs.Prelude.{ℕ, Bool, true, false, ◌&&◌, ◌||◌, not, bytes_eq, List, [], ◌∷◌, Option, None, Some}
use Rattle.std.specs.Prelude.{◌≡◌, IsTrue, map}
use Rattle.std.specs.List.{list_all}
use Rattle.pyc_class_ids.specs.declared.builtin_class.BuiltinClass.{BuiltinClass}
use Rattle.pyc_class_ids.specs.Class.{Id, builtin}
use Rattle.pyc_class_ids.specs.Mro.{MroTable, leads, is_unknown}
use Rattle.pyc_type_forms.specs.Types.{Kind, plain, star, keyword_only, double_star, Slot, Ty, Tys, Params, Listed, any}
use Rattle.pyc_type_forms.specs.Types.{none, module_type, instance, class_object, list, dict, tuple, tuple_of, union}
use Rattle.pyc_type_forms.specs.Types.{callable, nil, cons, dots, listed, no_param, param}
use Rattle.pyc_builtins.specs.MroTable.{builtin_order, builtin_orders}
use Rattle.pyc_types.specs.Assignable.{slots_of}
use Rattle.pyc_types.specs.Ways.{assignable}

-- ---- each type to itself

-- whether a parameter of the first kind may be written before one of the second: the plain ones come first, then at
-- most one `*`, then those by name alone, then at most one `**` (Python language reference, "Function definitions")
abbrev pub may_precede : Kind → Kind → Bool
may_precede (plain name) later = true
may_precede star (keyword_only name) = true
may_precede star double_star = true
may_precede (keyword_only name) (keyword_only other) = true
may_precede (keyword_only name) double_star = true
may_precede _ _ = false

-- the name by which a call may fill a parameter
abbrev pub name_of : Kind → Option (List ℕ)
name_of (plain name) = name
name_of star = None
name_of (keyword_only name) = Some name
name_of double_star = None

-- whether two names differ, where there are both
abbrev pub are_apart : Option (List ℕ) → Option (List ℕ) → Bool
are_apart (Some name) (Some other) = not (bytes_eq name other)
are_apart _ _ = true

-- whether one parameter may be written before another
abbrev pub may_stand_before : Slot → Slot → Bool
may_stand_before slot later = may_precede slot.kind later.kind && are_apart (name_of slot.kind) (name_of later.kind)

-- whether parameters stand in the order in which Python has them written, no two of one name
abbrev pub are_regular : List Slot → Bool
are_regular [] = true
are_regular (slot ∷ slots) = list_all (may_stand_before slot) slots && are_regular slots

abbrev mutual
  -- no module stands in a type, and the parameters of each callable in it are regular
  pub IsRegular : Ty → Type 0
  IsRegular any = Unit
  IsRegular none = Unit
  IsRegular (module_type m) = ⊥
  IsRegular (instance c) = Unit
  IsRegular (class_object c) = Unit
  IsRegular (list x) = IsRegular x
  IsRegular (dict k v) = IsRegular k × IsRegular v
  IsRegular (tuple xs) = IsRegularRow xs
  IsRegular (tuple_of x) = IsRegular x
  IsRegular (union xs) = IsRegularRow xs
  IsRegular (callable ps r) = IsRegularCall ps × IsRegular r

  -- each type of a row is regular
  pub IsRegularRow : Tys → Type 0
  IsRegularRow nil = Unit
  IsRegularRow (cons x xs) = IsRegular x × IsRegularRow xs

  -- what a call takes is regular
  pub IsRegularCall : Params → Type 0
  IsRegularCall dots = Unit
  IsRegularCall (listed ps) = IsTrue (are_regular (slots_of ps)) × HasRegularTypes ps

  -- the type of each parameter is regular
  pub HasRegularTypes : Listed → Type 0
  HasRegularTypes no_param = Unit
  HasRegularTypes (param slot t ps) = IsRegular t × HasRegularTypes ps

-- each class stands in its own order, where that is known
abbrev pub HoldsItself : MroTable → Type 0
HoldsItself orders = (c : Id) → IsTrue (is_unknown (orders c) || leads orders c c)

-- each regular type is assignable to itself
abbrev pub IsReflexive : Type 0
IsReflexive = (orders : MroTable) → HoldsItself orders → (ty : Ty) → IsRegular ty → IsTrue (assignable orders ty ty)

-- ---- one type through a second to a third

abbrev mutual
  -- no Any, no callable and no class of unknown order stands in a type
  pub IsPlain : MroTable → Ty → Type 0
  IsPlain orders any = ⊥
  IsPlain orders none = Unit
  IsPlain orders (module_type m) = Unit
  IsPlain orders (instance c) = IsTrue (not (is_unknown (orders c)))
  IsPlain orders (class_object c) = IsTrue (not (is_unknown (orders c)))
  IsPlain orders (list x) = IsPlain orders x
  IsPlain orders (dict k v) = IsPlain orders k × IsPlain orders v
  IsPlain orders (tuple xs) = IsPlainRow orders xs
  IsPlain orders (tuple_of x) = IsPlain orders x
  IsPlain orders (union xs) = IsPlainRow orders xs
  IsPlain orders (callable ps r) = ⊥

  -- no Any, no callable and no class of unknown order stands in a type of a row
  pub IsPlainRow : MroTable → Tys → Type 0
  IsPlainRow orders nil = Unit
  IsPlainRow orders (cons x xs) = IsPlain orders x × IsPlainRow orders xs

-- the order of a class, where it is known, holds the order of each class in it
abbrev pub HoldsMros : MroTable → Type 0
HoldsMros orders =
    (c d e : Id) → IsTrue (not (is_unknown (orders c))) → IsTrue (leads orders c d) → IsTrue (leads orders d e)
    → IsTrue (leads orders c e)

-- the order of each builtin class is its builtin order
abbrev pub HasBuiltins : MroTable → Type 0
HasBuiltins orders = (class : BuiltinClass) → (orders (builtin class)).classes ≡ map builtin (builtin_order class)

-- each known order holds the orders of its classes, and the builtin classes have theirs
abbrev pub AreOrderly : MroTable → Type 0
AreOrderly orders = HoldsMros orders × HasBuiltins orders

-- of plain types, what is assignable to a type is assignable to all that this one is assignable to
abbrev pub IsTransitive : Type 0
IsTransitive =
    (orders : MroTable) → AreOrderly orders → (a b c : Ty) → IsPlain orders a → IsPlain orders b → IsPlain orders c
    → IsTrue (assignable orders a b) → IsTrue (assignable orders b c) → IsTrue (assignable orders a c)

-- ---- orders that meet the premises

-- the orders of the builtin classes alone meet what both laws ask of orders
abbrev pub BuiltinMrosAreOrderly : Type 0
BuiltinMrosAreOrderly = HoldsItself builtin_orders × AreOrderly builtin_orders
