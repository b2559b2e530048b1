-- Whether a type is assignable to another, by the orders of the classes that are written in both, each of which is
-- asked (typing specification, "Type system concepts").
use Rattle.std.specs.Prelude.{Bool, true, ◌&&◌, if◌then◌else◌, List, [], ◌∷◌, ◌++◌}
use Rattle.pyc_builtins.specs.MroTable.{builtin_orders}
use Rattle.pyc_class_ids.specs.Class.{Id, builtin, user, same_class}
use Rattle.pyc_class_ids.specs.Mro.{Mro, MroTable}
use Rattle.pyc_obligations.specs.Asking.{class_order}
use Rattle.pyc_reading.specs.Traces.{Step}
use Rattle.pyc_reading.specs.Keys as key
use Rattle.pyc_reading.specs.Owing.{Obligation, Detail, written}
use Rattle.pyc_reading.specs.Readings.{Done, Ask, and_then, each, ◌>>=◌}
use Rattle.pyc_type_forms.specs.Types.{Ty}
use Rattle.pyc_types.specs.Ways.{assignable}

-- to ask the order of a class
abbrev pub class_asked : Id → Step (Unit {0})
class_asked (builtin c) = Done tt
class_asked (user m x) = Ask (key.class (user m x)) (λ answer. Done tt)

-- to ask the orders of classes in turn
abbrev pub classes_asked : List Id → Step (Unit {0})
classes_asked = each class_asked

-- orders, and that of one more class
abbrev pub with_order : MroTable → Id → Mro → MroTable
with_order orders c order = λ d. if same_class c d then order else orders d

-- the orders of classes, once each of these was asked: these orders are known before
unfoldable pub known_after : List Id → MroTable → Step MroTable
known_after [] orders = Done orders
known_after (c ∷ rest) orders = and_then (class_order c) (λ order. known_after rest (with_order orders c order))

-- whether a type is assignable to another
unfoldable pub judge_assignable : Ty → Ty → Step Bool
judge_assignable got want = do
  orders ← known_after (written got ++ written want) builtin_orders
  Done (assignable orders got want)

-- to ask the classes by which details are known
abbrev pub detail_asked : Detail → Step (Unit {0})
detail_asked detail = classes_asked (written detail.got ++ written detail.want)

abbrev pub details_asked : List Detail → Step (Unit {0})
details_asked = each detail_asked

-- whether all obligations of a row hold
unfoldable pub judge_row : List Obligation → Step Bool
judge_row [] = Done true
judge_row (o ∷ rest) = do
  goes ← judge_assignable o.got o.want
  asked ← details_asked o.details
  others ← judge_row rest
  Done (goes && others)
