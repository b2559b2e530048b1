-- What a condition says of places in a state (typing specification, "Type narrowing"; Python reference 3.13, "Boolean
-- operations", "Comparisons" and "Calls"; the library reference, `isinstance`). Nothing is reported: what the parts of
-- a condition report is reported where the condition is read.
use Rattle.std.specs.Prelude.{Bool, true, false, ◌&&◌, if◌then◌else◌, List, [], ◌∷◌, ◌++◌, Option, None, Some}
use Rattle.std.specs.Prelude.{option_map}
use Rattle.pyc_ast.specs.declared.constant.Constant.{Constant}
use Rattle.pyc_ast.specs.declared.constant.Constant.TheVariants as literal
use Rattle.pyc_ast.specs.declared.expr.ArgumentKind.{ArgumentKind}
use Rattle.pyc_ast.specs.declared.expr.ArgumentKind.TheVariants as given
use Rattle.pyc_ast.specs.declared.operator.BooleanOperator.{BooleanOperator}
use Rattle.pyc_ast.specs.declared.operator.BooleanOperator.TheVariants as joins
use Rattle.pyc_ast.specs.declared.operator.ComparisonOperator.{ComparisonOperator}
use Rattle.pyc_ast.specs.declared.operator.ComparisonOperator.TheVariants as compares
use Rattle.pyc_ast.specs.declared.operator.UnaryOperator.{UnaryOperator}
use Rattle.pyc_ast.specs.declared.operator.UnaryOperator.TheVariants as changes
use Rattle.pyc_ast.specs.Exprs.{Expr, expr, Form, constant, tuple, call, unary, boolean, compare, Element, element}
use Rattle.pyc_ast.specs.Exprs.{Elements, no_element, another_element, Argument, argument, Arguments, no_argument}
use Rattle.pyc_ast.specs.Exprs.{another_argument, Comparison, comparison, Comparisons, no_comparison}
use Rattle.pyc_ast.specs.Exprs.{another_comparison}
use Rattle.pyc_builtins.specs.MroTable.{builtin_orders}
use Rattle.pyc_class_ids.specs.Class.{Id}
use Rattle.pyc_names.specs.declared.fixed.FixedName.TheVariants as fixed
use Rattle.pyc_narrowing.specs.SplitStates.{SplitStates, unchanged, always, literal_states, truth_states, none_states}
use Rattle.pyc_narrowing.specs.SplitStates.{instance_states, swapped, in_sense, and_states, or_states}
use Rattle.pyc_obligations.specs.Judging.{known_after}
use Rattle.pyc_reading.specs.Owing.{written}
use Rattle.pyc_obligations.specs.Quiet.{quiet}
use Rattle.pyc_obligations.specs.Values.{SpecialForm, Value, fixed_special_form, isinstance_special_form}
use Rattle.pyc_places.specs.Places.{Place, place_of}
use Rattle.pyc_places.specs.States.{State, unreachable, reachable}
use Rattle.pyc_reading.specs.Traces.{Step}
use Rattle.pyc_reading.specs.Readings.{Done, and_then}
use Rattle.pyc_type_forms.specs.Types.{Ty, class_object}

-- what an expression is in a state
abbrev pub InferOperand : Type 0
InferOperand = State → Expr → Step Value

-- what a condition says in any state
abbrev pub Splits : Type 0
Splits = State → Step SplitStates

-- what an expression is in a state, of which nothing is reported
unfoldable pub look_quietly : InferOperand → State → Expr → Step Value
look_quietly look s x = and_then (quiet (look s x)) (λ heard. Done heard.result)

-- ---- class objects

-- the class of which a type is the class object
abbrev pub class_in : Ty → Option Id
class_in (class_object c) = Some c
class_in _ = None

-- the class that an expression is, if it is a class object
unfoldable pub class_at : InferOperand → State → Expr → Step (Option Id)
class_at look s x = and_then (look_quietly look s x) (λ found. Done (class_in found.ty))

-- the class that an item of a tuple is, if it is a class object: a starred item is none, and is not looked at
abbrev pub item_class : InferOperand → State → Element → Step (Option Id)
item_class look s (element true x) = Done None
item_class look s (element false x) = class_at look s x

-- to go on with a class, if there is one
abbrev pub if_class : Option Id → (Id → Step (Option (List Id))) → Step (Option (List Id))
if_class (Some c) go = go c
if_class None go = Done None

-- these classes and those of some items, in turn: none where an item is no class object, and no item is looked at after
-- that
unfoldable pub more_classes : InferOperand → State → List Id → Elements → Step (Option (List Id))
more_classes look s found no_element = Done (Some found)
more_classes look s found (another_element x rest) =
    and_then (item_class look s x) (λ class. if_class class (λ c. more_classes look s (found ++ (c ∷ [])) rest))

unfoldable pub one_class : InferOperand → State → Expr → Step (Option (List Id))
one_class look s x = and_then (class_at look s x) (λ class. Done (option_map (λ c. c ∷ []) class))

-- the classes of a tuple display of class objects, or of one class object; none where something is no class object
abbrev pub classes_at : InferOperand → State → Expr → Step (Option (List Id))
classes_at look s (expr at inside (tuple items)) = more_classes look s [] items
classes_at look s x = one_class look s x

-- ---- isinstance

-- a place of a type, tested by `isinstance` with these classes: the classes that are written in the type are asked, and
-- then these
unfoldable pub instance_test : State → Place → Ty → List Id → Step SplitStates
instance_test s place ty classes =
    and_then (known_after (written ty ++ classes) builtin_orders)
    (λ orders. Done (instance_states orders s place ty classes))

-- a place of a type, tested by `isinstance` with some classes; where one is no class object, the call says nothing
abbrev pub test_by : State → Place → Ty → Option (List Id) → Step SplitStates
test_by s place ty (Some classes) = instance_test s place ty classes
test_by s place ty None = Done (unchanged s)

-- a call of `isinstance` with a place, by what its type and the classes are
unfoldable pub isinstance_rule : InferOperand → State → Place → (tested classes : Expr) → Step SplitStates
isinstance_rule look s place tested classes =
    and_then (look_quietly look s tested) (λ found. and_then (classes_at look s classes) (test_by s place found.ty))

-- a call with a place, by which thing its callee is: any other than `isinstance` says nothing
abbrev pub call_result : InferOperand → State → Place → (tested classes : Expr) → SpecialForm → Step SplitStates
call_result look s place tested classes isinstance_special_form = isinstance_rule look s place tested classes
call_result look s place tested classes _ = Done (unchanged s)

unfoldable pub callee_rule : InferOperand → State → Place → (callee tested classes : Expr) → Step SplitStates
callee_rule look s place callee tested classes =
    and_then (look_quietly look s callee) (λ found. call_result look s place tested classes found.special_form)

-- a call with two arguments: it says nothing where the first is no place, and nothing is looked at
abbrev pub pair_rule : InferOperand → State → (callee tested classes : Expr) → Option Place → Step SplitStates
pair_rule look s callee tested classes (Some place) = callee_rule look s place callee tested classes
pair_rule look s callee tested classes None = Done (unchanged s)

-- whether an argument is given at its place
abbrev pub is_positional : ArgumentKind → Bool
is_positional given.Positional = true
is_positional _ = false

-- a call with two arguments, which says nothing where one is not given at its place
abbrev pub two_arguments : InferOperand → State → Expr → (first second : Argument) → Step SplitStates
two_arguments look s callee (argument at kind tested) (argument other more classes) =
    if is_positional kind && is_positional more then pair_rule look s callee tested classes (place_of tested)
    else Done (unchanged s)

-- a call: it says nothing with another number of arguments than two
abbrev pub call_rule : InferOperand → State → Expr → Arguments → Step SplitStates
call_rule look s callee (another_argument first (another_argument second no_argument)) =
    two_arguments look s callee first second
call_rule look s callee _ = Done (unchanged s)

-- ---- comparisons with None

-- whether an operator compares to be the same, or not to be so, or neither
abbrev pub sense_of : ComparisonOperator → Option Bool
sense_of compares.Is = Some true
sense_of compares.Eq = Some true
sense_of compares.IsNot = Some false
sense_of compares.NotEq = Some false
sense_of _ = None

abbrev pub is_none_constant : Constant → Bool
is_none_constant literal.None = true
is_none_constant _ = false

-- whether an expression is the literal None
abbrev pub is_none_literal : Expr → Bool
is_none_literal (expr at inside (constant found)) = is_none_constant found
is_none_literal _ = false

-- a place that is compared with None, in this sense
unfoldable pub none_rule : InferOperand → State → Bool → Place → Expr → Step SplitStates
none_rule look s sense place x =
    and_then (look_quietly look s x) (λ found. Done (in_sense sense (none_states s place found.ty)))

-- what is compared with None in this sense: it says nothing where it is no place
abbrev pub sense_rule : InferOperand → State → Bool → Expr → Option Place → Step SplitStates
sense_rule look s sense x (Some place) = none_rule look s sense place x
sense_rule look s sense x None = Done (unchanged s)

-- what is compared with None, by the operator's sense
abbrev pub compared_with_none : InferOperand → State → Expr → Option Bool → Step SplitStates
compared_with_none look s x (Some sense) = sense_rule look s sense x (place_of x)
compared_with_none look s x None = Done (unchanged s)

-- one comparison, which says nothing where its right side is not the literal None
abbrev pub one_comparison : InferOperand → State → Expr → Comparison → Step SplitStates
one_comparison look s x (comparison operator right) =
    if is_none_literal right then compared_with_none look s x (sense_of operator) else Done (unchanged s)

-- comparisons: a chain says nothing
abbrev pub comparison_rule : InferOperand → State → Expr → Comparisons → Step SplitStates
comparison_rule look s x (another_comparison found no_comparison) = one_comparison look s x found
comparison_rule look s x _ = Done (unchanged s)

-- ---- places

-- a place, by its type and which thing it is: `TYPE_CHECKING` always holds
abbrev pub split_typed_place : State → Place → Ty → SpecialForm → SplitStates
split_typed_place s place ty (fixed_special_form fixed.TypeChecking) = always s
split_typed_place s place ty _ = truth_states s place ty

unfoldable pub truth_rule : InferOperand → State → Place → Expr → Step SplitStates
truth_rule look s place x = and_then (look_quietly look s x) (λ found. Done
    (split_typed_place s place found.ty found.special_form))

-- an expression that is taken for its truth: it says nothing where it is no place
abbrev pub place_rule : InferOperand → State → Expr → Option Place → Step SplitStates
place_rule look s x (Some place) = truth_rule look s place x
place_rule look s x None = Done (unchanged s)

-- ---- conditions of conditions

unfoldable pub not_rule : Splits → State → Step SplitStates
not_rule operand s = and_then (operand s) (λ found. Done (swapped found))

-- `not`; other operators before an operand say nothing
abbrev pub unary_rule : UnaryOperator → Splits → State → Step SplitStates
unary_rule changes.Not operand s = not_rule operand s
unary_rule _ operand s = Done (unchanged s)

-- `and`: the right side is read where the left holds
unfoldable pub and_right : Splits → SplitStates → Step SplitStates
and_right right first = and_then (right first.if_true) (λ second. Done (and_states first second))

-- `or`: the right side is read where the left does not hold
unfoldable pub or_right : Splits → SplitStates → Step SplitStates
or_right right first = and_then (right first.if_false) (λ second. Done (or_states first second))

abbrev pub right_rule : BooleanOperator → Splits → SplitStates → Step SplitStates
right_rule joins.And right first = and_right right first
right_rule joins.Or right first = or_right right first

unfoldable pub boolean_rule : BooleanOperator → (left right : Splits) → State → Step SplitStates
boolean_rule operator left right s = and_then (left s) (right_rule operator right)

-- ---- the whole

-- in a state that is unreachable nothing is looked at, and both states are unreachable
abbrev pub if_reachable : State → Step SplitStates → Step SplitStates
if_reachable (reachable narrowings) found = found
if_reachable unreachable found = Done (unchanged unreachable)

abbrev mutual
  -- the states after a condition that is true, and after one that is not, from the state before it
  pub split : InferOperand → State → Expr → Step SplitStates
  split look s (expr at inside form) = if_reachable s (form_rule look s (expr at inside form) form)

  -- a condition of a form: what is neither of these forms nor a place says nothing
  pub form_rule : InferOperand → State → Expr → Form → Step SplitStates
  form_rule look s whole (constant found) = Done (literal_states s found)
  form_rule look s whole (unary operator x) = unary_rule operator (λ t. split look t x) s
  form_rule look s whole (boolean operator x y) =
      boolean_rule operator (λ t. split look t x) (λ t. split look t y) s
  form_rule look s whole (call callee given) = call_rule look s callee given
  form_rule look s whole (compare x rest) = comparison_rule look s x rest
  form_rule look s whole form = place_rule look s whole (place_of whole)
