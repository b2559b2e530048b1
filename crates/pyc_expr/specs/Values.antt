-- What an expression is: its value, what is asked for it and what is reported of it, in a state and by what is expected
-- of it (Python reference 3.13, "Expressions"; typing specification, "Type system concepts").
use Rattle.std.specs.Prelude.{ℕ, zero, suc, Option}
use Rattle.pyc_ast.specs.declared.position.Position.{Position}
use Rattle.pyc_ast.specs.Exprs as form
use Rattle.pyc_ast.specs.Exprs.{Expr, expr, Form}
use Rattle.pyc_displays.specs.Displays.{tuple_display, list_display, set_display, dict_display}
use Rattle.pyc_expr_forms.specs.CallValues.{call_type}
use Rattle.pyc_expr_forms.specs.Choices.{boolean_type, choice_type}
use Rattle.pyc_expr_forms.specs.Contexts.{Context, InferValue, type_in, looked_by, infer_freely, plainly}
use Rattle.pyc_expr_forms.specs.Names.{str_type, opaque_type, name_value, attribute_value}
use Rattle.pyc_expr_forms.specs.Operations.{unary_type, binary_type, compare_type}
use Rattle.pyc_expr.specs.Parts.{element_list, dict_item_list, argument_list}
use Rattle.pyc_expr_forms.specs.Subscripting.{infer_optional, subscript_type, index_type}
use Rattle.pyc_narrowing.specs.Splitting.{split}
use Rattle.pyc_narrowing.specs.SplitStates.{SplitStates}
use Rattle.pyc_obligations.specs.Values.{Value, plain_value}
use Rattle.pyc_places.specs.States.{State, unreachable, reachable}
use Rattle.pyc_reading.specs.Traces.{Step}
use Rattle.pyc_reading.specs.Readings.{Done, and_then}
use Rattle.pyc_scopes.specs.Literals.{constant_type}
use Rattle.pyc_type_forms.specs.Types.{Ty, any}

-- what is read and then is Any
unfoldable pub any_after : Step (Unit {0}) → Step Ty
any_after read = and_then read (λ u. Done any)

-- the type of an expression with conditions, and of what waits
abbrev pub choice_by_form : InferValue → State → Option Ty → Form → Step Ty
choice_by_form parts s want (form.boolean operator x y) = boolean_type parts s want operator x y
choice_by_form parts s want (form.conditional test x y) = choice_type parts s want test x y
choice_by_form parts s want (form.await x) = any_after (infer_freely parts s x)
choice_by_form parts s want (form.yield x) = any_after (infer_optional parts s x)
choice_by_form parts s want (form.yield_from x) = any_after (infer_freely parts s x)
choice_by_form parts s want _ = Done any

-- the type of a call, a subscript or an operation
abbrev pub infer_operation_form : Context → InferValue → State → Position → Option Ty → Form → Step Ty
infer_operation_form context parts s at want (form.call callee given) =
    call_type context parts s at callee (argument_list given)
infer_operation_form context parts s at want (form.subscript x brackets) = subscript_type parts s at x brackets
infer_operation_form context parts s at want (form.unary operator x) = unary_type parts s at operator x
infer_operation_form context parts s at want (form.binary operator x y) = binary_type parts s at operator x y
infer_operation_form context parts s at want (form.compare x rest) = compare_type parts s at x rest
infer_operation_form context parts s at want other = choice_by_form parts s want other

-- the type of an expression that is no place
abbrev pub infer_type_form : Context → InferValue → State → Position → Option Ty → Form → Step Ty
infer_type_form context parts s at want (form.constant found) = Done (constant_type found)
infer_type_form context parts s at want (form.string_annotation x) = Done str_type
infer_type_form context parts s at want (form.unchecked found) = Done (opaque_type found)
infer_type_form context parts s at want (form.tuple items) = tuple_display (type_in parts s) (element_list items) want
infer_type_form context parts s at want (form.list items) = list_display (type_in parts s) (element_list items) want
infer_type_form context parts s at want (form.set items) = set_display (type_in parts s) (element_list items) want
infer_type_form context parts s at want (form.dict items) = dict_display (type_in parts s) (dict_item_list items) want
infer_type_form context parts s at want other = infer_operation_form context parts s at want other

-- an expression by its form, which begins at a position within its parentheses
abbrev pub infer_form : Context → InferValue → State → Expr → Position → Option Ty → Form → Step Value
infer_form context parts s whole at want (form.name x) = name_value context s whole at x
infer_form context parts s whole at want (form.attribute x n) = attribute_value parts s whole at x n
infer_form context parts s whole at want other = plainly (infer_type_form context parts s at want other)

-- an expression, by what its parts are: in a state that is unreachable nothing is read
abbrev pub infer_by_parts : Context → InferValue → InferValue
infer_by_parts context parts unreachable x want = Done (plain_value any)
infer_by_parts context parts (reachable narrowings) (expr at inside found) want =
    infer_form context parts (reachable narrowings) (expr at inside found) inside want found

-- an expression whose parts lie at most so deep: deeper ones are Any
abbrev pub value_at_depth : ℕ → Context → InferValue
value_at_depth zero context s x want = Done (plain_value any)
value_at_depth (suc depth) context s x want = infer_by_parts context (value_at_depth depth context) s x want

-- ---- the whole

-- how deep the parts of expressions lie at most
unfoldable pub most_depth : ℕ
most_depth = 1000

-- what an expression is
unfoldable pub infer : Context → InferValue
infer context = value_at_depth most_depth context

-- its type
abbrev pub infer_type : Context → State → Expr → Option Ty → Step Ty
infer_type context s x want = type_in (infer context) s x want

-- to read it, whatever it is
abbrev pub read_by : Context → State → Expr → Step (Unit {0})
read_by context s x = infer_freely (infer context) s x

-- the states after a condition that is true, and after one that is not
abbrev pub split_by : Context → State → Expr → Step SplitStates
split_by context s x = split (looked_by (infer context)) s x

-- to read a condition, and the states after it
unfoldable pub condition : Context → State → Expr → Step SplitStates
condition context s x = and_then (read_by context s x) (λ u. split_by context s x)

-- the type of what stands between the brackets of a subscript
abbrev pub infer_index : Context → State → form.Index → Step Ty
infer_index context s brackets = index_type (infer context) s brackets
