-- The heads of `for`, `with` and `except` (Python reference 3.13, "The for statement", "The with statement" and "The
-- try statement"; typing specification, "Type narrowing").
use Rattle.std.specs.Prelude.{ℕ, Bool, true, false, List, [], ◌∷◌, if◌then◌else◌, Option, None, Some}
use Rattle.std.specs.List.{list_any}
use Rattle.pyc_locals.specs.AssignedPlaces.{drop_places}
use Rattle.pyc_assignments.specs.Assignments.{assign_target}
use Rattle.pyc_ast.specs.declared.position.Position.{Position}
use Rattle.pyc_ast.specs.Exprs.{Expr, expr, at_of}
use Rattle.pyc_ast.specs.Exprs as form
use Rattle.pyc_ast.specs.Statements.{For, WithItem}
use Rattle.pyc_ast.specs.Targets.{Target}
use Rattle.pyc_body_context.specs.Bodies.{Body}
use Rattle.pyc_body_context.specs.BodyTargets.{body_reads}
use Rattle.pyc_subscripts.specs.Iteration.{infer_iteration}
use Rattle.pyc_locals.specs.Locals.{declared}
use Rattle.pyc_locals.specs.FlowStates.{FlowState, in_state, with_declared}
use Rattle.pyc_places.specs.Places.{Place}
use Rattle.pyc_places.specs.States.{with_place, drop_place}
use Rattle.pyc_reading.specs.Traces.{Step}
use Rattle.pyc_reading.specs.Readings.{Done, ◌>>=◌}
use Rattle.pyc_simple_statements.specs.Expressions.{part_type, part_read}
use Rattle.pyc_type_forms.specs.Types.{Ty, Tys, nil, cons, any, instance, class_object, tuple}
use Rattle.pyc_type_forms.specs.Unions.{union_of}

-- ---- what handlers catch

-- what is caught by a value of some type: an instance of a class object
abbrev pub caught_instance : Ty → Ty
caught_instance (class_object c) = instance c
caught_instance _ = any

abbrev pub row_instances : Tys → List Ty
row_instances nil = []
row_instances (cons ty rest) = caught_instance ty ∷ row_instances rest

abbrev pub is_any : Ty → Bool
is_any any = true
is_any _ = false

-- what one of some types is: Any if one of them is Any, or if there are none
abbrev pub one_of : List Ty → Ty
one_of [] = any
one_of (ty ∷ types) = if list_any is_any (ty ∷ types) then any else union_of (ty ∷ types)

-- what is caught by a value of some type, by whether its expression is a tuple display: the display catches what one of
-- its items does
abbrev pub caught_by : Bool → Ty → Ty
caught_by true (tuple items) = one_of (row_instances items)
caught_by is_display ty = caught_instance ty

abbrev pub is_tuple_display : Expr → Bool
is_tuple_display (expr at inside (form.tuple items)) = true
is_tuple_display _ = false

-- a name that is declared as Any, and is narrowed to a type
abbrev pub name_caught : List ℕ → Ty → FlowState → FlowState
name_caught x ty p =
    with_declared x (declared any) (in_state p (with_place (x ∷ []) ty (drop_place (x ∷ []) p.state)))

-- some name of a handler is narrowed to what the handler catches
abbrev pub caught_bound : Option (List ℕ) → Ty → FlowState → FlowState
caught_bound (Some x) ty p = name_caught x ty p
caught_bound None ty p = p

module _ (body : Body) where
  unfoldable pub caught_type : FlowState → Expr → Step Ty
  caught_type p x = do
    ty ← part_type body p x None
    Done (caught_by (is_tuple_display x) ty)

  abbrev pub optional_caught : FlowState → Option Expr → Step Ty
  optional_caught p (Some x) = caught_type p x
  optional_caught p None = Done any

  -- the head of a handler, by its expression and its name
  unfoldable pub caught_read : Option Expr → Option (List ℕ) → FlowState → Step FlowState
  caught_read x name p = do
    ty ← optional_caught p x
    Done (caught_bound name ty p)

  -- ---- `with`

  -- some target of an item is assigned Any, whatever the item gives
  abbrev pub item_target : Position → Option Target → FlowState → Step FlowState
  item_target at (Some to) p = assign_target (body_reads body) at to any p
  item_target at None p = Done p

  unfoldable pub item_read : WithItem → FlowState → Step FlowState
  item_read item p = do
    u ← part_read body p item.context
    item_target (at_of item.context) item.target p

  -- the items of a `with`, in turn
  unfoldable pub items_read : List WithItem → FlowState → Step FlowState
  items_read [] p = Done p
  items_read (item ∷ rest) p = do
    q ← item_read item p
    items_read rest q

  -- ---- `for`

  -- the type of what each turn of a `for` assigns
  unfoldable pub turn_item : For → FlowState → Step Ty
  turn_item head p = do
    ty ← part_type body p head.iterable None
    infer_iteration (at_of head.iterable) ty

  -- a turn of a `for` that assigns some places: its iterable is read before the loop, and its target is assigned where
  -- nothing is known of the places
  unfoldable pub turn_begun : For → List Place → FlowState → Step FlowState
  turn_begun head places p = do
    item ← turn_item head p
    assign_target (body_reads body) (at_of head.iterable) head.target item (in_state p (drop_places places p.state))
