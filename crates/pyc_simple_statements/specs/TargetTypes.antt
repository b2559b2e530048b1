-- The types of targets before they are assigned or deleted (Python reference 3.13, "Augmented assignment statements"
-- and "The del statement"; typing specification, "Type narrowing").
use Rattle.std.specs.Prelude.{ℕ, List, Option, None, Some}
use Rattle.pyc_ast.specs.declared.position.Position.{Position}
use Rattle.pyc_ast.specs.Exprs.{Expr, Index}
use Rattle.pyc_ast.specs.Targets.{Target, target, TargetForm, name, unpacking}
use Rattle.pyc_ast.specs.Targets as to
use Rattle.pyc_attributes.specs.AttributeValues.{attribute}
use Rattle.pyc_body_context.specs.Bodies.{Body}
use Rattle.pyc_body_context.specs.BodyNames.{body_name}
use Rattle.pyc_body_context.specs.BodyTargets.{body_reads}
use Rattle.pyc_subscripts.specs.Subscripts.{subscript}
use Rattle.pyc_locals.specs.FlowStates.{FlowState}
use Rattle.pyc_obligations.specs.Values.{Value}
use Rattle.pyc_places.specs.Places.{Place}
use Rattle.pyc_places.specs.States.{State, narrowed_type}
use Rattle.pyc_places.specs.TargetPlaces.{target_place}
use Rattle.pyc_reading.specs.Traces.{Step}
use Rattle.pyc_reading.specs.Readings.{Done, ◌>>=◌}
use Rattle.pyc_simple_statements.specs.Expressions.{part_type}
use Rattle.pyc_type_forms.specs.Types.{Ty, any}

-- the type to which some place is narrowed
abbrev pub known_at : State → Option Place → Option Ty
known_at s (Some place) = narrowed_type s place
known_at s None = None

-- by the type to which a place is narrowed, if it is
abbrev pub unless_known : Option Ty → Step Ty → Step Ty
unless_known (Some ty) found = Done ty
unless_known None found = found

-- the type of the attribute of a value that was read
unfoldable pub found_type : Position → List ℕ → Value → Step Ty
found_type at n owner = do
  found ← attribute at owner n
  Done found.ty

module _ (body : Body) where
  -- the type of the name at a position
  unfoldable pub name_type : FlowState → Position → List ℕ → Step Ty
  name_type p at x = do
    found ← body_name body p.locals at x
    Done found.ty

  -- the type of an attribute of an expression: its owner is read also where the attribute, which is the target, is
  -- narrowed
  unfoldable pub attribute_type : FlowState → Target → Position → Expr → List ℕ → Step Ty
  attribute_type p whole at x n = do
    owner ← (body_reads body).value p x None
    unless_known (known_at p.state (target_place whole)) (found_type at n owner)

  -- the type of an item of a value
  unfoldable pub item_type : FlowState → Position → Expr → Index → Step Ty
  item_type p at x brackets = do
    ty ← part_type body p x None
    got ← (body_reads body).index p brackets
    subscript at brackets got ty

  -- the type of a target that begins at a position within its parentheses, by its form: that to which it is narrowed,
  -- if it is; an item is no place, and a tuple or a list of targets is never asked
  abbrev pub form_type : FlowState → Target → Position → TargetForm → Step Ty
  form_type p whole at (name x) = unless_known (known_at p.state (target_place whole)) (name_type p at x)
  form_type p whole at (to.attribute x n) = attribute_type p whole at x n
  form_type p whole at (to.subscript x brackets) = item_type p at x brackets
  form_type p whole at (unpacking elements) = Done any

  -- the type of a target at a point, as an expression has it
  abbrev pub target_type : FlowState → Target → Step Ty
  target_type p (target at inside form) = form_type p (target at inside form) inside form
