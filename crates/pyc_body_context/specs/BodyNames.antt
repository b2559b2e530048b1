-- What a name is in a body (Python reference 3.13, "Resolution of names"): a local of its function, an own name of its
-- class, or a name of its file.
use Rattle.std.specs.Prelude.{ℕ, List, Option, None, Some}
use Rattle.pyc_ast.specs.declared.position.Position.{Position}
use Rattle.pyc_attributes.specs.Binding.{through_class}
use Rattle.pyc_bindings.specs.Bindings.{Binding}
use Rattle.pyc_body_context.specs.Bodies.{Body, top_scope, own_binding, class_around}
use Rattle.pyc_class_ids.specs.Class.{Id}
use Rattle.pyc_expr_forms.specs.Contexts.{Context, scope_context}
use Rattle.pyc_locals.specs.Locals.{LocalType, Locals, local_of, local_type}
use Rattle.pyc_obligations.specs.Asking.{ask_member}
use Rattle.pyc_obligations.specs.Values.{Value, plain_value}
use Rattle.pyc_reading.specs.Answers.{MemberAnswer}
use Rattle.pyc_reading.specs.Traces.{Step}
use Rattle.pyc_reading.specs.Readings.{Done, ◌>>=◌}
use Rattle.pyc_scopes.specs.NamedValues.{resolve_name}
use Rattle.pyc_type_forms.specs.Types.{any}

-- some member of a class is what it is through the class object; without a member nothing is known
abbrev pub member_value : Option MemberAnswer → Value
member_value (Some found) = plain_value (through_class found)
member_value None = plain_value any

-- what the class of a name is asked under it
unfoldable pub class_value : Id → List ℕ → Step Value
class_value c x = do
  found ← ask_member c x
  Done (member_value found)

-- an own name of the body of a class: without a declared class nothing is known of it
abbrev pub own_value : Option Id → List ℕ → Step Value
own_value (Some c) x = class_value c x
own_value None x = Done (plain_value any)

-- what a local is
abbrev pub local_value : LocalType → Value
local_value known = plain_value (local_type known)

module _ (body : Body) where
  -- a name that is no local, by its declaration in the body of a class
  abbrev pub own_or_outer_value : Position → List ℕ → Option Binding → Step Value
  own_or_outer_value at x (Some found) = own_value (class_around body.kind) x
  own_or_outer_value at x None = resolve_name (top_scope body.file) at x

  -- a name, by what is known of the local of that name
  abbrev pub value_if_local : Position → List ℕ → Option LocalType → Step Value
  value_if_local at x (Some known) = Done (local_value known)
  value_if_local at x None = own_or_outer_value at x (own_binding body.kind x)

  -- what the name at a position is, among some locals
  unfoldable pub body_name : Locals → Position → List ℕ → Step Value
  body_name locals at x = value_if_local at x (local_of locals x)

  -- where an expression stands: an annotation means what it does at the top level of the file
  abbrev pub body_context : Locals → Context
  body_context locals =
      record {
        resolve_name = body_name locals;
        annotated = (scope_context (top_scope body.file)).annotated;
      }
