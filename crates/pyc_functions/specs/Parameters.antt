-- The parameters of a function: their annotations, their defaults, and the types that they have inside the function
-- (Python reference 3.13, "Function definitions"; typing specification, "Type annotations" and "Callables").
use Rattle.std.specs.Prelude.{ℕ, List, [], ◌∷◌, ◌++◌, Option, None, Some}
use Rattle.pyc_ast.specs.declared.parameter.ParameterKind.{ParameterKind}
use Rattle.pyc_ast.specs.declared.parameter.ParameterKind.TheVariants as kind
use Rattle.pyc_ast.specs.declared.position.Position.{Position}
use Rattle.pyc_ast.specs.Exprs.{Expr, at_of}
use Rattle.pyc_ast.specs.Statements.{Parameter}
use Rattle.pyc_body_context.specs.Bodies.{Body}
use Rattle.pyc_body_context.specs.BodyNames.{body_context}
use Rattle.pyc_builtins.specs.Builtin.{builtin_type}
use Rattle.pyc_builtins.specs.declared.builtin.Builtin.TheVariants as builtin
use Rattle.pyc_class_ids.specs.Class.{Id}
use Rattle.pyc_expr.specs.Values.{infer_type}
use Rattle.pyc_locals.specs.Locals.{no_locals}
use Rattle.pyc_members.specs.declared.method.MethodKind.{MethodKind}
use Rattle.pyc_members.specs.declared.method.MethodKind.TheVariants as method
use Rattle.pyc_members.specs.Methods.{method_kind}
use Rattle.pyc_messages.specs.Functions as message
use Rattle.pyc_names.specs.Interfaces.{interface_of}
use Rattle.pyc_places.specs.States.{nothing_narrowed}
use Rattle.pyc_reading.specs.Traces.{Step, required}
use Rattle.pyc_reading.specs.Owing.{Obligation}
use Rattle.pyc_reading.specs.Readings.{Done, ◌>>=◌}
use Rattle.pyc_report.specs.declared.message.ObligationKind.TheVariants as obligation_kind
use Rattle.pyc_signatures.specs.Signatures.{annotated_or, first_type}
use Rattle.pyc_type_forms.specs.Text.{text_of}
use Rattle.pyc_type_forms.specs.Types.{Ty, any, class_object, dict, instance, tuple_of}

-- a parameter inside its function: its name, and its type
pub record ParameterType : Type 0 where
  pub name : List ℕ
  pub ty : Ty

-- ---- defaults

unfoldable pub required_default_text : List ℕ → (got want : Ty) → List ℕ
required_default_text name got want = message.default_text name (text_of got) (text_of want)

-- a default has to be of the type of the parameter of this name, which is reported where the default begins
abbrev pub required_default : Position → List ℕ → (got want : Ty) → Obligation
required_default at name got want =
    record {
      obligation_kind = obligation_kind.Default;
      at = at;
      got = got;
      want = want;
      details = [];
      text = required_default_text name got want;
    }

-- ---- what a function is called on

-- what a method of this kind is called on, by the class in whose body it stands
abbrev pub receiver_type : MethodKind → Id → Ty
receiver_type method.Static c = any
receiver_type method.Class c = class_object c
receiver_type _ c = instance c

-- what a function under these decorators is called on: a method of a class on an instance of it or on itself, any other
-- function on nothing
abbrev pub receiver_of : Option Id → List Expr → Ty
receiver_of (Some c) decorators = receiver_type (method_kind decorators) c
receiver_of None decorators = any

-- ---- parameters

-- the type of a parameter inside the function: `*name` is the tuple of what is left, `**name` the dict of it
abbrev pub inside_type : ParameterKind → Ty → Ty
inside_type kind.Star ty = tuple_of ty
inside_type kind.DoubleStar ty = dict (builtin_type builtin.Str) ty
inside_type _ ty = ty

abbrev pub parameter_type : Parameter → Ty → ParameterType
parameter_type p ty = record { name = p.name; ty = inside_type p.kind ty }

-- a function that stands in this body
module _ (outside : Body) where
  -- the default of the parameter of this name: it is read where the function stands, and nothing is narrowed there
  unfoldable pub default_read : List ℕ → Ty → Expr → Step (Unit {0})
  default_read name want x = do
    got ← infer_type (body_context outside no_locals) nothing_narrowed x (Some want)
    required (required_default (at_of x) name got want)

  abbrev pub optional_default : List ℕ → Ty → Option Expr → Step (Unit {0})
  optional_default name want (Some x) = default_read name want x
  optional_default name want None = Done tt

  -- a parameter, the first of which is what the function is called on: its annotation, and then its default
  unfoldable pub parameter_read : Ty → Parameter → Step ParameterType
  parameter_read receiver p = do
    ty ← annotated_or (interface_of outside.file) (first_type receiver p.kind) p.annotation
    u ← optional_default p.name ty p.default
    Done (parameter_type p ty)

  -- parameters in turn, after these
  unfoldable pub parameters_read : Ty → List ParameterType → List Parameter → Step (List ParameterType)
  parameters_read receiver found [] = Done found
  parameters_read receiver found (p ∷ rest) = do
    inside ← parameter_read receiver p
    parameters_read any (found ++ (inside ∷ [])) rest
