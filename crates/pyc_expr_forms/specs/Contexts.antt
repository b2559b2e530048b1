-- Where an expression stands, and what its parts are there (Python reference 3.13, "Resolution of names"; typing
-- specification, "Type annotations").
use Rattle.std.specs.Prelude.{ℕ, List, Option, None}
use Rattle.pyc_annotations.specs.Annotations.{read_type}
use Rattle.pyc_ast.specs.declared.position.Position.{Position}
use Rattle.pyc_ast.specs.Exprs.{Expr}
use Rattle.pyc_names.specs.Interfaces.{interface_of}
use Rattle.pyc_narrowing.specs.Splitting.{InferOperand}
use Rattle.pyc_obligations.specs.Values.{Value, plain_value}
use Rattle.pyc_places.specs.States.{State}
use Rattle.pyc_reading.specs.Traces.{Step}
use Rattle.pyc_reading.specs.Readings.{Done, and_then}
use Rattle.pyc_scopes.specs.NamedValues.{resolve_name}
use Rattle.pyc_scopes.specs.Scopes.{Scope}
use Rattle.pyc_type_exprs.specs.TypeExprs.{type_expr}
use Rattle.pyc_type_forms.specs.Types.{Ty}

-- where an expression stands: what a name is that begins at a position, and the type that an annotation means
pub record Context : Type 0 where
  pub resolve_name : Position → List ℕ → Step Value
  pub annotated : Expr → Step Ty

-- in a scope a name is what it is there, and an annotation means what it does in the file
abbrev pub scope_context : Scope → Context
scope_context scope =
    record {
      resolve_name = resolve_name scope;
      annotated = λ x. and_then (read_type (interface_of scope.file) (type_expr x)) (λ found. Done found.ty);
    }

-- what the parts of an expression are in a state, by what is expected of them
abbrev pub InferValue : Type 0
InferValue = State → Expr → Option Ty → Step Value

-- the type of a part
unfoldable pub type_in : InferValue → State → Expr → Option Ty → Step Ty
type_in parts s x want = and_then (parts s x want) (λ found. Done found.ty)

-- what a part is of which nothing is expected
abbrev pub looked_by : InferValue → InferOperand
looked_by parts s x = parts s x None

-- to read a part of which nothing is expected, whatever it is
unfoldable pub infer_freely : InferValue → State → Expr → Step (Unit {0})
infer_freely parts s x = and_then (parts s x None) (λ found. Done tt)

-- a value of a type that is read, which is no special form
unfoldable pub plainly : Step Ty → Step Value
plainly read = and_then read (λ ty. Done (plain_value ty))
