-- Which keys the rules of expressions ask: files alone (Python reference 3.13, "Resolution of names", "Attribute
-- references", "Subscriptions", "Calls", "Emulating numeric types"). A rule asks for a class, or for a member of one,
-- where the class is of a source, and goes by tables where it is builtin. It asks for a name of a module where the
-- module is not fixed. So no type and no answer leads a rule to another key.
use Rattle.std.specs.Prelude.{ℕ, List, Option}
use Rattle.pyc_arguments.specs.Arguments.{Reads}
use Rattle.pyc_arguments.specs.Reporting.{CalleeName}
use Rattle.pyc_ast.specs.declared.operator.ComparisonOperator.{ComparisonOperator}
use Rattle.pyc_ast.specs.declared.operator.Operator.{Operator}
use Rattle.pyc_ast.specs.declared.operator.UnaryOperator.{UnaryOperator}
use Rattle.pyc_ast.specs.declared.position.Position.{Position}
use Rattle.pyc_ast.specs.Exprs.{Argument, Expr, Index}
use Rattle.pyc_attributes.specs.AttributeValues.{type_attribute}
use Rattle.pyc_calls.specs.Called.{call}
use Rattle.pyc_calls.specs.Methods.{infer_method_call}
use Rattle.pyc_expression_laws.specs.FileKeys.{AsksFiles}
use Rattle.pyc_subscripts.specs.Iteration.{infer_iteration}
use Rattle.pyc_subscripts.specs.Subscripts.{subscript}
use Rattle.pyc_narrowing.specs.Splitting.{InferOperand, split}
use Rattle.pyc_obligations.specs.Judging.{judge_assignable}
use Rattle.pyc_operators.specs.Binary.{binary, check_comparison}
use Rattle.pyc_operators.specs.Unary.{unary}
use Rattle.pyc_places.specs.States.{State}
use Rattle.pyc_reading.specs.Traces.{required}
use Rattle.pyc_reading.specs.Owing.{Obligation}
use Rattle.pyc_scopes.specs.NamedValues.{resolve_name}
use Rattle.pyc_scopes.specs.Scopes.{Scope}
use Rattle.pyc_type_forms.specs.Types.{Ty}

-- ---- types

-- an obligation asks files alone
abbrev pub ObligationAsksFiles : Type 0
ObligationAsksFiles = (o : Obligation) → AsksFiles (required o)

-- so does a test of assignability
abbrev pub JudgementAsksFiles : Type 0
JudgementAsksFiles = (got want : Ty) → AsksFiles (judge_assignable got want)

-- ---- values

abbrev pub NameAsksFiles : Type 0
NameAsksFiles = (scope : Scope) (at : Position) (x : List ℕ) → AsksFiles (resolve_name scope at x)

abbrev pub AttributeAsksFiles : Type 0
AttributeAsksFiles = (at : Position) (ty : Ty) (n : List ℕ) → AsksFiles (type_attribute at ty n)

abbrev pub SubscriptAsksFiles : Type 0
SubscriptAsksFiles = (at : Position) (brackets : Index) (got ty : Ty) → AsksFiles (subscript at brackets got ty)

abbrev pub IterationAsksFiles : Type 0
IterationAsksFiles = (at : Position) (ty : Ty) → AsksFiles (infer_iteration at ty)

-- ---- operators

abbrev pub BinaryAsksFiles : Type 0
BinaryAsksFiles =
    (at : Position) (operator : Operator) (left right : Ty) → AsksFiles
    (binary infer_method_call at operator left right)

abbrev pub ComparisonAsksFiles : Type 0
ComparisonAsksFiles =
    (at : Position) (operator : ComparisonOperator) (left right : Ty)
    → AsksFiles (check_comparison infer_method_call at operator left right)

abbrev pub UnaryAsksFiles : Type 0
UnaryAsksFiles =
    (at : Position) (operator : UnaryOperator) (operand : Ty) → AsksFiles (unary infer_method_call at operator operand)

-- ---- calls and conditions

-- whatever is read asks files alone
abbrev pub ReadsAskFiles : Reads → Type 0
ReadsAskFiles read = (x : Expr) (want : Option Ty) → AsksFiles (read x want)

-- a call does, where its arguments do
abbrev pub CallAsksFiles : Type 0
CallAsksFiles =
    (read : Reads) (shown : CalleeName) (at : Position) (arguments : List Argument) (callee : Ty)
    → ReadsAskFiles read → AsksFiles (call read shown at arguments callee)

-- whatever is looked at asks files alone
abbrev pub LooksAskFiles : InferOperand → Type 0
LooksAskFiles look = (s : State) (x : Expr) → AsksFiles (look s x)

-- what a condition says asks files alone, where its parts do
abbrev pub SplitAsksFiles : Type 0
SplitAsksFiles = (look : InferOperand) (s : State) (x : Expr) → LooksAskFiles look → AsksFiles (split look s x)
