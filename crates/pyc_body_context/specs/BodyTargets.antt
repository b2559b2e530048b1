-- What an assignment to a name meets in a body, and what it declares (Python reference 3.13, "Assignment statements"
-- and "Resolution of names"; typing specification, "Type annotations").
use Rattle.std.specs.Prelude.{ℕ, Bool, false, if◌then◌else◌, List, Option, None, Some}
use Rattle.pyc_assignments.specs.Reads.{AssignmentOutcome, Reads, new_local, target_type_outcome, free_outcome}
use Rattle.pyc_ast.specs.declared.position.Position.{Position}
use Rattle.pyc_ast.specs.Targets.{Target, target, TargetForm, name}
use Rattle.pyc_bindings.specs.Bindings.{Binding}
use Rattle.pyc_body_context.specs.Bodies.{
  Body,
  BodyKind,
  in_module,
  in_class,
  in_function,
  top_scope,
  own_binding,
  class_around,
}
use Rattle.pyc_body_context.specs.BodyNames.{body_context}
use Rattle.pyc_body_context.specs.ClassBodies.{own_declared}
use Rattle.pyc_class_ids.specs.Class.{Id}
use Rattle.pyc_expr_forms.specs.Contexts.{scope_context}
use Rattle.pyc_expr.specs.Values.{infer, infer_index}
use Rattle.pyc_locals.specs.Locals.{LocalType, undeclared, declared, bound, local_of}
use Rattle.pyc_locals.specs.FlowStates.{FlowState}
use Rattle.pyc_names.specs.SourceFiles.{SourceFile}
use Rattle.pyc_obligations.specs.Asking.{ask_member}
use Rattle.pyc_reading.specs.Answers.{MemberAnswer}
use Rattle.pyc_reading.specs.Traces.{Step}
use Rattle.pyc_reading.specs.Readings.{Done, ◌>>=◌}
use Rattle.pyc_targets.specs.NameTargets.{declared_type, declares_at, is_definition}
use Rattle.pyc_targets.specs.TargetTypes.{plain_target_type}

-- what an assignment to a local meets: nothing is required of one that an import, a function or a class bound first
abbrev pub local_outcome : List ℕ → LocalType → AssignmentOutcome
local_outcome x undeclared = new_local x
local_outcome x (declared ty) = target_type_outcome (plain_target_type (Some ty))
local_outcome x (bound ty) = free_outcome

-- what an assignment to some member meets in the body of its class: its declared type
abbrev pub member_outcome : Option MemberAnswer → AssignmentOutcome
member_outcome (Some found) = target_type_outcome (plain_target_type (Some found.ty))
member_outcome None = free_outcome

unfoldable pub class_outcome : Id → List ℕ → Step AssignmentOutcome
class_outcome c x = do
  found ← ask_member c x
  Done (member_outcome found)

-- a variable of the body of a class: without a declared class nothing is required of it
abbrev pub own_outcome : Option Id → List ℕ → Step AssignmentOutcome
own_outcome (Some c) x = class_outcome c x
own_outcome None x = Done free_outcome

module _ (body : Body) where
  -- what an assignment to a name of the file's top level meets
  unfoldable pub top_outcome : List ℕ → Step AssignmentOutcome
  top_outcome x = do
    want ← declared_type body.file x
    Done (target_type_outcome (plain_target_type want))

  -- a name that is no local, by its declaration in the body of a class: nothing is required of one that an import, a
  -- function or a class declares there
  abbrev pub outcome_if_owned : List ℕ → Option Binding → Step AssignmentOutcome
  outcome_if_owned x (Some found) =
      if is_definition found.form then Done free_outcome else own_outcome (class_around body.kind) x
  outcome_if_owned x None = top_outcome x

  -- a name, by what is known of the local of that name
  abbrev pub outcome_if_local : List ℕ → Option LocalType → Step AssignmentOutcome
  outcome_if_local x (Some known) = Done (local_outcome x known)
  outcome_if_local x None = outcome_if_owned x (own_binding body.kind x)

  -- what an assignment to a name meets at a point
  unfoldable pub name_outcome : FlowState → List ℕ → Step AssignmentOutcome
  name_outcome p x = outcome_if_local x (local_of p.locals x)

  -- what the parts of assignments are
  abbrev pub body_reads : Reads
  body_reads =
      record {
        value = λ p. infer (body_context body p.locals) p.state;
        index = λ p. infer_index (body_context body p.locals) p.state;
        outcome = name_outcome;
        annotated = (scope_context (top_scope body.file)).annotated;
      }

-- ---- annotated assignments

-- whether the annotated assignment at a position declares a name: at the top level of a file, or in the body of a
-- declared class
abbrev pub name_declared : SourceFile → BodyKind → Position → List ℕ → Bool
name_declared file in_module at x = declares_at file at x
name_declared file (in_class own) at x = own_declared own at x
name_declared file (in_function result) at x = false

abbrev pub form_declared : Body → Position → TargetForm → Bool
form_declared body at (name x) = name_declared body.file body.kind at x
form_declared body at form = false

-- whether the annotated assignment at a position declares its target
abbrev pub declares : Body → Position → Target → Bool
declares body at (target out inside form) = form_declared body at form
