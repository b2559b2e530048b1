-- The plain statement that one of the code is.
use Rattle.std.specs.Prelude.{Option, map, option_map}
use Rattle.std.specs.declared.alloc.Global.{Global}
use Rattle.std.specs.declared.boxed.Box.{Box}
use Rattle.std.specs.declared.rc.Rc.{Rc}
use Rattle.pyc_ast.specs.declared.expr.Expr.{Expr as ExprOf}
use Rattle.pyc_ast.specs.declared.parameter.Parameter.{Parameter as ParameterOf}
use Rattle.pyc_ast.specs.declared.stmt.AnnotatedAssignment.{AnnotatedAssignment as AnnotatedAssignmentOf}
use Rattle.pyc_ast.specs.declared.stmt.AugmentedAssignment.{AugmentedAssignment as AugmentedAssignmentOf}
use Rattle.pyc_ast.specs.declared.stmt.Block.{Block}
use Rattle.pyc_ast.specs.declared.stmt.Block.TheFolds.{fold-Block, fold-StmtForm, fold-Branch, fold-Handler, fold-Stmt}
use Rattle.pyc_ast.specs.declared.stmt.Block.TheOpen.{Block-F, StmtForm-F, Branch-F, Handler-F, Stmt-F}
use Rattle.pyc_ast.specs.declared.stmt.Block.TheOpen as layer
use Rattle.pyc_ast.specs.declared.stmt.Branch.{Branch as BranchOf}
use Rattle.pyc_ast.specs.declared.stmt.ClassDefinition.{ClassDefinition as ClassDefinitionOf}
use Rattle.pyc_ast.specs.declared.stmt.For.{For as ForOf}
use Rattle.pyc_ast.specs.declared.stmt.FunctionDefinition.{FunctionDefinition as FunctionDefinitionOf}
use Rattle.pyc_ast.specs.declared.stmt.Handler.{Handler as HandlerOf}
use Rattle.pyc_ast.specs.declared.stmt.ImportFrom.{ImportFrom as ImportFromOf}
use Rattle.pyc_ast.specs.declared.stmt.ImportedModule.{ImportedModule as ImportedModuleOf}
use Rattle.pyc_ast.specs.declared.stmt.Stmt.{Stmt as StmtOf}
use Rattle.pyc_ast.specs.declared.stmt.StmtForm.{StmtForm as StmtFormOf}
use Rattle.pyc_ast.specs.declared.stmt.WithItem.{WithItem as WithItemOf}
use Rattle.pyc_ast.specs.Exprs.{Expr}
use Rattle.pyc_ast.specs.ExprView.{expr_of, argument_of}
use Rattle.pyc_ast.specs.Statements.{Parameter, AnnotatedAssignment, AugmentedAssignment, ImportedModule, ImportFrom}
use Rattle.pyc_ast.specs.Statements.{For, WithItem, FunctionDefinition, ClassDefinition, Stmt, StmtForm, Stmts, Branch}
use Rattle.pyc_ast.specs.Statements.{Handler, stmts, branches, handlers}
use Rattle.pyc_ast.specs.Statements as plain
use Rattle.pyc_ast.specs.TargetView.{target_of}

-- ---- heads

-- an expression in a box, or none
abbrev pub boxed_expr_of : Option (Box ExprOf Global) → Option Expr
boxed_expr_of = option_map (λ x. expr_of x.value)

abbrev pub parameter_of : ParameterOf → Parameter
parameter_of p =
    record {
      at = p.at;
      kind = p.kind;
      name = p.name;
      annotation = boxed_expr_of p.annotation;
      default = boxed_expr_of
          p.default;
    }

abbrev pub annotated_of : AnnotatedAssignmentOf → AnnotatedAssignment
annotated_of a =
    record { target = target_of a.target; annotation = expr_of a.annotation; value = option_map expr_of a.value }

abbrev pub augmented_of : AugmentedAssignmentOf → AugmentedAssignment
augmented_of a = record { target = target_of a.target; operator = a.operator; value = expr_of a.value }

abbrev pub imported_module_of : ImportedModuleOf → ImportedModule
imported_module_of m = record { path = m.path.items; alias = m.alias }

-- an imported module that is shared
abbrev pub imported_of : Rc ImportedModuleOf Global → ImportedModule
imported_of m = imported_module_of m.value

abbrev pub import_from_of : ImportFromOf → ImportFrom
import_from_of i = record { dots = i.dots; path = i.path.items; names = i.names.items }

abbrev pub for_of : ForOf → For
for_of f = record { is_async = f.is_async; target = target_of f.target; iterable = expr_of f.iterable }

abbrev pub with_item_of : WithItemOf → WithItem
with_item_of w = record { context = expr_of w.context; target = option_map target_of w.target }

abbrev pub function_of : FunctionDefinitionOf → FunctionDefinition
function_of f =
    record {
      decorators = map expr_of f.decorators.items;
      is_async = f.is_async;
      name = f.name;
      parameters = map
          parameter_of f.parameters.items;
      returns = option_map expr_of f.returns;
      suspends = f.suspends;
    }

abbrev pub class_of : ClassDefinitionOf → ClassDefinition
class_of c =
    record {
      decorators = map expr_of c.decorators.items;
      name = c.name;
      arguments = map argument_of
          c.arguments.items;
      suspends = c.suspends;
    }

-- ---- statements

-- what one layer of the code is, over what its parts are
abbrev pub stmt_form_step : StmtForm-F Stmts StmtForm Branch Handler Stmt → StmtForm
stmt_form_step (layer.Expression x) = plain.expression (expr_of x)
stmt_form_step (layer.Assign targets x) = plain.assign (map target_of targets.items) (expr_of x.value)
stmt_form_step (layer.Annotate a) = plain.annotate (annotated_of a.value)
stmt_form_step (layer.Augment a) = plain.augment (augmented_of a.value)
stmt_form_step (layer.Return x) = plain.return (boxed_expr_of x)
stmt_form_step (layer.Raise x cause) = plain.raise (boxed_expr_of x) (boxed_expr_of cause)
stmt_form_step (layer.Assert x message) = plain.assert (expr_of x.value) (boxed_expr_of message)
stmt_form_step (layer.Delete target) = plain.delete (target_of target.value)
stmt_form_step layer.Pass = plain.pass
stmt_form_step layer.Break = plain.break
stmt_form_step layer.Continue = plain.continue
stmt_form_step (layer.Global names) = plain.global names.items
stmt_form_step (layer.Nonlocal names) = plain.nonlocal names.items
stmt_form_step (layer.Import modules) = plain.import (map imported_of modules.items)
stmt_form_step (layer.ImportFrom i) = plain.import_from (import_from_of i.value)
stmt_form_step (layer.If row orelse) = plain.if_else (branches row.items) orelse
stmt_form_step (layer.While x body orelse) = plain.while (expr_of x.value) body orelse
stmt_form_step (layer.For head body orelse) = plain.for (for_of head.value) body orelse
stmt_form_step (layer.Try body row orelse finally) = plain.try body (handlers row.items) orelse finally
stmt_form_step (layer.With is_async items body) = plain.with is_async (map with_item_of items.items) body
stmt_form_step (layer.Function head body) = plain.function (function_of head.value) body
stmt_form_step (layer.Class head body) = plain.class (class_of head.value) body

abbrev pub block_step : Block-F Stmts StmtForm Branch Handler Stmt → Stmts
block_step (layer.Of statements) = stmts statements.items

abbrev pub branch_step : Branch-F Stmts StmtForm Branch Handler Stmt → Branch
branch_step x = plain.branch x.at (expr_of x.test) x.body

abbrev pub handler_step : Handler-F Stmts StmtForm Branch Handler Stmt → Handler
handler_step x = plain.handler x.at (option_map expr_of x.caught) x.name x.body

abbrev pub stmt_step : Stmt-F Stmts StmtForm Branch Handler Stmt → Stmt
stmt_step x = plain.stmt x.at x.form

-- the form of a statement that one of the code is
abbrev pub stmt_form_of : StmtFormOf → StmtForm
stmt_form_of =
    fold-StmtForm Stmts StmtForm Branch Handler Stmt block_step stmt_form_step branch_step handler_step stmt_step

-- the statements of a block
abbrev pub block_of : Block → Stmts
block_of =
    fold-Block Stmts StmtForm Branch Handler Stmt block_step stmt_form_step branch_step handler_step stmt_step

-- the plain statement that one of the code is
abbrev pub stmt_of : StmtOf → Stmt
stmt_of =
    fold-Stmt Stmts StmtForm Branch Handler Stmt block_step stmt_form_step branch_step handler_step stmt_step

abbrev pub branch_of : BranchOf → Branch
branch_of =
    fold-Branch Stmts StmtForm Branch Handler Stmt block_step stmt_form_step branch_step handler_step stmt_step

abbrev pub handler_of : HandlerOf → Handler
handler_of =
    fold-Handler Stmts StmtForm Branch Handler Stmt block_step stmt_form_step branch_step handler_step stmt_step
