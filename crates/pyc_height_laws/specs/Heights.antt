-- How high the highest expression is in a target, in what stands in the head of a statement, in a statement and in a
-- block: 0 where there is none. How high an expression is goes by its parts, and what a string spells that may be an
-- annotation is no part (`Heights` of `pyc_expr`).
use Rattle.std.specs.Prelude.{ℕ, suc, max, List, [], ◌∷◌, Option, None, Some}
use Rattle.pyc_ast.specs.Statements.{Parameter, AnnotatedAssignment, AugmentedAssignment, For, WithItem}
use Rattle.pyc_ast.specs.Statements.{FunctionDefinition, ClassDefinition, Stmt, StmtForm, Stmts, Branch, Branches}
use Rattle.pyc_ast.specs.Statements.{Handler, Handlers}
use Rattle.pyc_ast.specs.Statements as plain
use Rattle.pyc_ast.specs.Targets.{Target, TargetForm, TargetElement, TargetElements}
use Rattle.pyc_ast.specs.Targets as to
use Rattle.pyc_expr.specs.Heights.{height, index_height, argument_height}

-- by the height of each item, that of the highest item of a list
abbrev pub highest : {A : Type 0} → (A → ℕ) → List A → ℕ
highest height_of [] = 0
highest height_of (x ∷ xs) = max (height_of x) (highest height_of xs)

-- by the height of a value, that of an optional one
abbrev pub if_there : {A : Type 0} → (A → ℕ) → Option A → ℕ
if_there height_of None = 0
if_there height_of (Some x) = height_of x

-- ---- targets: each is as high as the expression that is written as it is, which `x.y += 1` reads too

abbrev mutual
  pub target_height : Target → ℕ
  target_height (to.target at inside form) = suc (target_parts_height form)

  -- the height of the highest part of a target
  pub target_parts_height : TargetForm → ℕ
  target_parts_height (to.name x) = 0
  target_parts_height (to.attribute x n) = height x
  target_parts_height (to.subscript x brackets) = max (height x) (index_height brackets)
  target_parts_height (to.unpacking items) = target_elements_height items

  pub target_elements_height : TargetElements → ℕ
  target_elements_height to.no_target = 0
  target_elements_height (to.another_target x xs) = max (target_element_height x) (target_elements_height xs)

  pub target_element_height : TargetElement → ℕ
  target_element_height (to.target_element starred x) = target_height x

-- ---- heads

abbrev pub parameter_height : Parameter → ℕ
parameter_height p = max (if_there height p.annotation) (if_there height p.default)

abbrev pub annotated_height : AnnotatedAssignment → ℕ
annotated_height a = max (target_height a.target) (max (height a.annotation) (if_there height a.value))

abbrev pub augmented_height : AugmentedAssignment → ℕ
augmented_height a = max (target_height a.target) (height a.value)

abbrev pub for_height : For → ℕ
for_height f = max (target_height f.target) (height f.iterable)

abbrev pub with_item_height : WithItem → ℕ
with_item_height w = max (height w.context) (if_there target_height w.target)

abbrev pub function_height : FunctionDefinition → ℕ
function_height f =
    max (highest height f.decorators) (max (highest parameter_height f.parameters) (if_there height f.returns))

abbrev pub class_height : ClassDefinition → ℕ
class_height c = max (highest height c.decorators) (highest argument_height c.arguments)

-- ---- statements and blocks

abbrev mutual
  pub stmt_height : Stmt → ℕ
  stmt_height (plain.stmt at form) = form_height form

  pub form_height : StmtForm → ℕ
  form_height (plain.expression x) = height x
  form_height (plain.assign targets x) = max (highest target_height targets) (height x)
  form_height (plain.annotate found) = annotated_height found
  form_height (plain.augment found) = augmented_height found
  form_height (plain.return x) = if_there height x
  form_height (plain.raise x cause) = max (if_there height x) (if_there height cause)
  form_height (plain.assert test message) = max (height test) (if_there height message)
  form_height (plain.delete x) = target_height x
  form_height plain.pass = 0
  form_height plain.break = 0
  form_height plain.continue = 0
  form_height (plain.global names) = 0
  form_height (plain.nonlocal names) = 0
  form_height (plain.import modules) = 0
  form_height (plain.import_from found) = 0
  form_height (plain.if_else row orelse) = max (branches_height row) (stmts_height orelse)
  form_height (plain.while test body orelse) = max (height test) (max (stmts_height body) (stmts_height orelse))
  form_height (plain.for head body orelse) = max (for_height head) (max (stmts_height body) (stmts_height orelse))
  form_height (plain.try body row orelse finally) =
      max (max (stmts_height body) (handlers_height row)) (max (stmts_height orelse) (stmts_height finally))
  form_height (plain.with is_async items body) = max (highest with_item_height items) (stmts_height body)
  form_height (plain.function head body) = max (function_height head) (stmts_height body)
  form_height (plain.class head body) = max (class_height head) (stmts_height body)

  pub stmts_height : Stmts → ℕ
  stmts_height plain.no_stmt = 0
  stmts_height (plain.another_stmt x xs) = max (stmt_height x) (stmts_height xs)

  pub branch_height : Branch → ℕ
  branch_height (plain.branch at test body) = max (height test) (stmts_height body)

  pub branches_height : Branches → ℕ
  branches_height plain.no_branch = 0
  branches_height (plain.another_branch x xs) = max (branch_height x) (branches_height xs)

  pub handler_height : Handler → ℕ
  handler_height (plain.handler at caught name body) = max (if_there height caught) (stmts_height body)

  pub handlers_height : Handlers → ℕ
  handlers_height plain.no_handler = 0
  handlers_height (plain.another_handler x xs) = max (handler_height x) (handlers_height xs)
