-- Statements and blocks as plain values (Python reference 3.13, "Simple statements" and "Compound statements").
use Rattle.std.specs.Prelude.{ℕ, Bool, List, [], ◌∷◌, Option}
use Rattle.pyc_ast.specs.declared.operator.Operator.{Operator}
use Rattle.pyc_ast.specs.declared.parameter.ParameterKind.{ParameterKind}
use Rattle.pyc_ast.specs.declared.position.Position.{Position}
use Rattle.pyc_ast.specs.declared.stmt.Alias.{Alias}
use Rattle.pyc_ast.specs.Exprs.{Expr, Argument}
use Rattle.pyc_ast.specs.Targets.{Target}

-- where it begins, how it is filled, its name, its annotation and its default
pub record Parameter : Type 0 where
  pub at : Position
  pub kind : ParameterKind
  pub name : List ℕ
  pub annotation : Option Expr
  pub default : Option Expr

-- `target: annotation`, perhaps with `= value`
pub record AnnotatedAssignment : Type 0 where
  pub target : Target
  pub annotation : Expr
  pub value : Option Expr

-- `target += value` and its like
pub record AugmentedAssignment : Type 0 where
  pub target : Target
  pub operator : Operator
  pub value : Expr

-- the parts of a module's name, and the name that is bound in place of the first
pub record ImportedModule : Type 0 where
  pub path : List (List ℕ)
  pub alias : Option (List ℕ)

-- how many dots stand before a module's name, the parts of its name, and what is imported
pub record ImportFrom : Type 0 where
  pub dots : ℕ
  pub path : List (List ℕ)
  pub names : List Alias

-- what is assigned at each turn of a `for`, and what is iterated
pub record For : Type 0 where
  pub is_async : Bool
  pub target : Target
  pub iterable : Expr

-- a context manager, and what it is assigned to
pub record WithItem : Type 0 where
  pub context : Expr
  pub target : Option Target

-- the head of a function
pub record FunctionDefinition : Type 0 where
  pub decorators : List Expr
  pub is_async : Bool
  pub name : List ℕ
  pub parameters : List Parameter
  pub returns : Option Expr
  pub suspends : Bool

-- the head of a class
pub record ClassDefinition : Type 0 where
  pub decorators : List Expr
  pub name : List ℕ
  pub arguments : List Argument
  pub suspends : Bool

mutual
  pub data Stmt : Type 0 where
    stmt : Position → StmtForm → Stmt

  -- what a statement is
  pub data StmtForm : Type 0 where
    expression : Expr → StmtForm
    -- the targets from left to right, and the value
    assign : List Target → Expr → StmtForm
    annotate : AnnotatedAssignment → StmtForm
    augment : AugmentedAssignment → StmtForm
    return : Option Expr → StmtForm
    -- the exception and its cause
    raise : Option Expr → Option Expr → StmtForm
    -- the test and the message
    assert : Expr → Option Expr → StmtForm
    delete : Target → StmtForm
    pass : StmtForm
    break : StmtForm
    continue : StmtForm
    global : List (List ℕ) → StmtForm
    nonlocal : List (List ℕ) → StmtForm
    import : List ImportedModule → StmtForm
    import_from : ImportFrom → StmtForm
    -- `if` and each `elif`, and what stands after `else`
    if_else : Branches → Stmts → StmtForm
    -- the test, the block, and what stands after `else`
    while : Expr → Stmts → Stmts → StmtForm
    for : For → Stmts → Stmts → StmtForm
    -- the block, the handlers, and what stands after `else` and `finally`
    try : Stmts → Handlers → Stmts → Stmts → StmtForm
    -- whether it is `async`
    with : Bool → List WithItem → Stmts → StmtForm
    function : FunctionDefinition → Stmts → StmtForm
    class : ClassDefinition → Stmts → StmtForm

  -- the statements of a block
  pub data Stmts : Type 0 where
    no_stmt : Stmts
    another_stmt : Stmt → Stmts → Stmts

  -- `if` or `elif`, its test and its block
  pub data Branch : Type 0 where
    branch : Position → Expr → Stmts → Branch

  pub data Branches : Type 0 where
    no_branch : Branches
    another_branch : Branch → Branches → Branches

  -- `except`, what it catches, the name that is bound, and its block
  pub data Handler : Type 0 where
    handler : Position → Option Expr → Option (List ℕ) → Stmts → Handler

  pub data Handlers : Type 0 where
    no_handler : Handlers
    another_handler : Handler → Handlers → Handlers

-- ---- lists of statements

abbrev pub stmts : List Stmt → Stmts
stmts [] = no_stmt
stmts (x ∷ xs) = another_stmt x (stmts xs)

abbrev pub branches : List Branch → Branches
branches [] = no_branch
branches (x ∷ xs) = another_branch x (branches xs)

abbrev pub handlers : List Handler → Handlers
handlers [] = no_handler
handlers (x ∷ xs) = another_handler x (handlers xs)
