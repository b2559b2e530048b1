-- The abstract statements of a block of the grammar (Python reference 3.13, "Compound statements").
use Rattle.std.specs.Prelude.{ℕ, Bool, true, false, if◌then◌else◌, List, [], ◌∷◌, ◌++◌, Option, None, Some, map}
use Rattle.std.specs.Option.{is_some}
use Rattle.std.specs.List.{cons_option}
use Rattle.pyc_ast.specs.declared.position.Position.{Position}
use Rattle.pyc_ast.specs.Exprs.{Expr}
use Rattle.pyc_ast.specs.Statements.{Stmt, StmtForm, Stmts, Branch, Handler, stmt, stmts, branches, handlers}
use Rattle.pyc_ast.specs.Statements as plain
use Rattle.pyc_lower_block.specs.declared.ending.Ending.{Ending}
use Rattle.pyc_lower_block.specs.declared.ending.Ending.TheVariants.{Else, Finally}
use Rattle.pyc_lower_block.specs.Suspends.{suite_suspends}
use Rattle.pyc_lower_atom.specs.declared.role.Role.TheVariants.{Value}
use Rattle.pyc_lower_expression.specs.Expressions.{expr_in}
use Rattle.pyc_lower_atom.specs.Origins.{Origin, position_at}
use Rattle.pyc_lower_statement.specs.Headers.{header_at, for_in, with_items_in, definition_in}
use Rattle.pyc_lower_statement.specs.Statements.{statement_in, separated_in, alias_in}
use Rattle.pyc_token.specs.declared.tokens.Keyword.TheVariants as word
use Rattle.pyc_token.specs.declared.tokens.Kind.{Kind}
use Rattle.pyc_token.specs.declared.tokens.Kind.TheVariants as kind
use Rattle.pyc_token.specs.declared.tokens.Token.{Token}
use Rattle.pyc_tree.specs.BlockTrees.{Decorator, CompoundClause, CompoundClauses, Suite}
use Rattle.pyc_tree.specs.BlockTrees as tree
use Rattle.pyc_tree.specs.Lines.{Header}
use Rattle.pyc_tree.specs.Lines as line
use Rattle.pyc_tree.specs.Tree.{Tree}

-- whether a condition is that of a `while`; no other word has one but `if` and `elif`
abbrev pub is_while : Kind → Bool
is_while (kind.Keyword word.While) = true
is_while _ = false

-- whether a word ends a statement in this way
abbrev pub is_ending_word : Ending → Kind → Bool
is_ending_word Else (kind.Keyword word.Else) = true
is_ending_word Finally (kind.Keyword word.Finally) = true
is_ending_word ending _ = false

abbrev pub is_ending : Ending → Header → Bool
is_ending ending (line.word t) = is_ending_word ending t.kind
is_ending ending _ = false

-- what stands in a compound statement beside its header: its decorators, its first block, the `elif` branches, the
-- handlers, and what stands after `else` and `finally`
pub record Parts : Type 0 where
  pub decorators : List Expr
  pub body : Stmts
  pub branches : List Branch
  pub handlers : List Handler
  pub orelse : Stmts
  pub finally : Stmts

module _ (spelled : List ℕ → Position → Option Expr) where
  -- the decorators of a function or a class
  abbrev pub decorators_in : Origin → List Decorator → List Expr
  decorators_in o decorators = map (λ found. expr_in spelled o Value found.value) decorators

  -- ---- one clause or statement, of blocks that are lowered

  -- the branch of an `if` that a clause is ("The if statement"); no other header than `if` and `elif` heads one
  abbrev pub branch_in : Origin → Header → Stmts → Option Branch
  branch_in o (line.condition t e) body = Some (plain.branch (position_at o t) (expr_in spelled o Value e) body)
  branch_in o _ body = None

  -- the handler of a `try` that a clause is ("except clause"); no other header than `except` heads one
  abbrev pub handler_in : Origin → Header → Stmts → Option Handler
  handler_in o (line.except t) body = Some (plain.handler (position_at o t) None None body)
  handler_in o (line.except_of t e alias) body =
      Some (plain.handler (position_at o t) (Some (expr_in spelled o Value e)) (alias_in o alias) body)
  handler_in o _ body = None

  -- `while` ("The while statement"), else `if` with its branches
  abbrev pub condition_in : Origin → Token → Tree → Parts → StmtForm
  condition_in o t e parts =
      let test = expr_in spelled o Value e in
      if is_while t.kind then plain.while test parts.body parts.orelse
      else plain.if_else (branches (plain.branch (position_at o t) test parts.body ∷ parts.branches)) parts.orelse

  -- a compound statement, by the header of its first clause, whether its first block suspends, and the rest of it
  abbrev pub form_in : Origin → Header → Bool → Parts → StmtForm
  form_in o (line.condition t e) suspends parts = condition_in o t e parts
  form_in o (line.word t) suspends parts = plain.try parts.body (handlers parts.handlers) parts.orelse parts.finally
  form_in o (line.for_each word_async t targets word_in e) suspends parts =
      plain.for (for_in spelled o word_async targets e) parts.body parts.orelse
  form_in o (line.with word_async t items) suspends parts =
      plain.with (is_some word_async) (with_items_in spelled o items) parts.body
  form_in o (line.with_enclosed word_async t opening items closing) suspends parts =
      plain.with (is_some word_async) (with_items_in spelled o items) parts.body
  form_in o h suspends parts = definition_in spelled o parts.decorators suspends h parts.body

  unfoldable mutual
    -- the statements of a block
    pub stmts_in : Origin → tree.Stmts → List Stmt
    stmts_in o tree.no_statement = []
    stmts_in o (tree.statement s rest) = stmt_in o s ++ stmts_in o rest

    -- the statements of a line, or the compound one
    pub stmt_in : Origin → tree.Stmt → List Stmt
    stmt_in o (tree.simple statements) = separated_in (statement_in spelled o) statements
    stmt_in o (tree.compound decorators (tree.clause h colon s) clauses) =
        stmt (header_at o h) (form_in o h (suite_suspends s) (record {
          decorators = decorators_in o decorators;
          body = stmts (suite_in o s);
          branches = branches_in o clauses;
          handlers = handlers_in o clauses;
          orelse = stmts (ending_block_in o Else clauses);
          finally = stmts (ending_block_in o Finally clauses);
        })) ∷ []

    -- what a header heads
    pub suite_in : Origin → Suite → List Stmt
    suite_in o (tree.inline statements) = separated_in (statement_in spelled o) statements
    suite_in o (tree.block statements) = stmts_in o statements

    -- each `elif`
    pub branches_in : Origin → CompoundClauses → List Branch
    branches_in o tree.no_clause = []
    branches_in o (tree.another (tree.clause h colon s) clauses) =
        cons_option (branch_in o h (stmts (suite_in o s))) (branches_in o clauses)

    -- each `except`
    pub handlers_in : Origin → CompoundClauses → List Handler
    handlers_in o tree.no_clause = []
    handlers_in o (tree.another (tree.clause h colon s) clauses) =
        cons_option (handler_in o h (stmts (suite_in o s))) (handlers_in o clauses)

    -- the block of the clause that ends a statement in this way, empty where there is none
    pub ending_block_in : Origin → Ending → CompoundClauses → List Stmt
    ending_block_in o ending tree.no_clause = []
    ending_block_in o ending (tree.another (tree.clause h colon s) clauses) =
        if is_ending ending h then suite_in o s else ending_block_in o ending clauses

  -- what stands in a compound statement beside its header, by its decorators, its first block and the clauses after
  -- the first
  abbrev pub parts_in : Origin → List Expr → Stmts → CompoundClauses → Parts
  parts_in o decorators body clauses =
      record {
        decorators = decorators;
        body = body;
        branches = branches_in o clauses;
        handlers = handlers_in o clauses;
        orelse = stmts (ending_block_in o Else clauses);
        finally = stmts (ending_block_in o Finally clauses);
      }
