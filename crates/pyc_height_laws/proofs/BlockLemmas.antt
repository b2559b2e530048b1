-- No expression of a block is higher than the highest statement, header or decorator in the block of the grammar.
use Rattle.std.proofs.Common.{◌≡◌, ◌≤◌, refl, arith, ℕ, Bool, max, List, [], ◌∷◌, ◌++◌, Option, None, Some}
use Rattle.std.specs.List.{cons_option}
use Rattle.pyc_ast.specs.declared.position.Position.{Position}
use Rattle.pyc_ast.specs.Exprs.{Expr}
use Rattle.pyc_ast.specs.Statements.{Stmt, Stmts, StmtForm, Branch, Handler, stmts, branches, handlers}
use Rattle.pyc_ast.specs.Statements as plain
use Rattle.pyc_expr.specs.Heights.{height}
use Rattle.pyc_height_laws.specs.Heights.{highest, if_there, form_height, stmts_height, branch_height, branches_height, handler_height, handlers_height}
use Rattle.pyc_height_laws.proofs.BlockHeights.{marks_top, stmt_top, clauses_top, suite_top, stmts_top}
use Rattle.pyc_height_laws.proofs.ChoiceLemmas.{if_low}
use Rattle.pyc_height_laws.proofs.ExpressionLemmas.{expr_low}
use Rattle.pyc_height_laws.proofs.HeaderLemmas.{for_low, with_items_low, definition_low}
use Rattle.pyc_height_laws.proofs.StatementLemmas.{separated_low}
use Rattle.pyc_lower_atom.specs.declared.role.Role.TheVariants.{Value}
use Rattle.pyc_lower_atom.specs.Origins.{Origin, position_at}
use Rattle.pyc_lower_block.specs.declared.ending.Ending.{Ending}
use Rattle.pyc_lower_block.specs.declared.ending.Ending.TheVariants.{Else, Finally}
use Rattle.pyc_lower_block.specs.Blocks.{Parts, is_while, is_ending, decorators_in, branch_in, handler_in, condition_in, form_in, stmts_in, stmt_in, suite_in, branches_in, handlers_in, ending_block_in, parts_in}
use Rattle.pyc_lower_block.specs.Suspends.{suite_suspends}
use Rattle.pyc_lower_expression.specs.Expressions.{expr_in}
use Rattle.pyc_token.specs.declared.tokens.Token.{Token}
use Rattle.pyc_tree.specs.BlockTrees.{Decorator, CompoundClauses, Suite}
use Rattle.pyc_tree.specs.BlockTrees as tree
use Rattle.pyc_tree.specs.Height as concrete
use Rattle.pyc_tree.specs.Lines.{Header, header_height}
use Rattle.pyc_tree.specs.Lines as line
use Rattle.pyc_tree.specs.Tree.{Tree}

joined_height : (xs ys : List Stmt) → stmts_height (stmts (xs ++ ys)) ≡ max (stmts_height (stmts xs)) (stmts_height (stmts ys))
joined_height [] ys = omega arith
joined_height (x ∷ xs) ys = omega (arith, joined_height xs ys)

branch_before : (x : Option Branch) (rest : List Branch) → branches_height (branches (cons_option x rest)) ≡ max (if_there branch_height x) (branches_height (branches rest))
branch_before None rest = omega arith
branch_before (Some x) rest = refl

handler_before : (x : Option Handler) (rest : List Handler) → handlers_height (handlers (cons_option x rest)) ≡ max (if_there handler_height x) (handlers_height (handlers rest))
handler_before None rest = omega arith
handler_before (Some x) rest = refl

-- what stands in a compound statement beside its header is at most so high
record AreLow (n : ℕ) (parts : Parts) : Type 0 where
  decorators : highest height parts.decorators ≤ n
  body : stmts_height parts.body ≤ n
  branches : branches_height (plain.branches parts.branches) ≤ n
  handlers : handlers_height (plain.handlers parts.handlers) ≤ n
  orelse : stmts_height parts.orelse ≤ n
  finally : stmts_height parts.finally ≤ n

module _ (spelled : List ℕ → Position → Option Expr) where
  decorators_low : (o : Origin) (marks : List Decorator) → highest height (decorators_in spelled o marks) ≤ marks_top marks
  decorators_low o [] = omega arith
  decorators_low o (mark ∷ marks) = omega (arith, expr_low spelled o Value mark.value, decorators_low o marks)

  branch_low : (o : Origin) (h : Header) (body : Stmts) → if_there branch_height (branch_in spelled o h body) ≤ max (header_height h) (stmts_height body)
  unfolding header_height
  branch_low o (line.condition t e) body = omega (arith, expr_low spelled o Value e)
  branch_low o _ body = omega arith

  handler_low : (o : Origin) (h : Header) (body : Stmts) → if_there handler_height (handler_in spelled o h body) ≤ max (header_height h) (stmts_height body)
  unfolding header_height
  handler_low o (line.except t) body = omega arith
  handler_low o (line.except_of t e alias) body = omega (arith, expr_low spelled o Value e)
  handler_low o _ body = omega arith

  condition_low : (n : ℕ) (o : Origin) (t : Token) (e : Tree) (parts : Parts) → concrete.height e ≤ n → AreLow n parts
      → form_height (condition_in spelled o t e parts) ≤ n
  condition_low n o t e parts under low =
      let test : Expr = expr_in spelled o Value e in
      if_low form_height n (is_while t.kind) (plain.while test parts.body parts.orelse)
      (plain.if_else (branches (plain.branch (position_at o t) test parts.body ∷ parts.branches)) parts.orelse)
      (omega (arith, expr_low spelled o Value e)) (omega (arith, expr_low spelled o Value e))

  form_low : (n : ℕ) (o : Origin) (h : Header) (suspends : Bool) (parts : Parts) → header_height h ≤ n → AreLow n parts
      → form_height (form_in spelled o h suspends parts) ≤ n
  unfolding header_height
  form_low n o (line.condition t e) suspends parts under low = condition_low n o t e parts (omega arith) low
  form_low n o (line.word t) suspends parts under low = omega arith
  form_low n o (line.for_each word_async t targets word_in e) suspends parts under low =
      omega (arith, for_low spelled o word_async targets e)
  form_low n o (line.with word_async t items) suspends parts under low = omega (arith, with_items_low spelled o items)
  form_low n o (line.with_enclosed word_async t opening items closing) suspends parts under low =
      omega (arith, with_items_low spelled o items)
  form_low n o h suspends parts under low = omega (arith, definition_low spelled o parts.decorators suspends h parts.body)

  mutual
    unfolding stmts_in

    pub stmts_low : (o : Origin) (found : tree.Stmts) → stmts_height (stmts (stmts_in spelled o found)) ≤ stmts_top found
    stmts_low o tree.no_statement = omega arith
    stmts_low o (tree.statement s rest) =
        omega (arith, joined_height (stmt_in spelled o s) (stmts_in spelled o rest), stmt_low o s, stmts_low o rest)

    stmt_low : (o : Origin) (s : tree.Stmt) → stmts_height (stmts (stmt_in spelled o s)) ≤ stmt_top s
    stmt_low o (tree.simple found) = separated_low spelled o found
    stmt_low o (tree.compound marks (tree.clause h colon s) clauses) =
        let n : ℕ = stmt_top (tree.compound marks (tree.clause h colon s) clauses) in
        let low : AreLow n (parts_in spelled o (decorators_in spelled o marks) (stmts (suite_in spelled o s)) clauses) = record {
          decorators = omega (arith, decorators_low o marks);
          body = omega (arith, suite_low o s);
          branches = omega (arith, branches_low o clauses);
          handlers = omega (arith, handlers_low o clauses);
          orelse = omega (arith, ended_low o Else clauses);
          finally = omega (arith, ended_low o Finally clauses);
        } in
        omega (arith, form_low n o h (suite_suspends s) (parts_in spelled o (decorators_in spelled o marks) (stmts (suite_in spelled o s)) clauses) (omega arith) low)

    suite_low : (o : Origin) (s : Suite) → stmts_height (stmts (suite_in spelled o s)) ≤ suite_top s
    suite_low o (tree.inline found) = separated_low spelled o found
    suite_low o (tree.block found) = stmts_low o found

    branches_low : (o : Origin) (clauses : CompoundClauses) → branches_height (branches (branches_in spelled o clauses)) ≤ clauses_top clauses
    branches_low o tree.no_clause = omega arith
    branches_low o (tree.another (tree.clause h colon s) clauses) =
        omega (arith, branch_before (branch_in spelled o h (stmts (suite_in spelled o s))) (branches_in spelled o clauses), branch_low o h (stmts (suite_in spelled o s)), suite_low o s, branches_low o clauses)

    handlers_low : (o : Origin) (clauses : CompoundClauses) → handlers_height (handlers (handlers_in spelled o clauses)) ≤ clauses_top clauses
    handlers_low o tree.no_clause = omega arith
    handlers_low o (tree.another (tree.clause h colon s) clauses) =
        omega (arith, handler_before (handler_in spelled o h (stmts (suite_in spelled o s))) (handlers_in spelled o clauses), handler_low o h (stmts (suite_in spelled o s)), suite_low o s, handlers_low o clauses)

    ended_low : (o : Origin) (ending : Ending) (clauses : CompoundClauses) → stmts_height (stmts (ending_block_in spelled o ending clauses)) ≤ clauses_top clauses
    ended_low o ending tree.no_clause = omega arith
    ended_low o ending (tree.another (tree.clause h colon s) clauses) =
        if_low (λ (found : List Stmt). stmts_height (stmts found)) (clauses_top (tree.another (tree.clause h colon s) clauses)) (is_ending ending h)
        (suite_in spelled o s) (ending_block_in spelled o ending clauses) (omega (arith, suite_low o s)) (omega (arith, ended_low o ending clauses))
