-- The blocks of lines that are at most so high are at most so high.
use Rattle.std.proofs.Common.{◌≤◌, arith, ℕ, zero, suc, max, Bool, true, false, if◌then◌else◌, List, [], ◌∷◌, length, Option, None, Some, Ok, Err, Result}
use Rattle.pyc_height_laws.proofs.BlockHeights.{marks_top, stmt_top, clause_top, clauses_top, suite_top, stmts_top}
use Rattle.pyc_parse.specs.Blocks.{Placed, BlocksParsed, Parser, ◌>>=◌, and_then, pure, take_one, next_of, follower, under, number_of, is_none, is_decorator, is_definition}
use Rattle.pyc_parse.specs.Blocks.{statements_of, simple_line, decorator_of, decorator_line, decorators, all_decorators, clauses_after, statements_after, suite_under, suite, clause_of, one_clause, clause_by, next_clause}
use Rattle.pyc_parse.specs.Blocks.{clauses, all_clauses, compound_statement, definition, decorated_definition, statement_by, next_statement, statements, all_statements, block_at, module_of, blocks}
use Rattle.pyc_tree.specs.declared.block.After.{After}
use Rattle.pyc_tree.specs.declared.block.After.TheVariants as after
use Rattle.pyc_tree.specs.declared.block.Next.{Next}
use Rattle.pyc_tree.specs.declared.block.Next.TheVariants as next
use Rattle.pyc_tree.specs.BlockTrees.{Decorator, Stmt, simple, compound, CompoundClause, clause, CompoundClauses, another, inline, block, Stmts, statement}
use Rattle.pyc_tree.specs.Height as concrete
use Rattle.pyc_tree.specs.Lines.{Header, Line, line_height, statements_height}
use Rattle.pyc_tree.specs.Lines as line
use Rattle.pyc_tree.specs.Statements.{SimpleStatement, Separated}

-- how high the highest of some lines is
abbrev pub lines_top : List Placed → ℕ
lines_top [] = 0
lines_top (p ∷ ps) = max (line_height p.line) (lines_top ps)

-- what is read, by its measure, and the lines after it are at most so high
abbrev IsLow : {A : Type 0} → ℕ → (A → ℕ) → BlocksParsed A → Type 0
IsLow n top (Ok p) = (top p.0 ≤ n) × (lines_top p.1 ≤ n)
IsLow n top (Err number) = Unit {0}

-- a parser keeps to a height
abbrev Keeps : {A : Type 0} → ℕ → (A → ℕ) → Parser A → Type 0
Keeps n top p = (ps : List Placed) → lines_top ps ≤ n → IsLow n top (p ps)

then_low : {A B : Type 0} (n : ℕ) (top : A → ℕ) (above : B → ℕ) (r : BlocksParsed A) (f : A → Parser B) → IsLow n top r
    → ((a : A) → top a ≤ n → Keeps n above (f a)) → IsLow n above (and_then r f)
then_low n top above (Ok p) f low next = next p.0 low.0 p.1 low.1
then_low n top above (Err number) f low next = tt

chosen_low : {A : Type 0} (n : ℕ) (top : A → ℕ) (b : Bool) (x y : BlocksParsed A) → IsLow n top x → IsLow n top y
    → IsLow n top (if b then x else y)
chosen_low n top true x y low other = low
chosen_low n top false x y low other = other

-- ---- lines

one_low : (n : ℕ) → Keeps n (λ p. line_height p.line) take_one
unfolding take_one
one_low n [] low = tt
one_low n (p ∷ ps) low = (omega arith, omega arith)

statements_of_low : (n : ℕ) (p : Placed) (l : Line) → line_height l ≤ n → Keeps n statements_height (statements_of p l)
unfolding line_height
statements_of_low n p (line.simple found) high ps low = (omega arith, low)
statements_of_low n p _ high ps low = tt

simple_low : (n : ℕ) → Keeps n stmt_top simple_line
unfolding simple_line
simple_low n ps low =
    then_low n (λ p. line_height p.line) stmt_top (take_one ps)
    (λ p. statements_of p p.line >>= (λ found. pure (simple found))) (one_low n ps low)
    (λ p high rest rests. then_low n statements_height stmt_top (statements_of p p.line rest) (λ found. pure (simple found))
    (statements_of_low n p p.line high rest rests) (λ found least left lefts. (least, lefts)))

decorator_of_low : (n : ℕ) (p : Placed) (l : Line) → line_height l ≤ n → Keeps n (λ mark. concrete.height mark.value) (decorator_of p l)
unfolding line_height
decorator_of_low n p (line.decorator t e) high ps low = (omega arith, low)
decorator_of_low n p _ high ps low = tt

decorator_low : (n : ℕ) → Keeps n (λ mark. concrete.height mark.value) decorator_line
unfolding decorator_line
decorator_low n ps low =
    then_low n (λ p. line_height p.line) (λ mark. concrete.height mark.value) (take_one ps) (λ p. decorator_of p p.line)
    (one_low n ps low) (λ p high rest rests. decorator_of_low n p p.line high rest rests)

decorators_low : (n turns indent : ℕ) → Keeps n marks_top (decorators turns indent)
unfolding decorators
decorators_low n zero indent ps low = (omega arith, low)
decorators_low n (suc turns) indent ps low =
    chosen_low n marks_top (is_decorator (next_of indent ps))
    ((decorator_line >>= (λ first. decorators turns indent >>= (λ more. pure (first ∷ more)))) ps) (Ok ([], ps))
    (then_low n (λ mark. concrete.height mark.value) marks_top (decorator_line ps)
    (λ first. decorators turns indent >>= (λ more. pure (first ∷ more))) (decorator_low n ps low)
    (λ first high rest rests. then_low n marks_top marks_top (decorators turns indent rest) (λ more. pure (first ∷ more))
    (decorators_low n turns indent rest rests) (λ more least left lefts. (omega arith, lefts))))
    (omega arith, low)

all_decorators_low : (n indent : ℕ) → Keeps n marks_top (all_decorators indent)
unfolding all_decorators
all_decorators_low n indent ps low = decorators_low n (length ps) indent ps low

-- ---- over what reads the block at an indent

-- a clause, where there is one
abbrev follower_top : Option (CompoundClause × After) → ℕ
follower_top None = 0
follower_top (Some found) = clause_top found.0

-- a statement, where there is one
abbrev optional_top : Option Stmt → ℕ
optional_top None = 0
optional_top (Some found) = stmt_top found

module _ (n : ℕ) (self : ℕ → Parser Stmts) (self_low : (indent : ℕ) → Keeps n stmts_top (self indent)) where
  suite_under_low : (number : ℕ) (inner : Option ℕ) → Keeps n suite_top (suite_under self number inner)
  suite_under_low number None ps low = tt
  suite_under_low number (Some inner) ps low =
      then_low n stmts_top suite_top (self inner ps) (λ found. pure (block found)) (self_low inner ps low) (λ found least rest rests. (least, rests))

  suite_low : (number indent : ℕ) (found : Separated SimpleStatement) → statements_height found ≤ n → Keeps n suite_top (suite self number indent found)
  unfolding suite
  suite_low number indent found high ps low =
      chosen_low n suite_top (is_none found) (suite_under self number (under indent ps) ps) (Ok (inline found, ps))
      (suite_under_low number (under indent ps) ps low) (high, low)

  clause_of_low : (p : Placed) (indent : ℕ) (l : Line) → line_height l ≤ n → Keeps n clause_top (clause_of self p indent l)
  unfolding line_height
  clause_of_low p indent (line.header h colon found) high ps low =
      then_low n suite_top clause_top (suite self p.number indent found ps) (λ body. pure (clause h colon body))
      (suite_low p.number indent found (omega arith) ps low) (λ body least rest rests. (omega arith, rests))
  clause_of_low p indent _ high ps low = tt

  one_clause_low : (indent : ℕ) → Keeps n clause_top (one_clause self indent)
  unfolding one_clause
  one_clause_low indent ps low =
      then_low n (λ p. line_height p.line) clause_top (take_one ps) (λ p. clause_of self p indent p.line) (one_low n ps low)
      (λ p high rest rests. clause_of_low p indent p.line high rest rests)

  clause_by_low : (indent : ℕ) (so : Option After) → Keeps n follower_top (clause_by self indent so)
  clause_by_low indent None ps low = (omega arith, low)
  clause_by_low indent (Some so) ps low =
      then_low n clause_top follower_top (one_clause self indent ps) (λ found. pure (Some (found, so))) (one_clause_low indent ps low)
      (λ found least rest rests. (least, rests))

  next_clause_low : (so : After) (indent : ℕ) → Keeps n follower_top (next_clause self so indent)
  unfolding next_clause
  next_clause_low so indent ps low = clause_by_low indent (follower so indent ps) ps low

  clauses_after_low : (more : After → Parser CompoundClauses) → ((so : After) → Keeps n clauses_top (more so))
      → (found : Option (CompoundClause × After)) → follower_top found ≤ n → Keeps n clauses_top (clauses_after more found)
  clauses_after_low more more_low None high ps low = (omega arith, low)
  clauses_after_low more more_low (Some found) high ps low =
      then_low n clauses_top clauses_top (more found.1 ps) (λ rest. pure (another found.0 rest)) (more_low found.1 ps low)
      (λ rest least left lefts. (omega arith, lefts))

  clauses_low : (turns indent : ℕ) (so : After) → Keeps n clauses_top (clauses self turns indent so)
  unfolding clauses
  clauses_low zero indent so ps low = (omega arith, low)
  clauses_low (suc turns) indent so ps low =
      then_low n follower_top clauses_top (next_clause self so indent ps) (clauses_after (clauses self turns indent)) (next_clause_low so indent ps low)
      (λ found high. clauses_after_low (clauses self turns indent) (clauses_low turns indent) found high)

  all_clauses_low : (indent : ℕ) (so : After) → Keeps n clauses_top (all_clauses self indent so)
  unfolding all_clauses
  all_clauses_low indent so ps low = clauses_low (length ps) indent so ps low

  compound_low : (indent : ℕ) (marks : List Decorator) (so : After) → marks_top marks ≤ n → Keeps n stmt_top (compound_statement self indent marks so)
  unfolding compound_statement
  compound_low indent marks so high ps low =
      then_low n clause_top stmt_top (one_clause self indent ps) (λ first. all_clauses self indent so >>= (λ more. pure (compound marks first more)))
      (one_clause_low indent ps low)
      (λ first least rest rests. then_low n clauses_top stmt_top (all_clauses self indent so rest) (λ more. pure (compound marks first more))
      (all_clauses_low indent so rest rests) (λ more fewer left lefts. (omega arith, lefts)))

  definition_low : (number indent : ℕ) (marks : List Decorator) → marks_top marks ≤ n → Keeps n stmt_top (definition self number indent marks)
  unfolding definition
  definition_low number indent marks high ps low =
      chosen_low n stmt_top (is_definition (next_of indent ps)) (compound_statement self indent marks after.Nothing ps) (Err number)
      (compound_low indent marks after.Nothing high ps low) tt

  decorated_definition_low : (indent : ℕ) → Keeps n stmt_top (decorated_definition self indent)
  unfolding decorated_definition
  decorated_definition_low indent ps low =
      then_low n marks_top stmt_top (all_decorators indent ps) (definition self (number_of ps) indent) (all_decorators_low n indent ps low)
      (λ marks high. definition_low (number_of ps) indent marks high)

  statement_by_low : (indent : ℕ) (what : Next) → Keeps n optional_top (statement_by self indent what)
  statement_by_low indent next.End ps low = (omega arith, low)
  statement_by_low indent (next.Fault number) ps low = tt
  statement_by_low indent next.Simple ps low =
      then_low n stmt_top optional_top (simple_line ps) (λ found. pure (Some found)) (simple_low n ps low) (λ found least rest rests. (least, rests))
  statement_by_low indent next.Decorator ps low =
      then_low n stmt_top optional_top (decorated_definition self indent ps) (λ found. pure (Some found)) (decorated_definition_low indent ps low)
      (λ found least rest rests. (least, rests))
  statement_by_low indent next.Definition ps low =
      then_low n stmt_top optional_top (compound_statement self indent [] after.Nothing ps) (λ found. pure (Some found))
      (compound_low indent [] after.Nothing (omega arith) ps low) (λ found least rest rests. (least, rests))
  statement_by_low indent (next.Header so) ps low =
      then_low n stmt_top optional_top (compound_statement self indent [] so ps) (λ found. pure (Some found))
      (compound_low indent [] so (omega arith) ps low) (λ found least rest rests. (least, rests))

  next_statement_low : (indent : ℕ) → Keeps n optional_top (next_statement self indent)
  unfolding next_statement
  next_statement_low indent ps low = statement_by_low indent (next_of indent ps) ps low

  statements_after_low : (more : Parser Stmts) → Keeps n stmts_top more → (found : Option Stmt) → optional_top found ≤ n
      → Keeps n stmts_top (statements_after more found)
  statements_after_low more more_low None high ps low = (omega arith, low)
  statements_after_low more more_low (Some found) high ps low =
      then_low n stmts_top stmts_top (more ps) (λ rest. pure (statement found rest)) (more_low ps low) (λ rest least left lefts. (omega arith, lefts))

  statements_low : (turns indent : ℕ) → Keeps n stmts_top (statements self turns indent)
  unfolding statements
  statements_low zero indent ps low = (omega arith, low)
  statements_low (suc turns) indent ps low =
      then_low n optional_top stmts_top (next_statement self indent ps) (statements_after (statements self turns indent)) (next_statement_low indent ps low)
      (λ found high. statements_after_low (statements self turns indent) (statements_low turns indent) found high)

  all_statements_low : (indent : ℕ) → Keeps n stmts_top (all_statements self indent)
  unfolding all_statements
  all_statements_low indent ps low = statements_low (length ps) indent ps low

-- ---- a module

block_low : (n depth indent : ℕ) → Keeps n stmts_top (block_at depth indent)
unfolding block_at
block_low n zero indent ps low = tt
block_low n (suc depth) indent ps low = all_statements_low n (block_at depth) (block_low n depth) indent ps low

-- the statements of a module are at most so high
abbrev pub AreBlocksLow : ℕ → Result Stmts ℕ → Type 0
AreBlocksLow n (Ok found) = stmts_top found ≤ n
AreBlocksLow n (Err number) = Unit {0}

module_low : (n : ℕ) (r : BlocksParsed Stmts) → IsLow n stmts_top r → AreBlocksLow n (module_of r)
module_low n (Ok p) low = low.0
module_low n (Err number) low = tt

pub blocks_low : (n : ℕ) (ps : List Placed) → lines_top ps ≤ n → AreBlocksLow n (blocks ps)
unfolding blocks
blocks_low n ps low = module_low n (block_at 65 0 ps) (block_low n 65 0 ps low)
