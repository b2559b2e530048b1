-- The statements of a module as plain values: every node keeps each of its tokens (Python reference 3.13,
-- "Compound statements").
use Rattle.std.specs.Prelude.{List}
use Rattle.pyc_token.specs.declared.tokens.Token.{Token}
use Rattle.pyc_tree.specs.Lines.{Header}
use Rattle.pyc_tree.specs.Statements.{SimpleStatement, Separated}
use Rattle.pyc_tree.specs.Tree.{Tree}

-- `@` and an expression
pub record Decorator : Type 0 where
  pub mark : Token
  pub value : Tree

mutual
  -- a statement of a block
  pub data Stmt : Type 0 where
    -- simple statements on one line
    simple : Separated SimpleStatement → Stmt
    -- decorators, the first clause, and those after it
    compound : List Decorator → CompoundClause → CompoundClauses → Stmt

  -- a header, its colon, and what it heads
  pub data CompoundClause : Type 0 where
    clause : Header → Token → Suite → CompoundClause

  pub data CompoundClauses : Type 0 where
    no_clause : CompoundClauses
    another : CompoundClause → CompoundClauses → CompoundClauses

  -- what a header heads: simple statements on its line, or a deeper block
  pub data Suite : Type 0 where
    inline : Separated SimpleStatement → Suite
    block : Stmts → Suite

  -- the statements of a block
  pub data Stmts : Type 0 where
    no_statement : Stmts
    statement : Stmt → Stmts → Stmts
