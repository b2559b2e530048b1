-- The lines that statements hold, in text order, each with the level at which it stands.
use Rattle.std.specs.Prelude.{ℕ, ◌+◌, List, [], ◌∷◌, ◌++◌, map}
use Rattle.pyc_token.specs.declared.tokens.Token.{Token}
use Rattle.pyc_tree.specs.BlockTrees.{Decorator, Stmt, simple, compound, CompoundClause, clause, CompoundClauses}
use Rattle.pyc_tree.specs.BlockTrees.{no_clause, another, Suite, inline, block, Stmts, no_statement, statement}
use Rattle.pyc_lex.specs.Lines as lex
use Rattle.pyc_lex.specs.Texts.{tokens_of}
use Rattle.pyc_tree.specs.Lines.{Header, Line, line_yield}
use Rattle.pyc_tree.specs.Lines as line
use Rattle.pyc_tree.specs.Statements.{no_item}

-- a line and its level
abbrev pub IndentedLine : Type 0
IndentedLine = ℕ × Line

abbrev pub marks_yield : ℕ → List Decorator → List IndentedLine
marks_yield indent [] = []
marks_yield indent (d ∷ ds) = (indent, line.decorator d.mark d.value) ∷ marks_yield indent ds

unfoldable mutual
  pub stmt_yield : ℕ → Stmt → List IndentedLine
  stmt_yield indent (simple found) = (indent, line.simple found) ∷ []
  stmt_yield indent (compound marks first more) =
      marks_yield indent marks ++ (clause_yield indent first ++ clauses_yield indent more)

  pub clause_yield : ℕ → CompoundClause → List IndentedLine
  clause_yield indent (clause h colon body) = suite_yield indent h colon body

  -- a header and what it heads
  pub suite_yield : ℕ → Header → Token → Suite → List IndentedLine
  suite_yield indent h colon (inline found) = (indent, line.header h colon found) ∷ []
  suite_yield indent h colon (block inner) = (indent, line.header h colon no_item) ∷ stmts_yield (indent + 1) inner

  pub clauses_yield : ℕ → CompoundClauses → List IndentedLine
  clauses_yield indent no_clause = []
  clauses_yield indent (another c cs) = clause_yield indent c ++ clauses_yield indent cs

  pub stmts_yield : ℕ → Stmts → List IndentedLine
  stmts_yield indent no_statement = []
  stmts_yield indent (statement s ss) = stmt_yield indent s ++ stmts_yield indent ss

-- the logical line that a tree at a level holds
abbrev pub held : IndentedLine → lex.Line
held l = record { indent = l.0; tokens = line_yield l.1 }

-- the logical lines that the statements of a module hold
unfoldable pub lines_held : Stmts → List lex.Line
lines_held found = map held (stmts_yield 0 found)

-- the tokens that they hold, in text order
abbrev pub stmts_tokens : Stmts → List Token
stmts_tokens found = tokens_of (lines_held found)
