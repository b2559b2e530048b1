-- The tree of a logical line as a plain value: simple statements, a header with its colon, or a decorator
-- (Python reference 3.13, "Compound statements").
use Rattle.std.specs.Prelude.{ℕ, ◌+◌, max, List, [], ◌∷◌, ◌++◌, Option, None, Some}
use Rattle.pyc_token.specs.declared.tokens.Token.{Token}
use Rattle.pyc_tree.specs.Tree.{Tree, Pieces, Tail}
use Rattle.pyc_tree.specs.Tree as tree
use Rattle.pyc_tree.specs.Yield.{yield_of, pieces_yield, tail_yield, optional_token}
use Rattle.pyc_tree.specs.Height.{height, pieces_height, tail_height}
use Rattle.pyc_tree.specs.Statements.{SimpleStatement, statement_yield, statement_height, Separated, no_item, last_item}
use Rattle.pyc_tree.specs.Statements.{item, separated_yield, Alias, alias_yield}

-- a header without its colon
pub data Header : Type 0 where
  -- `if`, `elif` or `while`, and a condition
  condition : Token → Tree → Header
  -- `else`, `try` or `finally`
  word : Token → Header
  -- perhaps `async`, then `for`, targets, `in` and what is iterated
  for_each : Option Token → Token → Tree → Token → Tree → Header
  -- `except` alone
  except : Token → Header
  -- `except`, what is caught, and perhaps a name
  except_of : Token → Tree → Option Alias → Header
  -- perhaps `async`, then `with` and items
  with : Option Token → Token → Pieces → Header
  -- perhaps `async`, then `with` and items in parentheses
  with_enclosed : Option Token → Token → Token → Pieces → Token → Header
  -- perhaps `async`, then `def`, a name, parameters in parentheses, and perhaps `->` and what is returned
  def : Option Token → Token → Token → Token → Pieces → Token → Tail → Header
  -- `class` and a name
  class : Token → Token → Header
  -- `class`, a name, and bases and keywords in parentheses
  class_of : Token → Token → Token → Pieces → Token → Header

-- the tree of a logical line
pub data Line : Type 0 where
  -- statements, joined by semicolons
  simple : Separated SimpleStatement → Line
  -- a header, its colon, and perhaps statements
  header : Header → Token → Separated SimpleStatement → Line
  -- `@` and an expression
  decorator : Token → Tree → Line

-- ---- tokens

unfoldable pub header_yield : Header → List Token
header_yield (condition t e) = t ∷ yield_of e
header_yield (word t) = t ∷ []
header_yield (for_each word_async t targets word_in e) =
    optional_token word_async ++ t ∷ (yield_of targets ++ word_in ∷ yield_of e)
header_yield (except t) = t ∷ []
header_yield (except_of t e alias) = t ∷ (yield_of e ++ alias_yield alias)
header_yield (with word_async t items) = optional_token word_async ++ t ∷ pieces_yield items
header_yield (with_enclosed word_async t opening items closing) =
    optional_token word_async ++ t ∷ opening ∷ (pieces_yield items ++ closing ∷ [])
header_yield (def word_async t name opening parameters closing result) =
    optional_token word_async ++ t ∷ name ∷ opening ∷ (pieces_yield parameters ++ closing ∷ tail_yield result)
header_yield (class t name) = t ∷ name ∷ []
header_yield (class_of t name opening arguments closing) = t ∷ name ∷ opening ∷ (pieces_yield arguments ++ closing ∷ [])

-- the tokens of a line
unfoldable pub line_yield : Line → List Token
line_yield (simple statements) = separated_yield statement_yield statements
line_yield (header h colon statements) = header_yield h ++ colon ∷ separated_yield statement_yield statements
line_yield (decorator t e) = t ∷ yield_of e

-- ---- heights

-- the height of a header, which is a statement: one node above its expressions
unfoldable pub header_height : Header → ℕ
header_height (condition _ e) = height e + 1
header_height (for_each _ _ targets _ e) = max (height targets) (height e) + 1
header_height (except_of _ e _) = height e + 1
header_height (with _ _ items) = pieces_height items + 1
header_height (with_enclosed _ _ _ items _) = pieces_height items + 1
header_height (def _ _ _ _ parameters _ result) = max (pieces_height parameters) (tail_height result) + 1
header_height (class_of _ _ _ arguments _) = pieces_height arguments + 1
header_height _ = 1

abbrev pub statements_height : Separated SimpleStatement → ℕ
statements_height no_item = 0
statements_height (last_item s) = statement_height s
statements_height (item s _ rest) = max (statement_height s) (statements_height rest)

-- the height of a line: one node above its statements, its header and its decorator
unfoldable pub line_height : Line → ℕ
line_height (simple statements) = statements_height statements + 1
line_height (header h _ statements) = max (header_height h) (statements_height statements) + 1
line_height (decorator _ e) = (height e + 1) + 1
