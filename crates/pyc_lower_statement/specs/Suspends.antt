-- Whether a `yield` or an `await` stands in a tree of the grammar, outside lambdas and definitions: where it does,
-- the function around it suspends (Python reference 3.13, "Yield expressions" and "Await expression").
use Rattle.std.specs.Prelude.{Bool, true, false, ◌||◌}
use Rattle.std.specs.List.{list_any}
use Rattle.pyc_tree.specs.Lines.{Header}
use Rattle.pyc_tree.specs.Lines as line
use Rattle.pyc_tree.specs.Statements.{Separated, SimpleStatement, Assigned}
use Rattle.pyc_tree.specs.Statements as statement
use Rattle.pyc_tree.specs.Tree.{Tree, Pieces, Links, Comprehensions, Perhaps, Tail}
use Rattle.pyc_tree.specs.Tree as tree

unfoldable mutual
  pub suspends : Tree → Bool
  suspends (tree.yield t value) = true
  suspends (tree.yield_from t from e) = true
  suspends (tree.await t e) = true
  suspends (tree.parenthesized opening e closing) = suspends e
  suspends (tree.display made opening items closing) = pieces_suspend items
  suspends (tree.comprehension_display made opening e clauses closing) = suspends e || comprehensions_suspend clauses
  suspends (tree.attribute e dot name) = suspends e
  suspends (tree.call e opening items closing) = suspends e || pieces_suspend items
  suspends (tree.subscript e opening items closing) = suspends e || pieces_suspend items
  suspends (tree.unary sign e) = suspends e
  suspends (tree.binary a sign b) = suspends a || suspends b
  suspends (tree.compare e links) = suspends e || links_suspend links
  suspends (tree.conditional a word_if test word_else b) = suspends a || (suspends test || suspends b)
  suspends (tree.bare items) = pieces_suspend items
  suspends (tree.starred star e) = suspends e
  suspends (tree.double_starred stars e) = suspends e
  suspends (tree.entry key colon value) = suspends key || suspends value
  suspends (tree.mapping stars e) = suspends e
  suspends (tree.slice lower colon upper) = perhaps_suspends lower || perhaps_suspends upper
  suspends (tree.stride lower colon upper second step) =
      perhaps_suspends lower || (perhaps_suspends upper || perhaps_suspends step)
  suspends (tree.argument e) = suspends e
  suspends (tree.keyword name equal e) = suspends e
  suspends (tree.generator e clauses) = suspends e || comprehensions_suspend clauses
  suspends (tree.with_item e target) = suspends e || tail_suspends target
  -- names, literals, lambdas and parameters
  suspends _ = false

  pub pieces_suspend : Pieces → Bool
  pieces_suspend tree.none = false
  pieces_suspend (tree.last e) = suspends e
  pieces_suspend (tree.piece e comma rest) = suspends e || pieces_suspend rest

  pub links_suspend : Links → Bool
  links_suspend tree.unlinked = false
  links_suspend (tree.link first second e rest) = suspends e || links_suspend rest

  pub comprehensions_suspend : Comprehensions → Bool
  comprehensions_suspend tree.no_comprehension = false
  comprehensions_suspend (tree.for_clause word_async word_for targets word_in e rest) =
      suspends targets || (suspends e || comprehensions_suspend rest)
  comprehensions_suspend (tree.if_clause word_if e rest) = suspends e || comprehensions_suspend rest

  pub perhaps_suspends : Perhaps → Bool
  perhaps_suspends tree.absent = false
  perhaps_suspends (tree.present e) = suspends e

  pub tail_suspends : Tail → Bool
  tail_suspends tree.nothing = false
  tail_suspends (tree.after t e) = suspends e

-- ---- statements

abbrev pub statement_suspends : SimpleStatement → Bool
statement_suspends (statement.expression e) = suspends e
statement_suspends (statement.assign assigned e) = list_any (λ found. suspends found.target) assigned || suspends e
statement_suspends (statement.annotate target colon annotation value) =
    suspends target || (suspends annotation || tail_suspends value)
statement_suspends (statement.augment target sign e) = suspends target || suspends e
statement_suspends (statement.return t value) = perhaps_suspends value
statement_suspends (statement.raise t value cause) = perhaps_suspends value || tail_suspends cause
statement_suspends (statement.assert t test message) = suspends test || tail_suspends message
statement_suspends (statement.delete t targets) = suspends targets
-- words and names
statement_suspends _ = false

-- statements on one line
abbrev pub separated_suspend : Separated SimpleStatement → Bool
separated_suspend statement.no_item = false
separated_suspend (statement.last_item s) = statement_suspends s
separated_suspend (statement.item s between rest) = statement_suspends s || separated_suspend rest

-- a header; one of a definition does not count
abbrev pub header_suspends : Header → Bool
header_suspends (line.condition t e) = suspends e
header_suspends (line.for_each word_async t targets word_in e) = suspends targets || suspends e
header_suspends (line.except_of t e alias) = suspends e
header_suspends (line.with word_async t items) = pieces_suspend items
header_suspends (line.with_enclosed word_async t opening items closing) = pieces_suspend items
header_suspends _ = false
