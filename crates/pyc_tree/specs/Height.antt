-- The height of a tree in nodes: an atom is 1; each expression, argument, parameter, clause of a comprehension and
-- item of a `with` adds 1; joined strings and a chain of comparisons are one node, and an entry of a dictionary is
-- none.
use Rattle.std.specs.Prelude.{ℕ, ◌+◌, max, if◌then◌else◌}
use Rattle.pyc_tree.specs.Tree.{Tree, Pieces, Links, Comprehensions, Perhaps, Tail}
use Rattle.pyc_tree.specs.Tree as tree
use Rattle.pyc_tree.specs.ListContexts.{has_comma}

-- how high a tree of the profile may be
abbrev pub max_height : ℕ
max_height = 1000

-- how many nodes items without brackets make beside their own: where there is a comma, a tuple
abbrev pub tuple_node : Pieces → ℕ
tuple_node items = if has_comma items then 1 else 0

unfoldable mutual
  -- the height of a tree
  pub height : Tree → ℕ
  height (tree.name _) = 1
  height (tree.number _) = 1
  height (tree.constant _) = 1
  height (tree.strings _ _) = 1
  height (tree.parenthesized _ e _) = height e + 1
  height (tree.display _ _ items _) = pieces_height items + 1
  height (tree.comprehension_display _ _ e comprehensions _) = max (height e) (comprehensions_height comprehensions) + 1
  height (tree.attribute e _ _) = height e + 1
  height (tree.call e _ arguments _) = max (height e) (pieces_height arguments) + 1
  height (tree.subscript e _ index _) = max (height e) (pieces_height index + tuple_node index) + 1
  height (tree.await _ e) = height e + 1
  height (tree.unary _ e) = height e + 1
  height (tree.binary a _ b) = max (height a) (height b) + 1
  height (tree.compare a links) = max (height a) (links_height links) + 1
  height (tree.conditional a _ test _ b) = max (height a) (max (height test) (height b)) + 1
  height (tree.lambda _ parameters _ body) = max (pieces_height parameters) (height body) + 1
  height (tree.bare items) = pieces_height items + 1
  height (tree.yield _ value) = perhaps_height value + 1
  height (tree.yield_from _ _ e) = height e + 1
  height (tree.starred _ e) = height e + 1
  height (tree.double_starred _ e) = height e + 1
  height (tree.entry key _ value) = max (height key) (height value)
  height (tree.mapping _ e) = height e
  height (tree.slice lower _ upper) = max (perhaps_height lower) (perhaps_height upper) + 1
  height (tree.stride lower _ upper _ step) =
      max (perhaps_height lower) (max (perhaps_height upper) (perhaps_height step)) + 1
  height (tree.argument e) = height e + 1
  height (tree.keyword _ _ e) = height e + 1
  height (tree.generator e comprehensions) = max (height e) (comprehensions_height comprehensions) + 1
  height (tree.parameter _ annotation default) = max (tail_height annotation) (tail_height default) + 1
  height (tree.star_parameter _ _ annotation) = tail_height annotation + 1
  height (tree.bare_star _) = 1
  height (tree.double_parameter _ _ annotation) = tail_height annotation + 1
  height (tree.with_item e target) = max (height e) (tail_height target) + 1

  -- the height of the highest item
  pub pieces_height : Pieces → ℕ
  pieces_height tree.none = 0
  pieces_height (tree.last e) = height e
  pieces_height (tree.piece e _ rest) = max (height e) (pieces_height rest)

  -- the height of the highest operand
  pub links_height : Links → ℕ
  links_height tree.unlinked = 0
  links_height (tree.link _ _ e rest) = max (height e) (links_height rest)

  -- the height of the highest clause
  pub comprehensions_height : Comprehensions → ℕ
  comprehensions_height tree.no_comprehension = 0
  comprehensions_height (tree.for_clause _ _ targets _ e rest) =
      max (max (height targets) (height e) + 1) (comprehensions_height rest)
  comprehensions_height (tree.if_clause _ e rest) = max (height e + 1) (comprehensions_height rest)

  -- the height of an expression, 0 where there is none
  pub perhaps_height : Perhaps → ℕ
  perhaps_height tree.absent = 0
  perhaps_height (tree.present e) = height e

  -- the height of the expression after a token, 0 where there is none
  pub tail_height : Tail → ℕ
  tail_height tree.nothing = 0
  tail_height (tree.after _ e) = height e
