-- The tokens of a tree, in the order of the text.
use Rattle.std.specs.Prelude.{List, [], ◌∷◌, ◌++◌, Option, None, Some}
use Rattle.pyc_token.specs.declared.tokens.Token.{Token}
use Rattle.pyc_tree.specs.Tree.{Tree, Pieces, Links, Comprehensions, Perhaps, Tail}
use Rattle.pyc_tree.specs.Tree as tree

-- a token, where there is one
abbrev pub optional_token : Option Token → List Token
optional_token None = []
optional_token (Some token) = token ∷ []

unfoldable mutual
  -- the tokens of a tree
  pub yield_of : Tree → List Token
  yield_of (tree.name t) = t ∷ []
  yield_of (tree.number t) = t ∷ []
  yield_of (tree.constant t) = t ∷ []
  yield_of (tree.strings t more) = t ∷ more
  yield_of (tree.parenthesized opening e closing) = opening ∷ (yield_of e ++ closing ∷ [])
  yield_of (tree.display display_kind opening items closing) = opening ∷ (pieces_yield items ++ closing ∷ [])
  yield_of (tree.comprehension_display display_kind opening e comprehensions closing) =
      opening ∷ (yield_of e ++ (comprehensions_yield comprehensions ++ closing ∷ []))
  yield_of (tree.attribute e dot name) = yield_of e ++ dot ∷ name ∷ []
  yield_of (tree.call e opening arguments closing) = yield_of e ++ opening ∷ (pieces_yield arguments ++ closing ∷ [])
  yield_of (tree.subscript e opening index closing) = yield_of e ++ opening ∷ (pieces_yield index ++ closing ∷ [])
  yield_of (tree.await word e) = word ∷ yield_of e
  yield_of (tree.unary sign e) = sign ∷ yield_of e
  yield_of (tree.binary a sign b) = yield_of a ++ sign ∷ yield_of b
  yield_of (tree.compare a links) = yield_of a ++ links_yield links
  yield_of (tree.conditional a word_if test word_else b) =
      yield_of a ++ word_if ∷ (yield_of test ++ word_else ∷ yield_of b)
  yield_of (tree.lambda word parameters colon body) = word ∷ (pieces_yield parameters ++ colon ∷ yield_of body)
  yield_of (tree.bare items) = pieces_yield items
  yield_of (tree.yield word value) = word ∷ perhaps_yield value
  yield_of (tree.yield_from word from e) = word ∷ from ∷ yield_of e
  yield_of (tree.starred star e) = star ∷ yield_of e
  yield_of (tree.double_starred stars e) = stars ∷ yield_of e
  yield_of (tree.entry key colon value) = yield_of key ++ colon ∷ yield_of value
  yield_of (tree.mapping stars e) = stars ∷ yield_of e
  yield_of (tree.slice lower colon upper) = perhaps_yield lower ++ colon ∷ perhaps_yield upper
  yield_of (tree.stride lower colon upper second step) =
      perhaps_yield lower ++ colon ∷ (perhaps_yield upper ++ second ∷ perhaps_yield step)
  yield_of (tree.argument e) = yield_of e
  yield_of (tree.keyword name equal e) = name ∷ equal ∷ yield_of e
  yield_of (tree.generator e comprehensions) = yield_of e ++ comprehensions_yield comprehensions
  yield_of (tree.parameter name annotation default) = name ∷ (tail_yield annotation ++ tail_yield default)
  yield_of (tree.star_parameter star name annotation) = star ∷ name ∷ tail_yield annotation
  yield_of (tree.bare_star star) = star ∷ []
  yield_of (tree.double_parameter stars name annotation) = stars ∷ name ∷ tail_yield annotation
  yield_of (tree.with_item e target) = yield_of e ++ tail_yield target

  -- the tokens of items with their commas
  pub pieces_yield : Pieces → List Token
  pieces_yield tree.none = []
  pieces_yield (tree.last e) = yield_of e
  pieces_yield (tree.piece e comma rest) = yield_of e ++ comma ∷ pieces_yield rest

  -- the tokens of comparisons
  pub links_yield : Links → List Token
  links_yield tree.unlinked = []
  links_yield (tree.link first second e rest) = first ∷ (optional_token second ++ (yield_of e ++ links_yield rest))

  -- the tokens of the clauses of a comprehension
  pub comprehensions_yield : Comprehensions → List Token
  comprehensions_yield tree.no_comprehension = []
  comprehensions_yield (tree.for_clause word_async word_for targets word_in e rest) =
      optional_token word_async ++ word_for ∷ (yield_of targets ++ word_in ∷ (yield_of e ++ comprehensions_yield rest))
  comprehensions_yield (tree.if_clause word_if e rest) = word_if ∷ (yield_of e ++ comprehensions_yield rest)

  -- the tokens of an expression, where there is one
  pub perhaps_yield : Perhaps → List Token
  perhaps_yield tree.absent = []
  perhaps_yield (tree.present e) = yield_of e

  -- a token and those of the expression after it, where there is one
  pub tail_yield : Tail → List Token
  tail_yield tree.nothing = []
  tail_yield (tree.after t e) = t ∷ yield_of e
