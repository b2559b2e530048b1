-- The height of each form.
use Rattle.std.proofs.Common.{◌≡◌, ℕ, ◌+◌, max, refl, List, Option}
use Rattle.pyc_token.specs.declared.tokens.Token.{Token}
use Rattle.pyc_tree.specs.declared.display_kind.DisplayKind.{DisplayKind}
use Rattle.pyc_tree.specs.Tree.{Tree, Pieces, Links, Comprehensions, Perhaps, Tail}
use Rattle.pyc_tree.specs.Tree as tree
use Rattle.pyc_tree.specs.Height.{height, pieces_height, links_height, comprehensions_height, perhaps_height, tail_height, tuple_node}

pub height_name : (u0 : Token) → height (tree.name u0) ≡ 1
unfolding height
height_name u0 = refl

pub height_number : (u0 : Token) → height (tree.number u0) ≡ 1
unfolding height
height_number u0 = refl

pub height_constant : (u0 : Token) → height (tree.constant u0) ≡ 1
unfolding height
height_constant u0 = refl

pub height_strings : (u0 : Token) (u1 : List Token) → height (tree.strings u0 u1) ≡ 1
unfolding height
height_strings u0 u1 = refl

pub height_parenthesized : (u0 : Token) (e : Tree) (u1 : Token) → height (tree.parenthesized u0 e u1) ≡ height e + 1
unfolding height
height_parenthesized u0 e u1 = refl

pub height_display : (u0 : DisplayKind) (u1 : Token) (items : Pieces) (u2 : Token) → height (tree.display u0 u1 items u2) ≡ pieces_height items + 1
unfolding height
height_display u0 u1 items u2 = refl

pub height_comprehension_display : (u0 : DisplayKind) (u1 : Token) (e : Tree) (comprehensions : Comprehensions) (u2 : Token) → height (tree.comprehension_display u0 u1 e comprehensions u2) ≡ max (height e) (comprehensions_height comprehensions) + 1
unfolding height
height_comprehension_display u0 u1 e comprehensions u2 = refl

pub height_attribute : (e : Tree) (u0 : Token) (u1 : Token) → height (tree.attribute e u0 u1) ≡ height e + 1
unfolding height
height_attribute e u0 u1 = refl

pub height_call : (e : Tree) (u0 : Token) (arguments : Pieces) (u1 : Token) → height (tree.call e u0 arguments u1) ≡ max (height e) (pieces_height arguments) + 1
unfolding height
height_call e u0 arguments u1 = refl

pub height_subscript : (e : Tree) (u0 : Token) (index : Pieces) (u1 : Token) → height (tree.subscript e u0 index u1) ≡ max (height e) (pieces_height index + tuple_node index) + 1
unfolding height
height_subscript e u0 index u1 = refl

pub height_await : (u0 : Token) (e : Tree) → height (tree.await u0 e) ≡ height e + 1
unfolding height
height_await u0 e = refl

pub height_unary : (u0 : Token) (e : Tree) → height (tree.unary u0 e) ≡ height e + 1
unfolding height
height_unary u0 e = refl

pub height_binary : (a : Tree) (u0 : Token) (b : Tree) → height (tree.binary a u0 b) ≡ max (height a) (height b) + 1
unfolding height
height_binary a u0 b = refl

pub height_compare : (a : Tree) (links : Links) → height (tree.compare a links) ≡ max (height a) (links_height links) + 1
unfolding height
height_compare a links = refl

pub height_conditional : (a : Tree) (u0 : Token) (test : Tree) (u1 : Token) (b : Tree) → height (tree.conditional a u0 test u1 b) ≡ max (height a) (max (height test) (height b)) + 1
unfolding height
height_conditional a u0 test u1 b = refl

pub height_lambda : (u0 : Token) (parameters : Pieces) (u1 : Token) (body : Tree) → height (tree.lambda u0 parameters u1 body) ≡ max (pieces_height parameters) (height body) + 1
unfolding height
height_lambda u0 parameters u1 body = refl

pub height_bare : (items : Pieces) → height (tree.bare items) ≡ pieces_height items + 1
unfolding height
height_bare items = refl

pub height_yield : (u0 : Token) (value : Perhaps) → height (tree.yield u0 value) ≡ perhaps_height value + 1
unfolding height
height_yield u0 value = refl

pub height_yield_from : (u0 : Token) (u1 : Token) (e : Tree) → height (tree.yield_from u0 u1 e) ≡ height e + 1
unfolding height
height_yield_from u0 u1 e = refl

pub height_starred : (u0 : Token) (e : Tree) → height (tree.starred u0 e) ≡ height e + 1
unfolding height
height_starred u0 e = refl

pub height_double_starred : (u0 : Token) (e : Tree) → height (tree.double_starred u0 e) ≡ height e + 1
unfolding height
height_double_starred u0 e = refl

pub height_entry : (key : Tree) (u0 : Token) (value : Tree) → height (tree.entry key u0 value) ≡ max (height key) (height value)
unfolding height
height_entry key u0 value = refl

pub height_mapping : (u0 : Token) (e : Tree) → height (tree.mapping u0 e) ≡ height e
unfolding height
height_mapping u0 e = refl

pub height_slice : (lower : Perhaps) (u0 : Token) (upper : Perhaps) → height (tree.slice lower u0 upper) ≡ max (perhaps_height lower) (perhaps_height upper) + 1
unfolding height
height_slice lower u0 upper = refl

pub height_stride : (lower : Perhaps) (u0 : Token) (upper : Perhaps) (u1 : Token) (step : Perhaps) → height (tree.stride lower u0 upper u1 step) ≡ max (perhaps_height lower) (max (perhaps_height upper) (perhaps_height step)) + 1
unfolding height
height_stride lower u0 upper u1 step = refl

pub height_argument : (e : Tree) → height (tree.argument e) ≡ height e + 1
unfolding height
height_argument e = refl

pub height_keyword : (u0 : Token) (u1 : Token) (e : Tree) → height (tree.keyword u0 u1 e) ≡ height e + 1
unfolding height
height_keyword u0 u1 e = refl

pub height_generator : (e : Tree) (comprehensions : Comprehensions) → height (tree.generator e comprehensions) ≡ max (height e) (comprehensions_height comprehensions) + 1
unfolding height
height_generator e comprehensions = refl

pub height_parameter : (u0 : Token) (annotation : Tail) (default : Tail) → height (tree.parameter u0 annotation default) ≡ max (tail_height annotation) (tail_height default) + 1
unfolding height
height_parameter u0 annotation default = refl

pub height_star_parameter : (u0 : Token) (u1 : Token) (annotation : Tail) → height (tree.star_parameter u0 u1 annotation) ≡ tail_height annotation + 1
unfolding height
height_star_parameter u0 u1 annotation = refl

pub height_bare_star : (u0 : Token) → height (tree.bare_star u0) ≡ 1
unfolding height
height_bare_star u0 = refl

pub height_double_parameter : (u0 : Token) (u1 : Token) (annotation : Tail) → height (tree.double_parameter u0 u1 annotation) ≡ tail_height annotation + 1
unfolding height
height_double_parameter u0 u1 annotation = refl

pub height_with_item : (e : Tree) (target : Tail) → height (tree.with_item e target) ≡ max (height e) (tail_height target) + 1
unfolding height
height_with_item e target = refl

pub height_none : pieces_height tree.none ≡ 0
unfolding height
height_none = refl

pub height_last : (e : Tree) → pieces_height (tree.last e) ≡ height e
unfolding height
height_last e = refl

pub height_piece : (e : Tree) (u0 : Token) (rest : Pieces) → pieces_height (tree.piece e u0 rest) ≡ max (height e) (pieces_height rest)
unfolding height
height_piece e u0 rest = refl

pub height_unlinked : links_height tree.unlinked ≡ 0
unfolding height
height_unlinked = refl

pub height_link : (u0 : Token) (u1 : Option Token) (e : Tree) (rest : Links) → links_height (tree.link u0 u1 e rest) ≡ max (height e) (links_height rest)
unfolding height
height_link u0 u1 e rest = refl

pub height_no_comprehension : comprehensions_height tree.no_comprehension ≡ 0
unfolding height
height_no_comprehension = refl

pub height_for_clause : (u0 : Option Token) (u1 : Token) (targets : Tree) (u2 : Token) (e : Tree) (rest : Comprehensions) → comprehensions_height (tree.for_clause u0 u1 targets u2 e rest) ≡ max (max (height targets) (height e) + 1) (comprehensions_height rest)
unfolding height
height_for_clause u0 u1 targets u2 e rest = refl

pub height_if_clause : (u0 : Token) (e : Tree) (rest : Comprehensions) → comprehensions_height (tree.if_clause u0 e rest) ≡ max (height e + 1) (comprehensions_height rest)
unfolding height
height_if_clause u0 e rest = refl

pub height_absent : perhaps_height tree.absent ≡ 0
unfolding height
height_absent = refl

pub height_present : (e : Tree) → perhaps_height (tree.present e) ≡ height e
unfolding height
height_present e = refl

pub height_nothing : tail_height tree.nothing ≡ 0
unfolding height
height_nothing = refl

pub height_after : (u0 : Token) (e : Tree) → tail_height (tree.after u0 e) ≡ height e
unfolding height
height_after u0 e = refl

-- the height of each form
pub ruleset heights = (height_name, height_number, height_constant, height_strings, height_parenthesized, height_display, height_comprehension_display, height_attribute, height_call, height_subscript, height_await, height_unary, height_binary, height_compare, height_conditional, height_lambda, height_bare, height_yield, height_yield_from, height_starred, height_double_starred, height_entry, height_mapping, height_slice, height_stride, height_argument, height_keyword, height_generator, height_parameter, height_star_parameter, height_bare_star, height_double_parameter, height_with_item, height_none, height_last, height_piece, height_unlinked, height_link, height_no_comprehension, height_for_clause, height_if_clause, height_absent, height_present, height_nothing, height_after)
