-- Which forms may be assigned to.
use Rattle.std.proofs.Common.{◌≡◌, Bool, true, false, ◌&&◌, ◌||◌, not, refl, sym, List, Option}
use Rattle.std.proofs.Math.Bool.{and-true, and-false}
use Rattle.pyc_token.specs.declared.tokens.Token.{Token}
use Rattle.pyc_tree.specs.declared.display_kind.DisplayKind.{DisplayKind}
use Rattle.pyc_tree.specs.Tree.{Tree, Pieces, Links, Comprehensions, Perhaps, Tail}
use Rattle.pyc_tree.specs.Tree as tree
use Rattle.pyc_tree.specs.Targets.{is_target, is_item_target, are_targets, holds_targets, is_starred}

pub target_name : (a0 : Token) → is_target (tree.name a0) ≡ true
unfolding is_target
target_name a0 = refl

pub target_number : (a0 : Token) → is_target (tree.number a0) ≡ false
unfolding is_target
target_number a0 = refl

pub target_constant : (a0 : Token) → is_target (tree.constant a0) ≡ false
unfolding is_target
target_constant a0 = refl

pub target_strings : (a0 : Token) (a1 : List Token) → is_target (tree.strings a0 a1) ≡ false
unfolding is_target
target_strings a0 a1 = refl

pub target_parenthesized : (a0 : Token) (a1 : Tree) (a2 : Token) → is_target (tree.parenthesized a0 a1 a2) ≡ is_target a1
unfolding is_target
target_parenthesized a0 a1 a2 = refl

pub target_display : (a0 : DisplayKind) (a1 : Token) (a2 : Pieces) (a3 : Token) → is_target (tree.display a0 a1 a2 a3) ≡ holds_targets a0 && are_targets false a2
unfolding is_target
target_display a0 a1 a2 a3 = refl

pub target_comprehension_display : (a0 : DisplayKind) (a1 : Token) (a2 : Tree) (a3 : Comprehensions) (a4 : Token) → is_target (tree.comprehension_display a0 a1 a2 a3 a4) ≡ false
unfolding is_target
target_comprehension_display a0 a1 a2 a3 a4 = refl

pub target_attribute : (a0 : Tree) (a1 : Token) (a2 : Token) → is_target (tree.attribute a0 a1 a2) ≡ true
unfolding is_target
target_attribute a0 a1 a2 = refl

pub target_call : (a0 : Tree) (a1 : Token) (a2 : Pieces) (a3 : Token) → is_target (tree.call a0 a1 a2 a3) ≡ false
unfolding is_target
target_call a0 a1 a2 a3 = refl

pub target_subscript : (a0 : Tree) (a1 : Token) (a2 : Pieces) (a3 : Token) → is_target (tree.subscript a0 a1 a2 a3) ≡ true
unfolding is_target
target_subscript a0 a1 a2 a3 = refl

pub target_await : (a0 : Token) (a1 : Tree) → is_target (tree.await a0 a1) ≡ false
unfolding is_target
target_await a0 a1 = refl

pub target_unary : (a0 : Token) (a1 : Tree) → is_target (tree.unary a0 a1) ≡ false
unfolding is_target
target_unary a0 a1 = refl

pub target_binary : (a0 : Tree) (a1 : Token) (a2 : Tree) → is_target (tree.binary a0 a1 a2) ≡ false
unfolding is_target
target_binary a0 a1 a2 = refl

pub target_compare : (a0 : Tree) (a1 : Links) → is_target (tree.compare a0 a1) ≡ false
unfolding is_target
target_compare a0 a1 = refl

pub target_conditional : (a0 : Tree) (a1 : Token) (a2 : Tree) (a3 : Token) (a4 : Tree) → is_target (tree.conditional a0 a1 a2 a3 a4) ≡ false
unfolding is_target
target_conditional a0 a1 a2 a3 a4 = refl

pub target_lambda : (a0 : Token) (a1 : Pieces) (a2 : Token) (a3 : Tree) → is_target (tree.lambda a0 a1 a2 a3) ≡ false
unfolding is_target
target_lambda a0 a1 a2 a3 = refl

pub target_bare : (a0 : Pieces) → is_target (tree.bare a0) ≡ are_targets false a0
unfolding is_target
target_bare a0 = refl

pub target_yield : (a0 : Token) (a1 : Perhaps) → is_target (tree.yield a0 a1) ≡ false
unfolding is_target
target_yield a0 a1 = refl

pub target_yield_from : (a0 : Token) (a1 : Token) (a2 : Tree) → is_target (tree.yield_from a0 a1 a2) ≡ false
unfolding is_target
target_yield_from a0 a1 a2 = refl

pub target_starred : (a0 : Token) (a1 : Tree) → is_target (tree.starred a0 a1) ≡ false
unfolding is_target
target_starred a0 a1 = refl

pub target_double_starred : (a0 : Token) (a1 : Tree) → is_target (tree.double_starred a0 a1) ≡ false
unfolding is_target
target_double_starred a0 a1 = refl

pub target_entry : (a0 : Tree) (a1 : Token) (a2 : Tree) → is_target (tree.entry a0 a1 a2) ≡ false
unfolding is_target
target_entry a0 a1 a2 = refl

pub target_mapping : (a0 : Token) (a1 : Tree) → is_target (tree.mapping a0 a1) ≡ false
unfolding is_target
target_mapping a0 a1 = refl

pub target_slice : (a0 : Perhaps) (a1 : Token) (a2 : Perhaps) → is_target (tree.slice a0 a1 a2) ≡ false
unfolding is_target
target_slice a0 a1 a2 = refl

pub target_stride : (a0 : Perhaps) (a1 : Token) (a2 : Perhaps) (a3 : Token) (a4 : Perhaps) → is_target (tree.stride a0 a1 a2 a3 a4) ≡ false
unfolding is_target
target_stride a0 a1 a2 a3 a4 = refl

pub target_argument : (a0 : Tree) → is_target (tree.argument a0) ≡ false
unfolding is_target
target_argument a0 = refl

pub target_keyword : (a0 : Token) (a1 : Token) (a2 : Tree) → is_target (tree.keyword a0 a1 a2) ≡ false
unfolding is_target
target_keyword a0 a1 a2 = refl

pub target_generator : (a0 : Tree) (a1 : Comprehensions) → is_target (tree.generator a0 a1) ≡ false
unfolding is_target
target_generator a0 a1 = refl

pub target_parameter : (a0 : Token) (a1 : Tail) (a2 : Tail) → is_target (tree.parameter a0 a1 a2) ≡ false
unfolding is_target
target_parameter a0 a1 a2 = refl

pub target_star_parameter : (a0 : Token) (a1 : Token) (a2 : Tail) → is_target (tree.star_parameter a0 a1 a2) ≡ false
unfolding is_target
target_star_parameter a0 a1 a2 = refl

pub target_bare_star : (a0 : Token) → is_target (tree.bare_star a0) ≡ false
unfolding is_target
target_bare_star a0 = refl

pub target_double_parameter : (a0 : Token) (a1 : Token) (a2 : Tail) → is_target (tree.double_parameter a0 a1 a2) ≡ false
unfolding is_target
target_double_parameter a0 a1 a2 = refl

pub target_with_item : (a0 : Tree) (a1 : Tail) → is_target (tree.with_item a0 a1) ≡ false
unfolding is_target
target_with_item a0 a1 = refl

-- ---- which forms may be items of targets

pub item_target_name : (a0 : Token) → is_item_target (tree.name a0) ≡ true
unfolding is_item_target
item_target_name a0 = refl

pub item_target_number : (a0 : Token) → is_item_target (tree.number a0) ≡ false
unfolding is_item_target
item_target_number a0 = refl

pub item_target_constant : (a0 : Token) → is_item_target (tree.constant a0) ≡ false
unfolding is_item_target
item_target_constant a0 = refl

pub item_target_strings : (a0 : Token) (a1 : List Token) → is_item_target (tree.strings a0 a1) ≡ false
unfolding is_item_target
item_target_strings a0 a1 = refl

pub item_target_parenthesized : (a0 : Token) (a1 : Tree) (a2 : Token) → is_item_target (tree.parenthesized a0 a1 a2) ≡ is_target a1
unfolding is_item_target
item_target_parenthesized a0 a1 a2 = refl

pub item_target_display : (a0 : DisplayKind) (a1 : Token) (a2 : Pieces) (a3 : Token) → is_item_target (tree.display a0 a1 a2 a3) ≡ holds_targets a0 && are_targets false a2
unfolding is_item_target
item_target_display a0 a1 a2 a3 = refl

pub item_target_comprehension_display : (a0 : DisplayKind) (a1 : Token) (a2 : Tree) (a3 : Comprehensions) (a4 : Token) → is_item_target (tree.comprehension_display a0 a1 a2 a3 a4) ≡ false
unfolding is_item_target
item_target_comprehension_display a0 a1 a2 a3 a4 = refl

pub item_target_attribute : (a0 : Tree) (a1 : Token) (a2 : Token) → is_item_target (tree.attribute a0 a1 a2) ≡ true
unfolding is_item_target
item_target_attribute a0 a1 a2 = refl

pub item_target_call : (a0 : Tree) (a1 : Token) (a2 : Pieces) (a3 : Token) → is_item_target (tree.call a0 a1 a2 a3) ≡ false
unfolding is_item_target
item_target_call a0 a1 a2 a3 = refl

pub item_target_subscript : (a0 : Tree) (a1 : Token) (a2 : Pieces) (a3 : Token) → is_item_target (tree.subscript a0 a1 a2 a3) ≡ true
unfolding is_item_target
item_target_subscript a0 a1 a2 a3 = refl

pub item_target_await : (a0 : Token) (a1 : Tree) → is_item_target (tree.await a0 a1) ≡ false
unfolding is_item_target
item_target_await a0 a1 = refl

pub item_target_unary : (a0 : Token) (a1 : Tree) → is_item_target (tree.unary a0 a1) ≡ false
unfolding is_item_target
item_target_unary a0 a1 = refl

pub item_target_binary : (a0 : Tree) (a1 : Token) (a2 : Tree) → is_item_target (tree.binary a0 a1 a2) ≡ false
unfolding is_item_target
item_target_binary a0 a1 a2 = refl

pub item_target_compare : (a0 : Tree) (a1 : Links) → is_item_target (tree.compare a0 a1) ≡ false
unfolding is_item_target
item_target_compare a0 a1 = refl

pub item_target_conditional : (a0 : Tree) (a1 : Token) (a2 : Tree) (a3 : Token) (a4 : Tree) → is_item_target (tree.conditional a0 a1 a2 a3 a4) ≡ false
unfolding is_item_target
item_target_conditional a0 a1 a2 a3 a4 = refl

pub item_target_lambda : (a0 : Token) (a1 : Pieces) (a2 : Token) (a3 : Tree) → is_item_target (tree.lambda a0 a1 a2 a3) ≡ false
unfolding is_item_target
item_target_lambda a0 a1 a2 a3 = refl

pub item_target_bare : (a0 : Pieces) → is_item_target (tree.bare a0) ≡ are_targets false a0
unfolding is_item_target
item_target_bare a0 = refl

pub item_target_yield : (a0 : Token) (a1 : Perhaps) → is_item_target (tree.yield a0 a1) ≡ false
unfolding is_item_target
item_target_yield a0 a1 = refl

pub item_target_yield_from : (a0 : Token) (a1 : Token) (a2 : Tree) → is_item_target (tree.yield_from a0 a1 a2) ≡ false
unfolding is_item_target
item_target_yield_from a0 a1 a2 = refl

pub item_target_starred : (a0 : Token) (a1 : Tree) → is_item_target (tree.starred a0 a1) ≡ is_target a1
unfolding is_item_target
item_target_starred a0 a1 = refl

pub item_target_double_starred : (a0 : Token) (a1 : Tree) → is_item_target (tree.double_starred a0 a1) ≡ false
unfolding is_item_target
item_target_double_starred a0 a1 = refl

pub item_target_entry : (a0 : Tree) (a1 : Token) (a2 : Tree) → is_item_target (tree.entry a0 a1 a2) ≡ false
unfolding is_item_target
item_target_entry a0 a1 a2 = refl

pub item_target_mapping : (a0 : Token) (a1 : Tree) → is_item_target (tree.mapping a0 a1) ≡ false
unfolding is_item_target
item_target_mapping a0 a1 = refl

pub item_target_slice : (a0 : Perhaps) (a1 : Token) (a2 : Perhaps) → is_item_target (tree.slice a0 a1 a2) ≡ false
unfolding is_item_target
item_target_slice a0 a1 a2 = refl

pub item_target_stride : (a0 : Perhaps) (a1 : Token) (a2 : Perhaps) (a3 : Token) (a4 : Perhaps) → is_item_target (tree.stride a0 a1 a2 a3 a4) ≡ false
unfolding is_item_target
item_target_stride a0 a1 a2 a3 a4 = refl

pub item_target_argument : (a0 : Tree) → is_item_target (tree.argument a0) ≡ false
unfolding is_item_target
item_target_argument a0 = refl

pub item_target_keyword : (a0 : Token) (a1 : Token) (a2 : Tree) → is_item_target (tree.keyword a0 a1 a2) ≡ false
unfolding is_item_target
item_target_keyword a0 a1 a2 = refl

pub item_target_generator : (a0 : Tree) (a1 : Comprehensions) → is_item_target (tree.generator a0 a1) ≡ false
unfolding is_item_target
item_target_generator a0 a1 = refl

pub item_target_parameter : (a0 : Token) (a1 : Tail) (a2 : Tail) → is_item_target (tree.parameter a0 a1 a2) ≡ false
unfolding is_item_target
item_target_parameter a0 a1 a2 = refl

pub item_target_star_parameter : (a0 : Token) (a1 : Token) (a2 : Tail) → is_item_target (tree.star_parameter a0 a1 a2) ≡ false
unfolding is_item_target
item_target_star_parameter a0 a1 a2 = refl

pub item_target_bare_star : (a0 : Token) → is_item_target (tree.bare_star a0) ≡ false
unfolding is_item_target
item_target_bare_star a0 = refl

pub item_target_double_parameter : (a0 : Token) (a1 : Token) (a2 : Tail) → is_item_target (tree.double_parameter a0 a1 a2) ≡ false
unfolding is_item_target
item_target_double_parameter a0 a1 a2 = refl

pub item_target_with_item : (a0 : Tree) (a1 : Tail) → is_item_target (tree.with_item a0 a1) ≡ false
unfolding is_item_target
item_target_with_item a0 a1 = refl

-- what is a target as an item, and is not starred, is one by itself
pub target_of_item : (t : Tree) → is_target t ≡ is_item_target t && not (is_starred t)
unfolding is_target
target_of_item (tree.starred star t) = sym (and-false (is_target t))
target_of_item t = sym (and-true (is_target t))

-- which forms may be assigned to
pub ruleset target_forms = (target_name, target_number, target_constant, target_strings, target_parenthesized, target_display, target_comprehension_display, target_attribute, target_call, target_subscript, target_await, target_unary, target_binary, target_compare, target_conditional, target_lambda, target_bare, target_yield, target_yield_from, target_starred, target_double_starred, target_entry, target_mapping, target_slice, target_stride, target_argument, target_keyword, target_generator, target_parameter, target_star_parameter, target_bare_star, target_double_parameter, target_with_item, item_target_name, item_target_number, item_target_constant, item_target_strings, item_target_parenthesized, item_target_display, item_target_comprehension_display, item_target_attribute, item_target_call, item_target_subscript, item_target_await, item_target_unary, item_target_binary, item_target_compare, item_target_conditional, item_target_lambda, item_target_bare, item_target_yield, item_target_yield_from, item_target_starred, item_target_double_starred, item_target_entry, item_target_mapping, item_target_slice, item_target_stride, item_target_argument, item_target_keyword, item_target_generator, item_target_parameter, item_target_star_parameter, item_target_bare_star, item_target_double_parameter, item_target_with_item)
