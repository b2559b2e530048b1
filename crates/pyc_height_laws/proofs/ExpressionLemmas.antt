-- No expression is higher than the tree of the grammar that it is.
use Rattle.std.proofs.Common.{◌≡◌, ◌≤◌, ◌==◌, ◌&&◌, refl, arith, ℕ, max, List, [], ◌∷◌, length, Option, None, Some}
use Rattle.pyc_ast.specs.declared.position.Position.{Position}
use Rattle.pyc_ast.specs.Exprs.{Expr, expr, Form, Element, DictItem, Argument, Index, elements, dict_items, arguments, comparisons, indices_of}
use Rattle.pyc_ast.specs.Exprs as plain
use Rattle.pyc_expr.specs.Heights.{height, parts_height, optional_height, elements_height, element_height, dict_items_height, dict_item_height, arguments_height, argument_height, comparisons_height, index_height, indices_height}
use Rattle.pyc_height_laws.proofs.ChoiceLemmas.{if_low}
use Rattle.pyc_lower_atom.specs.declared.role.Role.{Role}
use Rattle.pyc_lower_atom.specs.Constants.{is_plain, strings_constant}
use Rattle.pyc_lower_atom.specs.Operators.{operation}
use Rattle.pyc_lower_atom.specs.Origins.{Origin, text_at, position_at}
use Rattle.pyc_lower_atom.specs.Roles.{is_annotation}
use Rattle.pyc_lower_expression.specs.Expressions.{in_parentheses, string_annotation_or, display_form, element_of, argument_of, first_role, arguments_or_generator, is_single, last_index, many_indices, subscript_of, string_annotation_form, strings_form}
use Rattle.pyc_lower_expression.specs.Expressions.{expr_in, optional_in, elements_in, dict_item_in, dict_items_in, arguments_in, comparisons_in, index_in, indices_in}
use Rattle.pyc_token.specs.declared.tokens.Keyword.TheVariants as word
use Rattle.pyc_token.specs.declared.tokens.Kind.{Kind}
use Rattle.pyc_token.specs.declared.tokens.Kind.TheVariants as kind
use Rattle.pyc_token.specs.declared.tokens.Token.{Token}
use Rattle.pyc_tree.specs.declared.display_kind.DisplayKind.{DisplayKind}
use Rattle.pyc_tree.specs.declared.display_kind.DisplayKind.TheVariants as display
use Rattle.pyc_tree.specs.Height as concrete
use Rattle.pyc_tree.specs.Tree.{Tree, Pieces, Links, Perhaps}
use Rattle.pyc_tree.specs.Tree as tree

-- ---- one form, of parts that are lowered

in_parentheses_height : (at : Position) (e : Expr) → height (in_parentheses at e) ≡ height e
in_parentheses_height at (expr begins inside form) = refl

operation_height : (k : Kind) (left right : Expr) → parts_height (operation k left right) ≡ max (height left) (height right)
operation_height (kind.Keyword word.And) left right = refl
operation_height (kind.Keyword word.Or) left right = refl
operation_height (kind.Arithmetic o) left right = refl
operation_height _ left right = refl

display_low : (n : ℕ) (made : DisplayKind) (items : List Element) (entries : List DictItem) → elements_height (elements items) ≤ n
    → dict_items_height (dict_items entries) ≤ n → parts_height (display_form made items entries) ≤ n
display_low n display.Tuple items entries low other = low
display_low n display.List items entries low other = low
display_low n display.Set items entries low other = low
display_low n display.Dict items entries low other = other

element_of_height : (t : Tree) (x : Expr) → element_height (element_of t x) ≡ height x
element_of_height (tree.starred star e) x = refl
element_of_height _ x = refl

argument_of_height : (o : Origin) (t : Tree) (x : Expr) → argument_height (argument_of o t x) ≡ height x
argument_of_height o (tree.starred star e) x = refl
argument_of_height o (tree.keyword name equal e) x = refl
argument_of_height o (tree.double_starred stars e) x = refl
argument_of_height o _ x = refl

-- a generator that is the only argument of a call is less high than its tree
only_low : (here : Position) (items : Pieces) (found : List Argument) → arguments_height (arguments found) ≤ concrete.pieces_height items
    → arguments_height (arguments (arguments_or_generator here items found)) ≤ concrete.pieces_height items
unfolding concrete.height
only_low here (tree.last (tree.argument (tree.generator e clauses))) found low = omega arith
only_low here _ found low = low

last_low : (found : List Index) → index_height (last_index found) ≤ indices_height (indices_of found)
last_low [] = omega arith
last_low (x ∷ []) = omega arith
last_low (x ∷ y ∷ found) = omega (arith, last_low (y ∷ found))

pub subscript_low : (items : Pieces) (found : List Index) → index_height (subscript_of items found) ≤ indices_height (indices_of found)
subscript_low items found =
    if_low index_height (indices_height (indices_of found)) (is_single items) (last_index found) (many_indices found) (last_low found) (omega arith)

-- ---- trees, where the text of a string spells this expression

module _ (spelled : List ℕ → Position → Option Expr) where
  string_annotation_low : (otherwise : Form) (found : Option Expr) → parts_height otherwise ≤ 0 → parts_height (string_annotation_or otherwise found) ≤ 0
  string_annotation_low otherwise None low = low
  string_annotation_low otherwise (Some e) low = omega arith

  -- a string has no parts
  strings_low : (o : Origin) (role : Role) (t : Token) (more : List Token) → parts_height (strings_form spelled o role t more) ≤ 0
  strings_low o role t more =
      let otherwise : Form = plain.constant (strings_constant t.kind []) in
      if_low parts_height 0 (is_annotation role && (length more == 0)) (string_annotation_form spelled o t) (plain.constant (strings_constant t.kind more))
      (if_low parts_height 0 (is_plain t.kind) (string_annotation_or otherwise (spelled (text_at o.source t.span) (position_at o t))) otherwise
      (string_annotation_low otherwise (spelled (text_at o.source t.span) (position_at o t)) (omega arith)) (omega arith)) (omega arith)

  mutual
    unfolding expr_in concrete.height

    pub expr_low : (o : Origin) (role : Role) (t : Tree) → height (expr_in spelled o role t) ≤ concrete.height t
    expr_low o role (tree.name t) = omega arith
    expr_low o role (tree.number t) = omega arith
    expr_low o role (tree.constant t) = omega arith
    expr_low o role (tree.strings t more) = omega (arith, strings_low o role t more)
    expr_low o role (tree.parenthesized opening e closing) =
        omega (arith, in_parentheses_height (position_at o opening) (expr_in spelled o role e), expr_low o role e)
    expr_low o role (tree.display made opening items closing) =
        omega (arith, display_low (concrete.pieces_height items) made (elements_in spelled o role items) (dict_items_in spelled o role items) (elements_low o role items) (dict_items_low o role items))
    expr_low o role (tree.comprehension_display made opening e clauses closing) = omega arith
    expr_low o role (tree.attribute e dot name) = omega (arith, expr_low o role e)
    expr_low o role (tree.call e opening items closing) =
        omega (arith, expr_low o role e, only_low (position_at o opening) items (arguments_in spelled o (first_role role items) role items) (arguments_low o (first_role role items) role items))
    expr_low o role (tree.subscript e opening items closing) =
        omega (arith, expr_low o role e, subscript_low items (indices_in spelled o role items), indices_low o role items)
    expr_low o role (tree.await t e) = omega (arith, expr_low o role e)
    expr_low o role (tree.unary sign e) = omega (arith, expr_low o role e)
    expr_low o role (tree.binary a sign b) =
        omega (arith, operation_height sign.kind (expr_in spelled o role a) (expr_in spelled o role b), expr_low o role a, expr_low o role b)
    expr_low o role (tree.compare a links) = omega (arith, expr_low o role a, comparisons_low o role links)
    expr_low o role (tree.conditional a word_if test word_else b) = omega (arith, expr_low o role a, expr_low o role test, expr_low o role b)
    expr_low o role (tree.lambda t parameters colon body) = omega arith
    expr_low o role (tree.bare items) = omega (arith, elements_low o role items)
    expr_low o role (tree.yield t value) = omega (arith, optional_low o role value)
    expr_low o role (tree.yield_from t from e) = omega (arith, expr_low o role e)
    expr_low o role (tree.starred star e) = omega (arith, expr_low o role e)
    expr_low o role (tree.double_starred stars e) = omega (arith, expr_low o role e)
    expr_low o role (tree.entry key colon value) = omega (arith, expr_low o role value)
    expr_low o role (tree.mapping stars e) = expr_low o role e
    expr_low o role (tree.argument e) = omega (arith, expr_low o role e)
    expr_low o role (tree.keyword name equal e) = omega (arith, expr_low o role e)
    expr_low o role (tree.with_item e target) = omega (arith, expr_low o role e)
    expr_low o role _ = omega arith

    optional_low : (o : Origin) (role : Role) (t : Perhaps) → optional_height (optional_in spelled o role t) ≤ concrete.perhaps_height t
    optional_low o role tree.absent = omega arith
    optional_low o role (tree.present e) = expr_low o role e

    elements_low : (o : Origin) (role : Role) (items : Pieces) → elements_height (elements (elements_in spelled o role items)) ≤ concrete.pieces_height items
    elements_low o role tree.none = omega arith
    elements_low o role (tree.last e) = omega (arith, element_of_height e (expr_in spelled o role e), expr_low o role e)
    elements_low o role (tree.piece e comma rest) =
        omega (arith, element_of_height e (expr_in spelled o role e), expr_low o role e, elements_low o role rest)

    -- an item of a dictionary, by its value
    dict_item_low : (o : Origin) (role : Role) (t : Tree) (x : Expr) → height x ≤ concrete.height t → dict_item_height (dict_item_in spelled o role t x) ≤ concrete.height t
    dict_item_low o role (tree.entry key colon e) x low = omega (arith, low, expr_low o role key)
    dict_item_low o role _ x low = low

    dict_items_low : (o : Origin) (role : Role) (items : Pieces) → dict_items_height (dict_items (dict_items_in spelled o role items)) ≤ concrete.pieces_height items
    dict_items_low o role tree.none = omega arith
    dict_items_low o role (tree.last e) = omega (arith, dict_item_low o role e (expr_in spelled o role e) (expr_low o role e))
    dict_items_low o role (tree.piece e comma rest) =
        omega (arith, dict_item_low o role e (expr_in spelled o role e) (expr_low o role e), dict_items_low o role rest)

    pub arguments_low : (o : Origin) (first role : Role) (items : Pieces) → arguments_height (arguments (arguments_in spelled o first role items)) ≤ concrete.pieces_height items
    arguments_low o first role tree.none = omega arith
    arguments_low o first role (tree.last e) = omega (arith, argument_of_height o e (expr_in spelled o first e), expr_low o first e)
    arguments_low o first role (tree.piece e comma rest) =
        omega (arith, argument_of_height o e (expr_in spelled o first e), expr_low o first e, arguments_low o role role rest)

    comparisons_low : (o : Origin) (role : Role) (links : Links) → comparisons_height (comparisons (comparisons_in spelled o role links)) ≤ concrete.links_height links
    comparisons_low o role tree.unlinked = omega arith
    comparisons_low o role (tree.link first second e rest) = omega (arith, expr_low o role e, comparisons_low o role rest)

    -- an index, by its value where it is no slice
    index_low : (o : Origin) (role : Role) (t : Tree) (x : Expr) → height x ≤ concrete.height t → index_height (index_in spelled o role t x) ≤ concrete.height t
    index_low o role (tree.slice lower colon upper) x low = omega (arith, optional_low o role lower, optional_low o role upper)
    index_low o role (tree.stride lower colon upper second step) x low =
        omega (arith, optional_low o role lower, optional_low o role upper, optional_low o role step)
    index_low o role _ x low = low

    pub indices_low : (o : Origin) (role : Role) (items : Pieces) → indices_height (indices_of (indices_in spelled o role items)) ≤ concrete.pieces_height items
    indices_low o role tree.none = omega arith
    indices_low o role (tree.last e) = omega (arith, index_low o role e (expr_in spelled o role e) (expr_low o role e))
    indices_low o role (tree.piece e comma rest) =
        omega (arith, index_low o role e (expr_in spelled o role e) (expr_low o role e), indices_low o role rest)
