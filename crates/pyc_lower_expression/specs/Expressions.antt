-- The abstract expression that a tree of the grammar is: without its tokens and parentheses (Python reference 3.13,
-- "Expressions"; CPython's `ast`). What no well-formed tree holds is `placeholder`.
use Rattle.std.specs.Prelude.{ℕ, Bool, true, false, ◌&&◌, if◌then◌else◌, List, [], ◌∷◌, Option, None, Some}
use Rattle.std.specs.Prelude.{is_some, unwrap_or, option_and_then, ◌==◌, length}
use Rattle.pyc_ast.specs.declared.constant.Constant.TheVariants.{Ellipsis}
use Rattle.pyc_ast.specs.declared.constant.Unchecked.TheVariants.{Lambda, Generator}
use Rattle.pyc_ast.specs.declared.expr.ArgumentKind.TheVariants.{Positional, Starred, Keyword, DoubleStarred}
use Rattle.pyc_ast.specs.declared.position.Position.{Position}
use Rattle.pyc_ast.specs.Exprs.{Expr, Form, OptionalExpr, Element, DictItem, Argument, Comparison, Index, IndexForm}
use Rattle.pyc_ast.specs.Exprs.{at_of, inside_of, form_in, elements, dict_items, arguments, comparisons, indices_of}
use Rattle.pyc_ast.specs.Exprs as plain
use Rattle.pyc_lower_atom.specs.declared.role.Role.{Role}
use Rattle.pyc_lower_atom.specs.declared.role.Role.TheVariants.{Annotation}
use Rattle.pyc_lower_atom.specs.Constants.{number_constant, word_constant, strings_constant, is_plain}
use Rattle.pyc_lower_atom.specs.Constants.{comprehension}
use Rattle.pyc_lower_atom.specs.Operators.{unary_operator, operation, comparison_operator}
use Rattle.pyc_lower_atom.specs.Origins.{Origin, text_at, name_at, position_at}
use Rattle.pyc_lower_atom.specs.Roles.{is_annotation}
use Rattle.pyc_token.specs.declared.tokens.Token.{Token}
use Rattle.pyc_tree.specs.declared.display_kind.DisplayKind.{DisplayKind}
use Rattle.pyc_tree.specs.declared.display_kind.DisplayKind.TheVariants as display
use Rattle.pyc_tree.specs.Tree.{Tree, Pieces, Links, Perhaps}
use Rattle.pyc_tree.specs.Tree as tree

-- ---- one form, of parts that are lowered

-- an expression that begins at its own first token
abbrev pub with_position : Position → Form → Expr
with_position at form = plain.expr at at form

-- an expression that begins with its first part
abbrev pub following : Expr → Form → Expr
following first form = with_position (at_of first) form

-- an expression in parentheses
abbrev pub in_parentheses : Position → Expr → Expr
in_parentheses at e = plain.expr at (inside_of e) (form_in e)

-- what stands where no well-formed tree has an expression
abbrev pub placeholder : Expr
placeholder = with_position (record { line = 0; column = 0 }) (plain.constant Ellipsis)

-- a string that may be an annotation, by the expression that its text spells
abbrev pub string_annotation_or : Form → Option Expr → Form
string_annotation_or otherwise None = otherwise
string_annotation_or otherwise (Some e) = plain.string_annotation e

-- a display in brackets
abbrev pub display_form : DisplayKind → List Element → List DictItem → Form
display_form display.Tuple items entries = plain.tuple (elements items)
display_form display.List items entries = plain.list (elements items)
display_form display.Set items entries = plain.set (elements items)
display_form display.Dict items entries = plain.dict (dict_items entries)

-- the value of an item
abbrev pub value_of : Element → Expr
value_of (plain.element starred e) = e

-- the first of some items
abbrev pub first_of : Pieces → Option Tree
first_of tree.none = None
first_of (tree.last e) = Some e
first_of (tree.piece e comma rest) = Some e

-- where the star of an item stands
abbrev pub star_at : Origin → Tree → Option Position
star_at o (tree.starred star e) = Some (position_at o star)
star_at o _ = None

-- where the first of some items begins: at its star, else with its value
abbrev pub value_at : List Element → Position
value_at [] = at_of placeholder
value_at (x ∷ found) = at_of (value_of x)

abbrev pub first_at : Origin → Pieces → List Element → Position
first_at o items found = unwrap_or (option_and_then (star_at o) (first_of items)) (value_at found)

-- where an optional expression begins, else here
abbrev pub optional_at : OptionalExpr → Position → Position
optional_at plain.absent here = here
optional_at (plain.present e) here = at_of e

-- indices with commas, which begin with the first of them
abbrev pub index_at : Index → Position
index_at (plain.index at form) = at

-- where the first of some indices begins
abbrev pub indices_at : List Index → Position
indices_at [] = at_of placeholder
indices_at (x ∷ found) = index_at x

abbrev pub many_indices : List Index → Index
many_indices found = plain.index (indices_at found) (plain.indices (indices_of found))

-- whether items are two
abbrev pub is_last : Pieces → Bool
is_last tree.none = true
is_last _ = false

abbrev pub are_two : Pieces → Bool
are_two (tree.piece _ _ (tree.last _)) = true
are_two (tree.piece _ _ (tree.piece _ _ rest)) = is_last rest
are_two _ = false

-- the first of two arguments may be an annotation, as that of `cast` is (typing specification, "cast()")
abbrev pub first_role : Role → Pieces → Role
first_role role items = if are_two items then Annotation else role

-- an item of a tuple, a list or a set, by its value
abbrev pub element_of : Tree → Expr → Element
element_of (tree.starred star e) value = plain.element true value
element_of _ value = plain.element false value

-- an argument, by its value
abbrev pub argument_of : Origin → Tree → Expr → Argument
argument_of o (tree.starred star e) value = plain.argument (position_at o star) Starred value
argument_of o (tree.keyword name equal e) value = plain.argument (position_at o name) (Keyword (name_at o name)) value
argument_of o (tree.double_starred stars e) value = plain.argument (position_at o stars) DoubleStarred value
argument_of o _ value = plain.argument (at_of value) Positional value

-- whether an argument is a generator without parentheses of its own
abbrev pub is_generator : Tree → Bool
is_generator (tree.argument (tree.generator e clauses)) = true
is_generator _ = false

-- whether the only one of some arguments is a generator
abbrev pub is_only_generator : Pieces → Bool
is_only_generator (tree.last e) = is_generator e
is_only_generator _ = false

-- the arguments of a call whose parenthesis stands here: a generator that is the only one stands in these parentheses
abbrev pub arguments_or_generator : Position → Pieces → List Argument → List Argument
arguments_or_generator here items found =
    if is_only_generator items then plain.argument here Positional (with_position here (plain.unchecked Generator)) ∷
    [] else found

-- whether there is one item, without a comma
abbrev pub is_single : Pieces → Bool
is_single (tree.last e) = true
is_single _ = false

-- the last of some indices
abbrev pub last_index : List Index → Index
last_index [] = many_indices []
last_index (x ∷ []) = x
last_index (x ∷ y ∷ found) = last_index (y ∷ found)

-- what stands between the brackets of a subscript: one index without a comma, or several
abbrev pub subscript_of : Pieces → List Index → Index
subscript_of items found = if is_single items then last_index found else many_indices found

-- ---- trees, where the text of a string spells this expression

module _ (spelled : List ℕ → Position → Option Expr) where
  -- a string that may be an annotation
  abbrev pub string_annotation_form : Origin → Token → Form
  string_annotation_form origin t =
      let otherwise = plain.constant (strings_constant t.kind []) in
      if is_plain t.kind then string_annotation_or otherwise (spelled (text_at origin.source t.span)
      (position_at origin t))
      else otherwise

  -- strings one after another: one alone may be an annotation
  abbrev pub strings_form : Origin → Role → Token → List Token → Form
  strings_form origin role t more =
      if is_annotation role && (length more == 0) then string_annotation_form origin t
      else plain.constant (strings_constant t.kind more)

  unfoldable mutual
    -- the expression that a tree is
    pub expr_in : Origin → Role → Tree → Expr
    expr_in o role (tree.name t) = with_position (position_at o t) (plain.name (name_at o t))
    expr_in o role (tree.number t) =
        with_position (position_at o t) (plain.constant (number_constant t.kind (text_at o.source t.span)))
    expr_in o role (tree.constant t) = with_position (position_at o t) (plain.constant (word_constant t.kind))
    expr_in o role (tree.strings t more) = with_position (position_at o t) (strings_form o role t more)
    expr_in o role (tree.parenthesized opening e closing) = in_parentheses (position_at o opening) (expr_in o role e)
    expr_in o role (tree.display made opening items closing) =
        with_position (position_at o opening) (display_form made (elements_in o role items)
        (dict_items_in o role items))
    expr_in o role (tree.comprehension_display made opening e clauses closing) =
        with_position (position_at o opening) (plain.unchecked (comprehension made))
    expr_in o role (tree.attribute e dot name) =
        let value = expr_in o role e in following value (plain.attribute value (name_at o name))
    expr_in o role (tree.call e opening items closing) =
        let callee = expr_in o role e in
        following callee
        (plain.call callee
        (arguments (arguments_or_generator (position_at o opening) items
        (arguments_in o (first_role role items) role items))))
    expr_in o role (tree.subscript e opening items closing) =
        let value = expr_in o role e in
        following value (plain.subscript value (subscript_of items (indices_in o role items)))
    expr_in o role (tree.await t e) = with_position (position_at o t) (plain.await (expr_in o role e))
    expr_in o role (tree.unary sign e) =
        with_position (position_at o sign) (plain.unary (unary_operator sign.kind) (expr_in o role e))
    expr_in o role (tree.binary a sign b) =
        let left = expr_in o role a in following left (operation sign.kind left (expr_in o role b))
    expr_in o role (tree.compare a links) =
        let left = expr_in o role a in following left (plain.compare left (comparisons (comparisons_in o role links)))
    expr_in o role (tree.conditional a word_if test word_else b) =
        let body = expr_in o role a in following body (plain.conditional (expr_in o role test) body (expr_in o role b))
    expr_in o role (tree.lambda t parameters colon body) = with_position (position_at o t) (plain.unchecked Lambda)
    expr_in o role (tree.bare items) =
        let found = elements_in o role items in with_position (first_at o items found) (plain.tuple (elements found))
    expr_in o role (tree.yield t value) = with_position (position_at o t) (plain.yield (optional_in o role value))
    expr_in o role (tree.yield_from t from e) = with_position (position_at o t) (plain.yield_from (expr_in o role e))
    -- an item is its value
    expr_in o role (tree.starred star e) = expr_in o role e
    expr_in o role (tree.double_starred stars e) = expr_in o role e
    expr_in o role (tree.entry key colon value) = expr_in o role value
    expr_in o role (tree.mapping stars e) = expr_in o role e
    expr_in o role (tree.argument e) = expr_in o role e
    expr_in o role (tree.keyword name equal e) = expr_in o role e
    expr_in o role (tree.with_item e target) = expr_in o role e
    expr_in o role _ = placeholder

    pub optional_in : Origin → Role → Perhaps → OptionalExpr
    optional_in o role tree.absent = plain.absent
    optional_in o role (tree.present e) = plain.present (expr_in o role e)

    -- the items of a tuple, a list or a set
    pub elements_in : Origin → Role → Pieces → List Element
    elements_in o role tree.none = []
    elements_in o role (tree.last e) = element_of e (expr_in o role e) ∷ []
    elements_in o role (tree.piece e comma rest) = element_of e (expr_in o role e) ∷ elements_in o role rest

    -- an item of a dictionary, by its value
    pub dict_item_in : Origin → Role → Tree → Expr → DictItem
    dict_item_in o role (tree.entry key colon e) value = plain.entry (expr_in o role key) value
    dict_item_in o role _ value = plain.unpacking value

    pub dict_items_in : Origin → Role → Pieces → List DictItem
    dict_items_in o role tree.none = []
    dict_items_in o role (tree.last e) = dict_item_in o role e (expr_in o role e) ∷ []
    dict_items_in o role (tree.piece e comma rest) =
        dict_item_in o role e (expr_in o role e) ∷ dict_items_in o role rest

    -- arguments, the first of them in its own role
    pub arguments_in : Origin → Role → Role → Pieces → List Argument
    arguments_in o first role tree.none = []
    arguments_in o first role (tree.last e) = argument_of o e (expr_in o first e) ∷ []
    arguments_in o first role (tree.piece e comma rest) =
        argument_of o e (expr_in o first e) ∷ arguments_in o role role rest

    -- comparisons after the first operand
    pub comparisons_in : Origin → Role → Links → List Comparison
    comparisons_in o role tree.unlinked = []
    comparisons_in o role (tree.link first second e rest) =
        plain.comparison (comparison_operator first.kind (is_some second)) (expr_in o role e)
        ∷ comparisons_in o role rest

    -- an index, by its value where it is no slice
    pub index_in : Origin → Role → Tree → Expr → Index
    index_in o role (tree.slice lower colon upper) value =
        let low = optional_in o role lower in
        plain.index (optional_at low (position_at o colon)) (plain.slice low (optional_in o role upper) plain.absent)
    index_in o role (tree.stride lower colon upper second step) value =
        let low = optional_in o role lower in
        plain.index (optional_at low (position_at o colon))
        (plain.slice low (optional_in o role upper) (optional_in o role step))
    index_in o role _ value = plain.index (at_of value) (plain.item value)

    -- the indices of a subscript, with commas between them
    pub indices_in : Origin → Role → Pieces → List Index
    indices_in o role tree.none = []
    indices_in o role (tree.last e) = index_in o role e (expr_in o role e) ∷ []
    indices_in o role (tree.piece e comma rest) = index_in o role e (expr_in o role e) ∷ indices_in o role rest
