-- Lists with commas, displays, comprehensions, arguments, slices, parameters and targets
-- (Python reference 3.13, "Expressions" and "Function definitions").
use Rattle.std.specs.Prelude.{ℕ, zero, suc, Bool, true, false, ◌&&◌, nat_lt, if◌then◌else◌, List, length, Option, None}
use Rattle.std.specs.Prelude.{Some}
use Rattle.pyc_token.specs.declared.tokens.Arithmetic.TheVariants as op
use Rattle.pyc_token.specs.declared.tokens.Bracket.{Bracket}
use Rattle.pyc_token.specs.declared.tokens.Bracket.TheVariants as bracket
use Rattle.pyc_token.specs.declared.tokens.Delimiter.TheVariants as delimiter
use Rattle.pyc_token.specs.declared.tokens.Keyword.TheVariants as word
use Rattle.pyc_token.specs.declared.tokens.Kind.{Kind}
use Rattle.pyc_token.specs.declared.tokens.Kind.TheVariants as kind
use Rattle.pyc_token.specs.declared.tokens.Token.{Token}
use Rattle.pyc_tree.specs.declared.list_context.ListContext.{ListContext}
use Rattle.pyc_tree.specs.declared.list_context.ListContext.TheVariants as list_context
use Rattle.pyc_tree.specs.declared.display_kind.DisplayKind.TheVariants as display_kind
use Rattle.pyc_tree.specs.Tree.{Tree, Pieces, Comprehensions, Perhaps, Tail}
use Rattle.pyc_tree.specs.Tree as tree
use Rattle.pyc_tree.specs.Kinds.{same_kind, is_name, begins_expression, begins_comprehension}
use Rattle.pyc_tree.specs.ListContexts.{is_at, fits, next_context, may_end, begins, is_star, is_double_star, is_colon}
use Rattle.pyc_tree.specs.ListContexts.{context_in, display_kind_of, empty_display_kind}
use Rattle.pyc_tree.specs.Targets.{is_target}
use Rattle.pyc_tree.specs.Well.{is_element}
use Rattle.pyc_tree.specs.Parser.{Parser, ◌>>=◌, pure, fail, peek, take_one, expect, expect_name, made}

-- a value, if a test holds
abbrev pub checked : {A : Type 0} → Bool → A → Parser A
checked holds a = if holds then pure a else fail

-- whether a tree is a plain argument of a call: no keyword, and no `*` or `**` before it ("Calls")
abbrev pub is_plain_argument : Tree → Bool
is_plain_argument (tree.argument _) = true
is_plain_argument _ = false

-- an expression that goes on with operators of a precedence or tighter ones is read by `self` of that precedence
module _ (self : ℕ → Parser Tree) where
  -- ---- what stands behind a token, where it comes next

  -- the token of a kind and the expression after it, or nothing
  unfoldable pub tail : Kind → Parser Tail
  tail k = do
    next ← peek
    if same_kind next k then (do t ← take_one; e ← self 1; pure (tree.after t e)) else pure tree.nothing

  -- an expression, if one begins
  unfoldable pub optional_bound : Parser Perhaps
  optional_bound = do
    next ← peek
    if begins_expression next then (do e ← self 1; pure (tree.present e)) else pure tree.absent

  -- ---- items

  -- `*` and an operand of this precedence
  unfoldable pub starred : ℕ → Parser Tree
  starred loosest = do
    star ← take_one
    e ← self loosest
    made (tree.starred star e)

  -- a slice after its lower bound ("Slicings")
  unfoldable pub parse_slice : Perhaps → Parser Tree
  parse_slice lower = do
    colon ← take_one
    upper ← optional_bound
    next ← peek
    if is_colon next
        then (do second ← take_one; step ← optional_bound; made (tree.stride lower colon upper second step))
        else made (tree.slice lower colon upper)

  -- an index: an expression or a slice
  unfoldable pub index : Parser Tree
  index = do
    next ← peek
    if is_colon next then parse_slice tree.absent else (do
      e ← self 1
      later ← peek
      if is_colon later then parse_slice (tree.present e) else pure e)

  -- `**` and a mapping ("Dictionary displays")
  unfoldable pub mapping : Parser Tree
  mapping = do
    stars ← take_one
    e ← self 6
    made (tree.mapping stars e)

  -- an element, or a key with its value
  unfoldable pub element_or_entry : Parser Tree
  element_or_entry = do
    e ← self 1
    next ← peek
    if is_colon next then (do colon ← take_one; value ← self 1; made (tree.entry e colon value)) else pure e

  -- `**` and a value, as an argument ("Calls")
  unfoldable pub double_starred : Parser Tree
  double_starred = do
    stars ← take_one
    e ← self 1
    made (tree.double_starred stars e)

  -- a keyword's value, after its name
  abbrev pub keyword : Tree → Parser Tree
  keyword (tree.name t) = do
    equal ← take_one
    e ← self 1
    made (tree.keyword t equal e)
  keyword _ = fail

  -- an argument, or a keyword with its value
  unfoldable pub argument : Parser Tree
  argument = do
    e ← self 1
    next ← peek
    if same_kind next (kind.Delimiter delimiter.Equal) then keyword e else made (tree.argument e)

  -- the annotation of a parameter: a lambda's has none
  abbrev pub annotation : Bool → Parser Tail
  annotation is_annotated = if is_annotated then tail (kind.Delimiter delimiter.Colon) else pure tree.nothing

  -- `*`, perhaps with a parameter ("Function definitions")
  unfoldable pub star_parameter : Bool → Parser Tree
  star_parameter is_annotated = do
    star ← take_one
    next ← peek
    if is_name next
        then (do
          name ← take_one
          its_annotation ← annotation is_annotated
          made (tree.star_parameter star name its_annotation))
        else made (tree.bare_star star)

  -- `**` and a parameter
  unfoldable pub double_parameter : Bool → Parser Tree
  double_parameter is_annotated = do
    stars ← take_one
    name ← expect_name
    its_annotation ← annotation is_annotated
    made (tree.double_parameter stars name its_annotation)

  -- a parameter with its annotation and its default
  unfoldable pub plain_parameter : Bool → Parser Tree
  plain_parameter is_annotated = do
    name ← expect_name
    its_annotation ← annotation is_annotated
    default ← tail (kind.Delimiter delimiter.Equal)
    made (tree.parameter name its_annotation default)

  -- a target after `as`
  unfoldable pub with_target : Tree → Parser Tree
  with_target e = do
    t ← take_one
    target ← self 6
    if is_target target then made (tree.with_item e (tree.after t target)) else fail

  -- a context manager, perhaps with its target ("The with statement")
  unfoldable pub with_item : Parser Tree
  with_item = do
    e ← self 1
    next ← peek
    if same_kind next (kind.Keyword word.As) then with_target e else made (tree.with_item e tree.nothing)

  -- ---- by context

  -- an item that may be starred, else an expression of this precedence
  abbrev pub starred_or_expression : ℕ → Kind → Parser Tree
  starred_or_expression loosest k = if is_star k then starred 6 else self loosest

  -- an item between curly brackets
  abbrev pub brace_item_by_kind : Kind → Parser Tree
  brace_item_by_kind k = if is_star k then starred 6 else (if is_double_star k then mapping else element_or_entry)

  -- an item between the parentheses of a call
  abbrev pub argument_by_kind : Kind → Parser Tree
  argument_by_kind k = if is_star k then starred 1 else (if is_double_star k then double_starred else argument)

  -- an item among parameters
  abbrev pub parameter_by_kind : Bool → Kind → Parser Tree
  parameter_by_kind is_annotated k =
      if is_star k then star_parameter is_annotated
      else (if is_double_star k then double_parameter is_annotated else plain_parameter is_annotated)

  -- an item of the form that a context asks for
  abbrev pub item_by_context : ListContext → Kind → Parser Tree
  item_by_context list_context.Items k = starred_or_expression 1 k
  item_by_context list_context.Targets k = starred_or_expression 6 k
  item_by_context list_context.Subscript k = index
  item_by_context list_context.WithItems k = with_item
  item_by_context list_context.Braces k = brace_item_by_kind k
  item_by_context list_context.Set k = brace_item_by_kind k
  item_by_context list_context.Entries k = brace_item_by_kind k
  item_by_context list_context.Arguments k = argument_by_kind k
  item_by_context list_context.KeywordArguments k = argument_by_kind k
  item_by_context list_context.LastArguments k = argument_by_kind k
  item_by_context (list_context.Parameters is_annotated) k = parameter_by_kind is_annotated k
  item_by_context (list_context.AfterStar is_annotated) k = parameter_by_kind is_annotated k
  item_by_context (list_context.KeywordOnly is_annotated) k = parameter_by_kind is_annotated k
  item_by_context list_context.Ended k = fail

  -- an item that may stand in a context
  unfoldable pub item : ListContext → Parser Tree
  item here = do
    k ← peek
    e ← item_by_context here k
    checked (fits here e) e

  -- ---- lists with commas

  -- an item and those after it; the first number bounds them
  unfoldable pub items : ℕ → ListContext → Tree → Parser Pieces
  items zero here e = checked (may_end (next_context here e)) (tree.last e)
  items (suc n) here e = do
    k ← peek
    if same_kind k (kind.Delimiter delimiter.Comma) then (do
      comma ← take_one
      next ← peek
      if begins (next_context here e) next then (do
        f ← item (next_context here e)
        rest ← items n (next_context here e) f
        pure (tree.piece e comma rest))
          else checked (may_end (next_context here e)) (tree.piece e comma tree.none))
        else checked (may_end (next_context here e)) (tree.last e)

  -- an item that is read already, and those after it
  unfoldable pub parse_items_from : ListContext → Tree → Parser Pieces
  parse_items_from here e = λ ts. items (length ts) here e ts

  -- items, if one begins
  unfoldable pub optional_items : ListContext → Parser Pieces
  optional_items here = do
    k ← peek
    if begins here k then (do e ← item here; parse_items_from here e) else pure tree.none

  -- items without brackets: one alone is itself, and is not starred
  abbrev pub single_or_tuple : Pieces → Parser Tree
  single_or_tuple (tree.last e) = checked (is_at 1 e) e
  single_or_tuple found = made (tree.bare found)

  -- an expression, or a tuple without brackets ("Expression lists")
  unfoldable pub expressions : ListContext → Parser Tree
  expressions here = do
    e ← item here
    found ← parse_items_from here e
    single_or_tuple found

  -- a target, or a tuple of targets without brackets ("Assignment statements")
  unfoldable pub targets : Parser Tree
  targets = do
    e ← expressions list_context.Targets
    checked (is_target e) e

  -- ---- comprehensions ("Displays for lists, sets and dictionaries")

  -- `for`, targets, `in` and what is iterated, after an `async` where there is one
  unfoldable pub for_clause : Option Token → Parser (Comprehensions → Comprehensions)
  for_clause word_async = do
    word_for ← expect (kind.Keyword word.For)
    to ← targets
    word_in ← expect (kind.Keyword word.In)
    e ← self 2
    pure (tree.for_clause word_async word_for to word_in e)

  -- `async` and a `for`
  unfoldable pub async_clause : Parser (Comprehensions → Comprehensions)
  async_clause = do
    word_async ← take_one
    for_clause (Some word_async)

  -- `if` and a condition
  unfoldable pub if_clause : Parser (Comprehensions → Comprehensions)
  if_clause = do
    word_if ← take_one
    e ← self 2
    pure (tree.if_clause word_if e)

  abbrev pub comprehension_by : Kind → Option (Parser (Comprehensions → Comprehensions))
  comprehension_by (kind.Keyword word.For) = Some (for_clause None)
  comprehension_by (kind.Keyword word.Async) = Some async_clause
  comprehension_by (kind.Keyword word.If) = Some if_clause
  comprehension_by _ = None

  -- a clause in front of those after it, if one begins
  abbrev pub joined : Option (Parser (Comprehensions → Comprehensions)) → Parser Comprehensions → Parser Comprehensions
  joined None rest = pure tree.no_comprehension
  joined (Some comprehension) rest = do
    first ← comprehension
    more ← rest
    pure (first more)

  -- the clauses of a comprehension; the number bounds them
  unfoldable pub comprehensions_of : ℕ → Parser Comprehensions
  comprehensions_of zero = pure tree.no_comprehension
  comprehensions_of (suc n) = do
    k ← peek
    joined (comprehension_by k) (comprehensions_of n)

  unfoldable pub comprehensions : Parser Comprehensions
  comprehensions = λ ts. comprehensions_of (length ts) ts

  -- ---- brackets

  -- a comprehension after its element
  unfoldable pub parse_comprehension_display : Bracket → Token → Tree → Parser Tree
  parse_comprehension_display sign opening e = do
    found ← comprehensions
    closing ← expect (kind.Close sign)
    if is_element (display_kind_of sign e) e
        then made (tree.comprehension_display (display_kind_of sign e) opening e found closing) else fail

  -- what the brackets make of their items: an expression alone in parentheses is itself
  abbrev pub enclosed : Bracket → Tree → Token → Pieces → Token → Parser Tree
  enclosed bracket.Round first opening (tree.last e) closing =
      if is_at 1 e then made (tree.parenthesized opening e closing) else fail
  enclosed sign first opening found closing = made (tree.display (display_kind_of sign first) opening found closing)

  -- a display after its first item
  unfoldable pub parse_display : Bracket → Token → Tree → Parser Tree
  parse_display sign opening first = do
    found ← parse_items_from (context_in sign) first
    closing ← expect (kind.Close sign)
    enclosed sign first opening found closing

  -- a display, a comprehension or a form in parentheses, after the opening bracket
  unfoldable pub parse_filled_brackets : Bracket → Token → Parser Tree
  parse_filled_brackets sign opening = do
    first ← item (context_in sign)
    next ← peek
    if begins_comprehension next then parse_comprehension_display sign opening first
        else parse_display sign opening first

  -- brackets with nothing between them
  unfoldable pub parse_empty_brackets : Bracket → Token → Parser Tree
  parse_empty_brackets sign opening = do
    closing ← take_one
    made (tree.display (empty_display_kind sign) opening tree.none closing)

  -- ---- `yield` ("Yield expressions")

  unfoldable pub yield_from : Token → Parser Tree
  yield_from t = do
    from ← take_one
    e ← self 1
    made (tree.yield_from t from e)

  unfoldable pub yield_value : Token → Parser Tree
  yield_value t = do
    e ← expressions list_context.Items
    made (tree.yield t (tree.present e))

  unfoldable pub yield_expression : Parser Tree
  yield_expression = do
    t ← take_one
    next ← peek
    if same_kind next (kind.Keyword word.From) then yield_from t
        else (if begins list_context.Items next then yield_value t else made (tree.yield t tree.absent))

  -- a `yield` in parentheses, after the opening one
  unfoldable pub yield_enclosed : Token → Parser Tree
  yield_enclosed opening = do
    e ← yield_expression
    closing ← expect (kind.Close bracket.Round)
    made (tree.parenthesized opening e closing)

  -- ---- calls and subscripts

  -- a generator that is the only argument, after its element
  abbrev pub parse_generator_after : Tree → Token → Tree → Parser Tree
  parse_generator_after callee opening (tree.argument e) = do
    found ← comprehensions
    closing ← expect (kind.Close bracket.Round)
    g ← made (tree.generator e found)
    only ← made (tree.argument g)
    made (tree.call callee opening (tree.last only) closing)
  parse_generator_after callee opening _ = fail

  -- a call after its first argument
  unfoldable pub parse_call_arguments : Tree → Token → Tree → Parser Tree
  parse_call_arguments callee opening first = do
    found ← parse_items_from list_context.Arguments first
    closing ← expect (kind.Close bracket.Round)
    made (tree.call callee opening found closing)

  -- a call with arguments
  unfoldable pub parse_filled_call : Tree → Token → Parser Tree
  parse_filled_call callee opening = do
    first ← item list_context.Arguments
    next ← peek
    if begins_comprehension next then parse_generator_after callee opening first
        else parse_call_arguments callee opening first

  -- a call without arguments
  unfoldable pub parse_empty_call : Tree → Token → Parser Tree
  parse_empty_call callee opening = do
    closing ← take_one
    made (tree.call callee opening tree.none closing)

  unfoldable pub parse_call : Tree → Parser Tree
  parse_call callee = do
    opening ← take_one
    next ← peek
    if same_kind next (kind.Close bracket.Round) then parse_empty_call callee opening
        else parse_filled_call callee opening

  unfoldable pub parse_subscript : Tree → Parser Tree
  parse_subscript e = do
    opening ← take_one
    first ← item list_context.Subscript
    found ← parse_items_from list_context.Subscript first
    closing ← expect (kind.Close bracket.Square)
    made (tree.subscript e opening found closing)
