-- Expressions: an operand, then operators of a precedence or tighter ones
-- (Python reference 3.13, "Expressions" and "Operator precedence").
use Rattle.std.specs.Prelude.{ℕ, zero, suc, Bool, true, false, not, nat_lt, if◌then◌else◌, List, [], ◌∷◌, length, drop}
use Rattle.std.specs.Prelude.{Option, None, Some}
use Rattle.std.specs.List.{take_while}
use Rattle.pyc_token.specs.declared.tokens.Arithmetic.TheVariants as op
use Rattle.pyc_token.specs.declared.tokens.Bracket.{Bracket}
use Rattle.pyc_token.specs.declared.tokens.Bracket.TheVariants as bracket
use Rattle.pyc_token.specs.declared.tokens.Delimiter.TheVariants as delimiter
use Rattle.pyc_token.specs.declared.tokens.Keyword.TheVariants as word
use Rattle.pyc_token.specs.declared.tokens.Kind.{Kind}
use Rattle.pyc_token.specs.declared.tokens.Kind.TheVariants as kind
use Rattle.pyc_token.specs.declared.tokens.Token.{Token}
use Rattle.pyc_tree.specs.declared.list_context.ListContext.TheVariants as list_context
use Rattle.pyc_tree.specs.Tree.{Tree, Links}
use Rattle.pyc_tree.specs.Tree as tree
use Rattle.pyc_tree.specs.Kinds.{kind_of, same_kind, is_string, is_comparison}
use Rattle.pyc_tree.specs.Precedence.{infix_precedence, right_precedence}
use Rattle.pyc_tree.specs.Height.{max_height}
use Rattle.pyc_tree.specs.Well.{is_bytes, are_joined}
use Rattle.pyc_tree.specs.Parser.{Parser, and_then, ◌>>=◌, pure, fail, peek, take_one, expect, expect_name, made}
use Rattle.pyc_tree.specs.Items as rule

-- ---- atoms ("Atoms")

-- a token that is an expression by itself
abbrev pub atom : (Token → Tree) → Parser Tree
atom form = do
  t ← take_one
  pure (form t)

-- whether a token is a string literal
abbrev pub is_literal : Token → Bool
is_literal t = is_string t.kind

-- the string literals after one, all of them
unfoldable pub literals : Parser (List Token)
literals = λ ts. Some (take_while is_literal ts, drop (length (take_while is_literal ts)) ts)

-- string literals that join ("String literal concatenation")
unfoldable pub strings : Parser Tree
strings = do
  t ← take_one
  more ← literals
  rule.checked (are_joined (is_bytes t.kind) more) (tree.strings t more)

-- ---- the operator of a comparison

abbrev pub some_token : Parser Token → Parser (Option Token)
some_token p = do
  t ← p
  pure (Some t)

-- the second word of a comparison's operator, by the first: `not in`, and perhaps `is not`
unfoldable pub second_word : Kind → Parser (Option Token)
second_word (kind.Keyword word.Not) = some_token (expect (kind.Keyword word.In))
second_word (kind.Keyword word.Is) = do
  next ← peek
  if same_kind next (kind.Keyword word.Not) then some_token take_one else pure None
second_word _ = pure None

module _ (self : ℕ → Parser Tree) where
  -- ---- operands

  -- an operator and its operand, both of this precedence ("Unary arithmetic and bitwise operations", "Boolean
  -- operations")
  unfoldable pub parse_unary : ℕ → ℕ → Parser Tree
  parse_unary loosest own = if nat_lt own loosest then fail else (do
    sign ← take_one
    e ← self own
    made (tree.unary sign e))

  -- `await` and its operand ("Await expression")
  unfoldable pub await_expression : ℕ → Parser Tree
  await_expression loosest = if nat_lt 14 loosest then fail else (do
    t ← take_one
    e ← self 15
    made (tree.await t e))

  -- `lambda`, parameters, `:` and a body ("Lambdas")
  unfoldable pub lambda : ℕ → Parser Tree
  lambda loosest = if nat_lt 1 loosest then fail else (do
    t ← take_one
    parameters ← rule.optional_items self (list_context.Parameters false)
    colon ← expect (kind.Delimiter delimiter.Colon)
    body ← self 1
    made (tree.lambda t parameters colon body))

  -- parentheses and what is between them ("Parenthesized forms")
  unfoldable pub parentheses : Parser Tree
  parentheses = do
    opening ← take_one
    next ← peek
    if same_kind next (kind.Close bracket.Round) then rule.parse_empty_brackets self bracket.Round opening
        else (if same_kind next (kind.Keyword word.Yield) then rule.yield_enclosed self opening
        else rule.parse_filled_brackets self bracket.Round opening)

  -- square or curly brackets and what is between them
  unfoldable pub brackets : Bracket → Parser Tree
  brackets sign = do
    opening ← take_one
    next ← peek
    if same_kind next (kind.Close sign) then rule.parse_empty_brackets self sign opening
        else rule.parse_filled_brackets self sign opening

  -- an operand, by its first token
  abbrev pub prefix_by : ℕ → Kind → Parser Tree
  prefix_by loosest (kind.Name _) = atom tree.name
  prefix_by loosest (kind.Number _) = atom tree.number
  prefix_by loosest (kind.String _) = strings
  prefix_by loosest (kind.Keyword word.False) = atom tree.constant
  prefix_by loosest (kind.Keyword word.None) = atom tree.constant
  prefix_by loosest (kind.Keyword word.True) = atom tree.constant
  prefix_by loosest (kind.Delimiter delimiter.Ellipsis) = atom tree.constant
  prefix_by loosest (kind.Keyword word.Not) = parse_unary loosest 4
  prefix_by loosest (kind.Arithmetic op.Plus) = parse_unary loosest 12
  prefix_by loosest (kind.Arithmetic op.Minus) = parse_unary loosest 12
  prefix_by loosest (kind.Delimiter delimiter.Tilde) = parse_unary loosest 12
  prefix_by loosest (kind.Keyword word.Await) = await_expression loosest
  prefix_by loosest (kind.Keyword word.Lambda) = lambda loosest
  prefix_by loosest (kind.Open bracket.Round) = parentheses
  prefix_by loosest (kind.Open bracket.Square) = brackets bracket.Square
  prefix_by loosest (kind.Open bracket.Curly) = brackets bracket.Curly
  prefix_by loosest _ = fail

  unfoldable pub prefix : ℕ → Parser Tree
  prefix loosest = do
    k ← peek
    prefix_by loosest k

  -- ---- operators

  -- an operator and its right operand ("Binary arithmetic operations", "Boolean operations")
  unfoldable pub parse_binary : Tree → ℕ → Parser Tree
  parse_binary left precedence = do
    sign ← take_one
    e ← self precedence
    made (tree.binary left sign e)

  -- `if`, a test, `else` and another value ("Conditional expressions")
  unfoldable pub conditional : Tree → Parser Tree
  conditional left = do
    word_if ← take_one
    test ← self 2
    word_else ← expect (kind.Keyword word.Else)
    e ← self 1
    made (tree.conditional left word_if test word_else e)

  -- `.` and a name ("Attribute references")
  unfoldable pub attribute : Tree → Parser Tree
  attribute left = do
    dot ← take_one
    name ← expect_name
    made (tree.attribute left dot name)

  -- a comparison with its operator ("Comparisons"), in front of those after it
  unfoldable pub one_link : Parser (Links → Links)
  one_link = do
    first ← take_one
    second ← second_word first.kind
    e ← self 6
    pure (tree.link first second e)

  -- a comparison in front of those after it
  abbrev pub linked : Parser Links → Parser Links
  linked rest = do
    first ← one_link
    more ← rest
    pure (first more)

  -- comparisons; the number bounds them
  unfoldable pub links : ℕ → Parser Links
  links zero = pure tree.unlinked
  links (suc n) = do
    k ← peek
    if is_comparison k then linked (links n) else pure tree.unlinked

  unfoldable pub all_links : Parser Links
  all_links = λ ts. links (length ts) ts

  unfoldable pub parse_comparisons : Tree → Parser Tree
  parse_comparisons left = do
    found ← all_links
    made (tree.compare left found)

  -- what an expression goes on with, by the next token
  abbrev pub operation_by : Tree → Kind → Parser Tree
  operation_by left (kind.Keyword word.If) = conditional left
  operation_by left (kind.Keyword word.In) = parse_comparisons left
  operation_by left (kind.Keyword word.Is) = parse_comparisons left
  operation_by left (kind.Keyword word.Not) = parse_comparisons left
  operation_by left (kind.Comparison _) = parse_comparisons left
  operation_by left (kind.Open bracket.Round) = rule.parse_call self left
  operation_by left (kind.Open bracket.Square) = rule.parse_subscript self left
  operation_by left (kind.Delimiter delimiter.Dot) = attribute left
  operation_by left k = parse_binary left (right_precedence k)

  unfoldable pub operation : Tree → Parser Tree
  operation left = do
    k ← peek
    operation_by left k

  -- the operators of a precedence or tighter ones after an operand; the second number bounds them
  unfoldable pub climb : ℕ → ℕ → Tree → Parser Tree
  climb loosest zero left = pure left
  climb loosest (suc n) left = do
    k ← peek
    if nat_lt (infix_precedence k) loosest then pure left else (do longer ← operation left; climb loosest n longer)

  unfoldable pub operations : ℕ → Tree → Parser Tree
  operations loosest left = λ ts. climb loosest (length ts) left ts

  -- an operand and the operators after it
  unfoldable pub whole : ℕ → Parser Tree
  whole loosest = do
    first ← prefix loosest
    operations loosest first

-- an expression of a precedence, with as much depth as the first number
unfoldable pub expr : ℕ → ℕ → Parser Tree
expr zero loosest = fail
expr (suc depth) loosest = whole (expr depth) loosest

-- an expression of the profile
abbrev pub expression : ℕ → Parser Tree
expression = expr max_height
