-- The grammar of headers and of whole lines (Python reference 3.13, "Compound statements").
use Rattle.std.specs.Prelude.{ℕ, Bool, true, false, not, ◌&&◌, nat_le, if◌then◌else◌, List, [], ◌∷◌, Option, None, Some}
use Rattle.pyc_token.specs.declared.tokens.Arithmetic.TheVariants as op
use Rattle.pyc_token.specs.declared.tokens.Bracket.TheVariants as bracket
use Rattle.pyc_token.specs.declared.tokens.Delimiter.TheVariants as delimiter
use Rattle.pyc_token.specs.declared.tokens.Keyword.TheVariants as word
use Rattle.pyc_token.specs.declared.tokens.Kind.{Kind}
use Rattle.pyc_token.specs.declared.tokens.Kind.TheVariants as kind
use Rattle.pyc_token.specs.declared.tokens.Token.{Token}
use Rattle.pyc_tree.specs.declared.list_context.ListContext.TheVariants as list_context
use Rattle.pyc_tree.specs.Tree.{Tree, Pieces, Tail}
use Rattle.pyc_tree.specs.Tree as tree
use Rattle.pyc_tree.specs.Kinds.{kind_of, same_kind}
use Rattle.pyc_tree.specs.Height.{max_height}
use Rattle.pyc_tree.specs.ListContexts.{is_colon}
use Rattle.pyc_tree.specs.WellLines.{ends_without_comma}
use Rattle.pyc_tree.specs.Statements.{Separated, no_item, Alias}
use Rattle.pyc_tree.specs.Lines as line
use Rattle.pyc_tree.specs.Lines.{Header, Line, line_height}
use Rattle.pyc_tree.specs.Parser.{Parsed, Parser, and_then, ◌>>=◌, pure, fail, peek, take_one, expect, expect_name}
use Rattle.pyc_tree.specs.Items as rule
use Rattle.pyc_tree.specs.Expressions.{expression}
use Rattle.pyc_tree.specs.SimpleStatements.{alias, all_statements, at_end}

-- what the first parser reads, or where it refuses, the second
abbrev pub or_else : {A : Type 0} → Parsed A → Parsed A → Parsed A
or_else (Some p) other = Some p
or_else None other = other

unfoldable pub word_header : Parser Header
word_header = do
  t ← take_one
  pure (line.word t)

module _ (self : ℕ → Parser Tree) where
  -- "The if statement", "The while statement"
  unfoldable pub condition : Parser Header
  condition = do
    t ← take_one
    e ← self 1
    pure (line.condition t e)

  -- "The for statement"
  unfoldable pub for_each : Option Token → Parser Header
  for_each word_async = do
    t ← take_one
    to ← rule.targets self
    word_in ← expect (kind.Keyword word.In)
    e ← rule.expressions self list_context.Items
    pure (line.for_each word_async t to word_in e)

  -- "except clause"
  unfoldable pub except_header : Parser Header
  except_header = do
    t ← take_one
    next ← peek
    if is_colon next then pure (line.except t) else (do
      e ← self 1
      as_name ← alias
      pure (line.except_of t e as_name))

  -- the items of a `with`
  unfoldable pub with_items : Parser Pieces
  with_items = do
    first ← rule.item self list_context.WithItems
    rule.parse_items_from self list_context.WithItems first

  -- items in parentheses that a colon follows
  unfoldable pub with_enclosed : Option Token → Token → Parser Header
  with_enclosed word_async t = do
    opening ← expect (kind.Open bracket.Round)
    items ← with_items
    closing ← expect (kind.Close bracket.Round)
    next ← peek
    rule.checked (is_colon next) (line.with_enclosed word_async t opening items closing)

  unfoldable pub with_unenclosed : Option Token → Token → Parser Header
  with_unenclosed word_async t = do
    items ← with_items
    rule.checked (ends_without_comma items) (line.with word_async t items)

  -- "The with statement": parentheses belong to the header where they can
  unfoldable pub with : Option Token → Parser Header
  with word_async = do
    t ← take_one
    (λ ts. or_else (with_enclosed word_async t ts) (with_unenclosed word_async t ts))

  -- "Function definitions"
  unfoldable pub function : Option Token → Parser Header
  function word_async = do
    t ← take_one
    name ← expect_name
    opening ← expect (kind.Open bracket.Round)
    parameters ← rule.optional_items self (list_context.Parameters true)
    closing ← expect (kind.Close bracket.Round)
    result ← rule.tail self (kind.Delimiter delimiter.Arrow)
    pure (line.def word_async t name opening parameters closing result)

  -- bases and keywords in parentheses
  unfoldable pub class_of : Token → Token → Parser Header
  class_of t name = do
    opening ← take_one
    arguments ← rule.optional_items self list_context.Arguments
    closing ← expect (kind.Close bracket.Round)
    pure (line.class_of t name opening arguments closing)

  -- "Class definitions"
  unfoldable pub class : Parser Header
  class = do
    t ← take_one
    name ← expect_name
    next ← peek
    if same_kind next (kind.Open bracket.Round) then class_of t name else pure (line.class t name)

  -- what may stand after `async` ("Coroutines")
  abbrev pub async_by : Token → Kind → Parser Header
  async_by word_async (kind.Keyword word.Def) = function (Some word_async)
  async_by word_async (kind.Keyword word.For) = for_each (Some word_async)
  async_by word_async (kind.Keyword word.With) = with (Some word_async)
  async_by word_async _ = fail

  unfoldable pub async : Parser Header
  async = do
    word_async ← take_one
    k ← peek
    async_by word_async k

  -- `@` and an expression
  unfoldable pub decorator : Parser Line
  decorator = do
    t ← take_one
    e ← self 1
    pure (line.decorator t e)

  -- the statements after a colon, where a token is left
  unfoldable pub suite : Header → Parser Line
  suite h = do
    colon ← expect (kind.Delimiter delimiter.Colon)
    is_empty ← at_end
    if is_empty then pure (line.header h colon no_item) else (do
      statements ← all_statements self
      pure (line.header h colon statements))

  unfoldable pub headed : Parser Header → Parser Line
  headed p = do
    h ← p
    suite h

  unfoldable pub simple_line : Parser Line
  simple_line = do
    statements ← all_statements self
    pure (line.simple statements)

  -- a line, by its first token
  abbrev pub line_by : Kind → Parser Line
  line_by (kind.Arithmetic op.At) = decorator
  line_by (kind.Keyword word.If) = headed condition
  line_by (kind.Keyword word.Elif) = headed condition
  line_by (kind.Keyword word.While) = headed condition
  line_by (kind.Keyword word.Else) = headed word_header
  line_by (kind.Keyword word.Try) = headed word_header
  line_by (kind.Keyword word.Finally) = headed word_header
  line_by (kind.Keyword word.For) = headed (for_each None)
  line_by (kind.Keyword word.Except) = headed except_header
  line_by (kind.Keyword word.With) = headed (with None)
  line_by (kind.Keyword word.Def) = headed (function None)
  line_by (kind.Keyword word.Class) = headed class
  line_by (kind.Keyword word.Async) = headed async
  line_by _ = simple_line

  unfoldable pub any_line : Parser Line
  any_line = do
    k ← peek
    line_by k

-- what is read, where no token is left and it is no higher than the profile allows
abbrev pub complete : Parsed Line → Option Line
complete None = None
complete (Some (l, [])) = if nat_le (line_height l) max_height then Some l else None
complete (Some (l, t ∷ ts)) = None

-- the tree of a logical line, or none
unfoldable pub line_tree : List Token → Option Line
line_tree ts = complete (any_line expression ts)
