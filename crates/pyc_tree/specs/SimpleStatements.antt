-- The grammar of simple statements (Python reference 3.13, "Simple statements").
use Rattle.std.specs.Prelude.{ℕ, zero, suc, Bool, true, false, not, ◌&&◌, if◌then◌else◌, List, [], ◌∷◌, length, drop}
use Rattle.std.specs.Prelude.{Option, None, Some}
use Rattle.std.specs.List.{take_while}
use Rattle.pyc_token.specs.declared.tokens.Bracket.TheVariants as bracket
use Rattle.pyc_token.specs.declared.tokens.Delimiter.TheVariants as delimiter
use Rattle.pyc_token.specs.declared.tokens.Keyword.TheVariants as word
use Rattle.pyc_token.specs.declared.tokens.Kind.{Kind}
use Rattle.pyc_token.specs.declared.tokens.Kind.TheVariants as kind
use Rattle.pyc_token.specs.declared.tokens.Token.{Token}
use Rattle.pyc_tree.specs.declared.list_context.ListContext.TheVariants as list_context
use Rattle.pyc_tree.specs.Tree.{Tree, Perhaps, Tail}
use Rattle.pyc_tree.specs.Tree as tree
use Rattle.pyc_tree.specs.Kinds.{kind_of, same_kind, is_name, end_of_line}
use Rattle.pyc_tree.specs.ListContexts.{is_colon}
use Rattle.pyc_tree.specs.Targets.{is_target, is_single_target}
use Rattle.pyc_tree.specs.WellLines.{is_augmented, is_dot}
use Rattle.pyc_tree.specs.Statements.{SimpleStatement, Separated, no_item, last_item, item, Alias, DottedPart, Dotted}
use Rattle.pyc_tree.specs.Statements.{Source, Assigned, ImportedModule, ImportedName}
use Rattle.pyc_tree.specs.Statements as statement
use Rattle.pyc_tree.specs.Parser.{Parser, and_then, ◌>>=◌, pure, fail, peek, take_one, expect, expect_name}
use Rattle.pyc_tree.specs.Items as rule

-- ---- names with commas

-- items with commas between them; whether one may follow the last, where no name comes next; the number bounds them
abbrev pub separated : {A : Type 0} → Parser A → Bool → ℕ → Parser (Separated A)
separated one may_trail zero = fail
separated one may_trail (suc n) = do
  x ← one
  k ← peek
  if same_kind k (kind.Delimiter delimiter.Comma) then (do
    comma ← take_one
    next ← peek
    if may_trail && not (is_name next) then pure (item x comma no_item) else (do
      rest ← separated one may_trail n
      pure (item x comma rest)))
      else pure (last_item x)

abbrev pub all_separated : {A : Type 0} → Parser A → Bool → Parser (Separated A)
all_separated one may_trail = λ ts. separated one may_trail (length ts) ts

-- `as` and a name, if it comes next
unfoldable pub alias : Parser (Option Alias)
alias = do
  next ← peek
  if same_kind next (kind.Keyword word.As)
      then (do t ← take_one; name ← expect_name; pure (Some (record { word = t; name = name })))
      else pure None

-- dots, each with a name; the number bounds them
unfoldable pub parts : ℕ → Parser (List DottedPart)
parts zero = pure []
parts (suc n) = do
  next ← peek
  if same_kind next (kind.Delimiter delimiter.Dot) then (do
    dot ← take_one
    name ← expect_name
    more ← parts n
    pure (record { dot = dot; name = name } ∷ more))
      else pure []

unfoldable pub all_parts : Parser (List DottedPart)
all_parts = λ ts. parts (length ts) ts

unfoldable pub dotted_name : Parser Dotted
dotted_name = do
  first ← expect_name
  more ← all_parts
  pure (record { first = first; parts = more })

-- ---- imports ("The import statement")

unfoldable pub imported_module : Parser ImportedModule
imported_module = do
  path ← dotted_name
  as_name ← alias
  pure (record { path = path; alias = as_name })

unfoldable pub imported_name : Parser ImportedName
imported_name = do
  name ← expect_name
  as_name ← alias
  pure (record { name = name; alias = as_name })

unfoldable pub imported : Parser SimpleStatement
imported = do
  t ← take_one
  modules ← all_separated imported_module false
  pure (statement.import t modules)

abbrev pub is_dot_token : Token → Bool
is_dot_token t = is_dot t.kind

-- the dots before a module, all of them
unfoldable pub dots : Parser (List Token)
dots = λ ts. Some (take_while is_dot_token ts, drop (length (take_while is_dot_token ts)) ts)

-- the module after its dots: behind a dot it may have no name
abbrev pub path_after : List Token → Kind → Parser (Option Dotted)
path_after (first ∷ more) (kind.Keyword word.Import) = pure None
path_after found k = do
  path ← dotted_name
  pure (Some path)

unfoldable pub source : Parser Source
source = do
  found ← dots
  next ← peek
  path ← path_after found next
  pure (record { dots = found; path = path })

-- names in parentheses
unfoldable pub enclosed_names : Token → Source → Token → Parser SimpleStatement
enclosed_names t from word_import = do
  opening ← take_one
  names ← all_separated imported_name true
  closing ← expect (kind.Close bracket.Round)
  pure (statement.import_from t from word_import (Some opening) names (Some closing))

unfoldable pub open_names : Token → Source → Token → Parser SimpleStatement
open_names t from word_import = do
  names ← all_separated imported_name false
  pure (statement.import_from t from word_import None names None)

unfoldable pub import_from_statement : Parser SimpleStatement
import_from_statement = do
  t ← take_one
  from ← source
  word_import ← expect (kind.Keyword word.Import)
  next ← peek
  if same_kind next (kind.Open bracket.Round) then enclosed_names t from word_import else open_names t from word_import

-- ---- statements of a word ("The pass statement", "The break statement", "The continue statement", "The global
-- statement")

unfoldable pub word_statement : Parser SimpleStatement
word_statement = do
  t ← take_one
  pure (statement.word t)

unfoldable pub declared : Parser SimpleStatement
declared = do
  t ← take_one
  names ← all_separated expect_name false
  pure (statement.declare t names)

-- whether no token is left
abbrev pub at_end : Parser Bool
at_end [] = Some (true, [])
at_end (t ∷ ts) = Some (false, t ∷ ts)

module _ (self : ℕ → Parser Tree) where
  -- ---- values and targets

  -- an expression, a tuple without brackets or a `yield`, by its first token
  abbrev pub value_by : Kind → Parser Tree
  value_by (kind.Keyword word.Yield) = rule.yield_expression self
  value_by _ = rule.expressions self list_context.Items

  unfoldable pub value : Parser Tree
  value = do
    k ← peek
    value_by k

  -- `=` and a value, if it comes next
  unfoldable pub given : Parser Tail
  given = do
    next ← peek
    if same_kind next (kind.Delimiter delimiter.Equal) then (do t ← take_one; e ← value; pure (tree.after t e))
        else pure tree.nothing

  -- the targets before the last value of a chain, each with its `=`, and that value; the number bounds them
  unfoldable pub chain : ℕ → Tree → Parser (List Assigned × Tree)
  chain zero e = pure ([], e)
  chain (suc n) e = do
    next ← peek
    if same_kind next (kind.Delimiter delimiter.Equal) then (if is_target e then (do
      equal ← take_one
      f ← value
      rest ← chain n f
      pure (record { target = e; equal = equal } ∷ rest.0, rest.1)) else fail)
        else pure ([], e)

  abbrev pub chained : (List Assigned × Tree) → SimpleStatement
  chained ([], e) = statement.expression e
  chained (assigned ∷ more, e) = statement.assign (assigned ∷ more) e

  -- an expression statement, or an assignment ("Expression statements", "Assignment statements")
  unfoldable pub assigned : Tree → Parser SimpleStatement
  assigned e = λ ts. and_then (chain (length ts) e ts) (λ found. pure (chained found))

  -- `:`, an annotation, and perhaps a value ("Annotated assignment statements")
  unfoldable pub annotated_target : Tree → Parser SimpleStatement
  annotated_target e = if is_single_target e then (do
    colon ← take_one
    annotation ← self 1
    with_value ← given
    pure (statement.annotate e colon annotation with_value)) else fail

  -- an operator and a value ("Augmented assignment statements")
  unfoldable pub augmented_assignment : Tree → Parser SimpleStatement
  augmented_assignment e = if is_single_target e then (do
    sign ← take_one
    f ← value
    pure (statement.augment e sign f)) else fail

  -- a statement that begins with an expression
  unfoldable pub expression_or_assignment : Parser SimpleStatement
  expression_or_assignment = do
    e ← rule.expressions self list_context.Items
    next ← peek
    if is_colon next then annotated_target e else (if is_augmented next then augmented_assignment e else assigned e)

  unfoldable pub yield_statement : Parser SimpleStatement
  yield_statement = do
    e ← rule.yield_expression self
    pure (statement.expression e)

  -- ---- statements of a keyword

  -- "The return statement"
  unfoldable pub return_statement : Parser SimpleStatement
  return_statement = do
    t ← take_one
    next ← peek
    if same_kind next end_of_line then pure (statement.return t tree.absent) else (do
      e ← rule.expressions self list_context.Items
      pure (statement.return t (tree.present e)))

  -- "The raise statement"
  unfoldable pub raise_statement : Parser SimpleStatement
  raise_statement = do
    t ← take_one
    next ← peek
    if same_kind next end_of_line then pure (statement.raise t tree.absent tree.nothing) else (do
      e ← self 1
      cause ← rule.tail self (kind.Keyword word.From)
      pure (statement.raise t (tree.present e) cause))

  -- "The assert statement"
  unfoldable pub assert_statement : Parser SimpleStatement
  assert_statement = do
    t ← take_one
    test ← self 1
    message ← rule.tail self (kind.Delimiter delimiter.Comma)
    pure (statement.assert t test message)

  -- "The del statement"
  unfoldable pub delete_statement : Parser SimpleStatement
  delete_statement = do
    t ← take_one
    to ← rule.targets self
    pure (statement.delete t to)

  -- a statement, by its first token
  abbrev pub statement_by : Kind → Parser SimpleStatement
  statement_by (kind.Keyword word.Pass) = word_statement
  statement_by (kind.Keyword word.Break) = word_statement
  statement_by (kind.Keyword word.Continue) = word_statement
  statement_by (kind.Keyword word.Return) = return_statement
  statement_by (kind.Keyword word.Raise) = raise_statement
  statement_by (kind.Keyword word.Assert) = assert_statement
  statement_by (kind.Keyword word.Del) = delete_statement
  statement_by (kind.Keyword word.Global) = declared
  statement_by (kind.Keyword word.Nonlocal) = declared
  statement_by (kind.Keyword word.Import) = imported
  statement_by (kind.Keyword word.From) = import_from_statement
  statement_by (kind.Keyword word.Yield) = yield_statement
  statement_by _ = expression_or_assignment

  -- a simple statement
  unfoldable pub simple : Parser SimpleStatement
  simple = do
    k ← peek
    statement_by k

  -- statements to the end of the line, joined by semicolons, of which one may follow the last; the number bounds them
  unfoldable pub statements : ℕ → Parser (Separated SimpleStatement)
  statements zero = fail
  statements (suc n) = do
    s ← simple
    is_last ← at_end
    if is_last then pure (last_item s) else (do
      semicolon ← expect (kind.Delimiter delimiter.Semicolon)
      is_done ← at_end
      if is_done then pure (item s semicolon no_item) else (do
        rest ← statements n
        pure (item s semicolon rest)))

  unfoldable pub all_statements : Parser (Separated SimpleStatement)
  all_statements = λ ts. statements (length ts) ts
