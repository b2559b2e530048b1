-- The blocks of a module, by the indents of its lines (Python reference 3.13, "Compound statements").
use Rattle.std.specs.Prelude.{ℕ, suc, zero, ◌+◌, Bool, true, false, ◌&&◌, ◌==◌, nat_lt, if◌then◌else◌, List, [], ◌∷◌}
use Rattle.std.specs.Prelude.{length, Option, Some, None, Result, Ok, Err}
use Rattle.pyc_token.specs.declared.tokens.Keyword.TheVariants as keyword
use Rattle.pyc_token.specs.declared.tokens.Kind.{Kind}
use Rattle.pyc_token.specs.declared.tokens.Kind.TheVariants as kind
use Rattle.pyc_tree.specs.declared.block.After.{After}
use Rattle.pyc_tree.specs.declared.block.After.TheVariants as after
use Rattle.pyc_tree.specs.declared.block.Form.{Form}
use Rattle.pyc_tree.specs.declared.block.Form.TheVariants as form
use Rattle.pyc_tree.specs.declared.block.Next.{Next}
use Rattle.pyc_tree.specs.declared.block.Next.TheVariants as next
use Rattle.pyc_tree.specs.BlockTrees.{Decorator, Stmt, simple, compound, CompoundClause, clause, CompoundClauses}
use Rattle.pyc_tree.specs.BlockTrees.{no_clause, another, Suite, inline, block, Stmts, no_statement, statement}
use Rattle.pyc_tree.specs.Lines.{Header, Line}
use Rattle.pyc_tree.specs.Lines as line
use Rattle.pyc_tree.specs.Statements.{SimpleStatement, Separated, no_item, last_item, item}

-- a logical line, how many levels above the first it stands, and the number of the physical line where it begins
pub record Placed : Type 0 where
  pub indent : ℕ
  pub number : ℕ
  pub line : Line

-- ---- headers

abbrev pub condition_form : Kind → Form
condition_form (kind.Keyword keyword.If) = form.If
condition_form (kind.Keyword keyword.Elif) = form.Elif
condition_form _ = form.While

abbrev pub word_form : Kind → Form
word_form (kind.Keyword keyword.Else) = form.Else
word_form (kind.Keyword keyword.Try) = form.Try
word_form _ = form.Finally

-- which clause a header begins
abbrev pub form_of : Header → Form
form_of (line.condition t _) = condition_form t.kind
form_of (line.word t) = word_form t.kind
form_of (line.for_each _ _ _ _ _) = form.For
form_of (line.except _) = form.Except
form_of (line.except_of _ _ _) = form.Except
form_of (line.with _ _ _) = form.With
form_of (line.with_enclosed _ _ _ _ _) = form.With
form_of (line.def _ _ _ _ _ _ _) = form.Definition
form_of (line.class _ _) = form.Definition
form_of (line.class_of _ _ _ _ _) = form.Definition

-- which clause may follow another of its statement, and what it is to those after it
abbrev pub follows : After → Form → Option After
follows after.Branch form.Elif = Some after.Branch
follows after.Branch form.Else = Some after.Nothing
follows after.Loop form.Else = Some after.Nothing
follows after.Try form.Except = Some after.Except
follows after.Try form.Finally = Some after.Nothing
follows after.Except form.Except = Some after.Except
follows after.Except form.Else = Some after.TryElse
follows after.Except form.Finally = Some after.Nothing
follows after.TryElse form.Finally = Some after.Nothing
follows _ _ = None

-- ---- what stands next

abbrev pub handles : Form → Bool
handles form.Except = true
handles form.Finally = true
handles _ = false

-- whether a line is the header of an `except` or a `finally`
abbrev pub is_handler : Line → Bool
is_handler (line.header h _ _) = handles (form_of h)
is_handler _ = false

-- whether the next of these lines that is no deeper stands at this indent and is an `except` or a `finally`
abbrev pub handler_follows : ℕ → List Placed → Bool
handler_follows indent [] = false
handler_follows indent (p ∷ ps) =
    if nat_lt indent p.indent then handler_follows indent ps else (p.indent == indent && is_handler p.line)

-- the header of a statement, before these lines: one that is no first clause is a fault, as is an unhandled `try`
abbrev pub next_of_header : ℕ → ℕ → List Placed → Form → Next
next_of_header number indent ps form.If = next.Header after.Branch
next_of_header number indent ps form.While = next.Header after.Loop
next_of_header number indent ps form.For = next.Header after.Loop
next_of_header number indent ps form.Try = if handler_follows indent ps then next.Header after.Try
    else next.Fault number
next_of_header number indent ps form.With = next.Header after.Nothing
next_of_header number indent ps form.Definition = next.Definition
next_of_header number indent ps _ = next.Fault number

abbrev pub next_of_line : ℕ → ℕ → List Placed → Line → Next
next_of_line number indent ps (line.simple _) = next.Simple
next_of_line number indent ps (line.header h _ _) = next_of_header number indent ps (form_of h)
next_of_line number indent ps (line.decorator _ _) = next.Decorator

-- the next line of a block at this indent: one that is less deep ends it, and a deeper one is a fault
unfoldable pub next_of : ℕ → List Placed → Next
next_of indent [] = next.End
next_of indent (p ∷ ps) =
    if nat_lt p.indent indent then next.End
    else if nat_lt indent p.indent then next.Fault p.number
    else next_of_line p.number indent ps p.line

abbrev pub line_follows : After → Line → Option After
line_follows so (line.header h _ _) = follows so (form_of h)
line_follows so _ = None

-- whether the next line is another clause of the statement, and what that is to those after it
unfoldable pub follower : After → ℕ → List Placed → Option After
follower so indent [] = None
follower so indent (p ∷ ps) = if p.indent == indent then line_follows so p.line else None

-- the indent of the block under a line, where the next line is deeper
unfoldable pub under : ℕ → List Placed → Option ℕ
under indent [] = None
under indent (p ∷ ps) = if nat_lt indent p.indent then Some (indent + 1) else None

-- the physical line of the next line
unfoldable pub number_of : List Placed → ℕ
number_of [] = 0
number_of (p ∷ ps) = p.number

-- whether a header has no statements after it
abbrev pub is_none : Separated SimpleStatement → Bool
is_none no_item = true
is_none (last_item _) = false
is_none (item _ _ _) = false

-- ---- parsers of lines

-- what is read with the lines after it, or the physical line of the first fault
abbrev pub BlocksParsed : Type 0 → Type 0
BlocksParsed A = Result (A × List Placed) ℕ

abbrev pub Parser : Type 0 → Type 0
Parser A = List Placed → BlocksParsed A

abbrev pub and_then : {A B : Type 0} → BlocksParsed A → (A → Parser B) → BlocksParsed B
and_then (Ok p) f = f p.0 p.1
and_then (Err number) f = Err number

infixl 10 ◌>>=◌
abbrev pub ◌>>=◌ : {A B : Type 0} → Parser A → (A → Parser B) → Parser B
p >>= f = λ ps. and_then (p ps) f

-- nothing is taken
abbrev pub pure : {A : Type 0} → A → Parser A
pure a = λ ps. Ok (a, ps)

-- a fault
abbrev pub fault : {A : Type 0} → ℕ → Parser A
fault number = λ ps. Err number

-- the next line
unfoldable pub take_one : Parser Placed
take_one [] = Err 0
take_one (p ∷ ps) = Ok (p, ps)

-- ---- statements

abbrev pub statements_of : Placed → Line → Parser (Separated SimpleStatement)
statements_of p (line.simple found) = pure found
statements_of p _ = fault p.number

-- a line of simple statements
unfoldable pub simple_line : Parser Stmt
simple_line = do
  p ← take_one
  found ← statements_of p p.line
  pure (simple found)

abbrev pub decorator_of : Placed → Line → Parser Decorator
decorator_of p (line.decorator t e) = pure (record { mark = t; value = e })
decorator_of p _ = fault p.number

-- a line that decorates
unfoldable pub decorator_line : Parser Decorator
decorator_line = do
  p ← take_one
  decorator_of p p.line

abbrev pub is_decorator : Next → Bool
is_decorator next.Decorator = true
is_decorator _ = false

abbrev pub is_definition : Next → Bool
is_definition next.Definition = true
is_definition _ = false

-- the decorators of a row; the first number bounds the turns
unfoldable pub decorators : ℕ → ℕ → Parser (List Decorator)
decorators zero indent = pure []
decorators (suc n) indent = λ ps.
    if is_decorator (next_of indent ps)
    then (do
      first ← decorator_line
      more ← decorators n indent
      pure (first ∷ more)) ps
    else Ok ([], ps)

unfoldable pub all_decorators : ℕ → Parser (List Decorator)
all_decorators indent = λ ps. decorators (length ps) indent ps

-- a clause before those that follow it
abbrev pub clauses_after : (After → Parser CompoundClauses) → Option (CompoundClause × After) → Parser CompoundClauses
clauses_after more None = pure no_clause
clauses_after more (Some found) = do
  rest ← more found.1
  pure (another found.0 rest)

-- a statement before those that follow it
abbrev pub statements_after : Parser Stmts → Option Stmt → Parser Stmts
statements_after more None = pure no_statement
statements_after more (Some found) = do
  rest ← more
  pure (statement found rest)

-- over what reads the block at an indent
module _ (self : ℕ → Parser Stmts) where
  abbrev pub suite_under : ℕ → Option ℕ → Parser Suite
  suite_under number None = fault number
  suite_under number (Some inner) = do
    found ← self inner
    pure (block found)

  -- the statements on the line of a header, or the block under it: a header without either is a fault
  unfoldable pub suite : ℕ → ℕ → Separated SimpleStatement → Parser Suite
  suite number indent found =
      λ ps. if is_none found then suite_under number (under indent ps) ps else Ok (inline found, ps)

  abbrev pub clause_of : Placed → ℕ → Line → Parser CompoundClause
  clause_of p indent (line.header h colon found) = do
    body ← suite p.number indent found
    pure (clause h colon body)
  clause_of p indent _ = fault p.number

  -- a clause
  unfoldable pub one_clause : ℕ → Parser CompoundClause
  one_clause indent = do
    p ← take_one
    clause_of p indent p.line

  -- another clause of a statement, and what it is to those after it
  abbrev pub clause_by : ℕ → Option After → Parser (Option (CompoundClause × After))
  clause_by indent None = pure None
  clause_by indent (Some so) = do
    found ← one_clause indent
    pure (Some (found, so))

  unfoldable pub next_clause : After → ℕ → Parser (Option (CompoundClause × After))
  next_clause so indent = λ ps. clause_by indent (follower so indent ps) ps

  -- the clauses that follow; the first number bounds the turns
  unfoldable pub clauses : ℕ → ℕ → After → Parser CompoundClauses
  clauses zero indent so = pure no_clause
  clauses (suc n) indent so = next_clause so indent >>= clauses_after (clauses n indent)

  unfoldable pub all_clauses : ℕ → After → Parser CompoundClauses
  all_clauses indent so = λ ps. clauses (length ps) indent so ps

  -- a compound statement after its decorators
  unfoldable pub compound_statement : ℕ → List Decorator → After → Parser Stmt
  compound_statement indent marks so = do
    first ← one_clause indent
    more ← all_clauses indent so
    pure (compound marks first more)

  -- a definition after its decorators, of which the first stands at this physical line: without it they are a fault
  unfoldable pub definition : ℕ → ℕ → List Decorator → Parser Stmt
  definition number indent marks = λ ps.
      if is_definition (next_of indent ps) then compound_statement indent marks after.Nothing ps else Err number

  -- a row of decorators and a definition
  unfoldable pub decorated_definition : ℕ → Parser Stmt
  decorated_definition indent = λ ps. (all_decorators indent >>= definition (number_of ps) indent) ps

  -- the statement that the next line begins, or none where the block ends
  abbrev pub statement_by : ℕ → Next → Parser (Option Stmt)
  statement_by indent next.End = pure None
  statement_by indent (next.Fault number) = fault number
  statement_by indent next.Simple = do
    found ← simple_line
    pure (Some found)
  statement_by indent next.Decorator = do
    found ← decorated_definition indent
    pure (Some found)
  statement_by indent next.Definition = do
    found ← compound_statement indent [] after.Nothing
    pure (Some found)
  statement_by indent (next.Header so) = do
    found ← compound_statement indent [] so
    pure (Some found)

  unfoldable pub next_statement : ℕ → Parser (Option Stmt)
  next_statement indent = λ ps. statement_by indent (next_of indent ps) ps

  -- the statements of a block; the first number bounds the turns
  unfoldable pub statements : ℕ → ℕ → Parser Stmts
  statements zero indent = pure no_statement
  statements (suc n) indent = next_statement indent >>= statements_after (statements n indent)

  unfoldable pub all_statements : ℕ → Parser Stmts
  all_statements indent = λ ps. statements (length ps) indent ps

-- the block at an indent, under which this many blocks may still nest
unfoldable pub block_at : ℕ → ℕ → Parser Stmts
block_at zero indent = λ ps. Err (number_of ps)
block_at (suc depth) indent = all_statements (block_at depth) indent

-- the statements of a module, or the physical line of the first fault
abbrev pub module_of : BlocksParsed Stmts → Result Stmts ℕ
module_of (Ok p) = Ok p.0
module_of (Err number) = Err number

-- a scan lets 64 levels pass above the first
unfoldable pub blocks : List Placed → Result Stmts ℕ
blocks ps = module_of (block_at 65 0 ps)
