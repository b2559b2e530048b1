-- Which lines of a module are misplaced, by the lines before and after them, for readers (Python reference 3.13,
-- "Compound statements"). Lines before a line are reported from the nearest to the first, lines after it in text order.
use Rattle.std.specs.Prelude.{◌≡◌, ℕ, ◌+◌, ◌<◌, Bool, true, false, IsTrue, if◌then◌else◌, List, [], ◌∷◌, Option, Some}
use Rattle.std.specs.Prelude.{None, Result, Ok, Err}
use Rattle.pyc_tree.specs.declared.block.Form.{Form}
use Rattle.pyc_tree.specs.declared.block.Form.TheVariants as form
use Rattle.pyc_tree.specs.BlockTrees.{Stmts}
use Rattle.pyc_tree.specs.Lines.{Line}
use Rattle.pyc_tree.specs.Lines as line
use Rattle.pyc_parse.specs.Blocks.{Placed, form_of, is_none, blocks}

-- ---- lines

-- the clause that a line begins, if it is a header
abbrev pub clause_in : Line → Option Form
clause_in (line.header h _ _) = Some (form_of h)
clause_in _ = None

-- whether a line is a header without statements
abbrev pub is_bare : Line → Bool
is_bare (line.header _ _ found) = is_none found
is_bare _ = false

-- whether a line decorates
abbrev pub is_decorator_line : Line → Bool
is_decorator_line (line.decorator _ _) = true
is_decorator_line _ = false

-- ---- the lines before

-- how deep a line after these may be: as deep as the nearest, or one level more after a header without statements
abbrev pub deepest : List Placed → ℕ
deepest [] = 0
deepest (p ∷ before) = if is_bare p.line then p.indent + 1 else p.indent

-- of some lines the nearest that is no deeper than an indent stands at it and begins a clause; these come before it
pub data EndsIn (indent : ℕ) : List Placed → Form → List Placed → Type 0 where
  stands : {p : Placed} {before : List Placed} {clause : Form} → p.indent ≡ indent → clause_in p.line ≡ Some clause
      → EndsIn indent (p ∷ before) clause before
  over : {p : Placed} {before earlier : List Placed} {clause : Form} → indent < p.indent
      → EndsIn indent before clause earlier → EndsIn indent (p ∷ before) clause earlier

-- whether of two clauses the second may come right after the first in one statement
abbrev pub may_follow : Form → Form → Bool
may_follow form.If form.Elif = true
may_follow form.Elif form.Elif = true
may_follow form.If form.Else = true
may_follow form.Elif form.Else = true
may_follow form.While form.Else = true
may_follow form.For form.Else = true
may_follow form.Try form.Except = true
may_follow form.Except form.Except = true
may_follow form.Except form.Else = true
may_follow form.Try form.Finally = true
may_follow form.Except form.Finally = true
may_follow _ _ = false

-- a clause may continue the statement at an indent in which some lines end: it may follow the last clause there, or it
-- is a `finally` after an `else` that comes after an `except`
pub data Continues (indent : ℕ) (before : List Placed) : Form → Type 0 where
  after_clause : {last clause : Form} {earlier : List Placed} → EndsIn indent before last earlier
      → IsTrue (may_follow last clause) → Continues indent before clause
  after_else : {earlier first : List Placed} → EndsIn indent before form.Else earlier
      → EndsIn indent earlier form.Except first → Continues indent before form.Finally

-- whether a clause stands only after another
abbrev pub is_later : Form → Bool
is_later form.Elif = true
is_later form.Else = true
is_later form.Except = true
is_later form.Finally = true
is_later _ = false

-- ---- the lines after

-- the first line after is deeper than an indent
pub data HasBlock (indent : ℕ) : List Placed → Type 0 where
  deeper : {p : Placed} {after : List Placed} → indent < p.indent → HasBlock indent (p ∷ after)

-- the first line after that is no deeper than an indent stands at it and is an `except` or a `finally`
pub data HasHandler (indent : ℕ) : List Placed → Type 0 where
  by_except : {p : Placed} {after : List Placed} → p.indent ≡ indent → clause_in p.line ≡ Some form.Except
      → HasHandler indent (p ∷ after)
  by_finally : {p : Placed} {after : List Placed} → p.indent ≡ indent → clause_in p.line ≡ Some form.Finally
      → HasHandler indent (p ∷ after)
  past_block : {p : Placed} {after : List Placed} → indent < p.indent → HasHandler indent after
      → HasHandler indent (p ∷ after)

-- the first line after that does not decorate is a `def` or a `class`, and all up to it stand at an indent
pub data HasDefinition (indent : ℕ) : List Placed → Type 0 where
  by_definition : {p : Placed} {after : List Placed} → p.indent ≡ indent → clause_in p.line ≡ Some form.Definition
      → HasDefinition indent (p ∷ after)
  past_decorator : {p : Placed} {after : List Placed} → p.indent ≡ indent → IsTrue (is_decorator_line p.line)
      → HasDefinition indent after → HasDefinition indent (p ∷ after)

-- ---- misplaced lines

-- a line is misplaced between those before and those after
pub data Misplaced (before : List Placed) (l : Placed) (after : List Placed) : Type 0 where
  -- it is deeper than the line before lets it be
  indented : deepest before < l.indent → Misplaced before l after
  -- it is more than 64 levels above the first, which no line of a scan is
  too_deep : 64 < l.indent → Misplaced before l after
  -- it is a header without statements, and the next line is no deeper
  without_block : IsTrue (is_bare l.line) → ¬ HasBlock l.indent after → Misplaced before l after
  -- it is an `elif`, `else`, `except` or `finally` that continues no statement
  continues_nothing : {clause : Form} → clause_in l.line ≡ Some clause → IsTrue (is_later clause)
      → ¬ Continues l.indent before clause → Misplaced before l after
  -- it is a `try`, and the next line that is no deeper is no `except` or `finally` of its indent
  without_handler : clause_in l.line ≡ Some form.Try → ¬ HasHandler l.indent after → Misplaced before l after
  -- it decorates no definition
  decorates_nothing : IsTrue (is_decorator_line l.line) → ¬ HasDefinition l.indent after → Misplaced before l after

-- after the first lines, none of the second is misplaced
pub data NoneMisplaced : List Placed → List Placed → Type 0 where
  end : {before : List Placed} → NoneMisplaced before []
  next : {before after : List Placed} {l : Placed} → ¬ Misplaced before l after → NoneMisplaced (l ∷ before) after
      → NoneMisplaced before (l ∷ after)

-- after the first lines, the first of the second that is misplaced begins at this physical line
pub data FirstMisplaced (number : ℕ) : List Placed → List Placed → Type 0 where
  here : {before after : List Placed} {l : Placed} → Misplaced before l after → l.number ≡ number
      → FirstMisplaced number before (l ∷ after)
  later : {before after : List Placed} {l : Placed} → ¬ Misplaced before l after
      → FirstMisplaced number (l ∷ before) after → FirstMisplaced number before (l ∷ after)

-- what is reported of lines: a tree where none of them is misplaced, else the physical line of the first that is
abbrev pub AreReported : List Placed → Result Stmts ℕ → Type 0
AreReported ps (Ok found) = NoneMisplaced [] ps
AreReported ps (Err number) = FirstMisplaced number [] ps

-- the fault of blocks is their first misplaced line, for all lines at all indents
abbrev pub FaultsAreFirstMisplaced : Type 0
FaultsAreFirstMisplaced = (ps : List Placed) → AreReported ps (blocks ps)
