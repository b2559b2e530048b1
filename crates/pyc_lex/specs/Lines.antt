-- The logical lines of a source, read off the list of all its lexemes (Python reference, lexical analysis).
use Rattle.std.specs.Prelude.{ℕ, ◌+◌, ◌-◌, Bool, true, false, ◌&&◌, ◌||◌, ◌==◌, nat_le, nat_eq, if◌then◌else◌, List, []}
use Rattle.std.specs.Prelude.{◌∷◌, ◌++◌, take, drop, length, slice_get, Option, None, Some, Result, Ok, Err}
use Rattle.std.specs.List.{starts_with}
use Rattle.std.specs.Str.{is_utf8}
use Rattle.pyc_token.specs.declared.tokens.Bracket.{Bracket}
use Rattle.pyc_token.specs.declared.tokens.Bracket.TheVariants as bracket
use Rattle.pyc_token.specs.declared.tokens.Kind.{Kind}
use Rattle.pyc_token.specs.declared.tokens.Kind.TheVariants as kind
use Rattle.pyc_token.specs.declared.tokens.Token.{Token}
use Rattle.pyc_lex.specs.declared.indents.Columns.{Columns}
use Rattle.pyc_lex.specs.declared.positions.Position.{Position}
use Rattle.pyc_lex.specs.declared.brackets.Opened.{Opened}
use Rattle.pyc_token.specs.declared.lexeme.Lexeme.{Lexeme}
use Rattle.pyc_token.specs.declared.lexeme.Lexeme.TheVariants as lexeme
use Rattle.pyc_token.specs.declared.lexeme.CutFault.{CutFault}
use Rattle.pyc_token.specs.declared.lexeme.CutFault.TheVariants as cut
use Rattle.pyc_lex.specs.declared.fault.LexFault.{LexFault}
use Rattle.pyc_lex.specs.declared.fault.LexFault.TheVariants as fault
use Rattle.pyc_token.specs.Cuts.{Cut, found, bad, cuts}
use Rattle.pyc_lex.specs.Ignores.{Codes, all, listed, IgnoreAt, suppressed}
use Rattle.pyc_lex.specs.Indents.{no_columns, columns_after, max_depth, settled}
use Rattle.pyc_token.specs.Names.{kind_of_name}
use Rattle.pyc_lex.specs.Positions.{position_after}

-- the tokens of a logical line, and how many entries the stack of indents has above the first
pub record Line : Type 0 where
  pub indent : ℕ
  pub tokens : List Token

-- what a source is: its logical lines, its ignore comments, and whether one before the first line suppresses the whole
-- file
pub record Lexis : Type 0 where
  pub lines : List Line
  pub ignores : List IgnoreAt
  pub whole_file : Bool

-- what is known between two lexemes: what the source is so far, the stack of indents, the brackets that are open,
-- the columns of the blanks at the line's front and whether they are still counted, the tokens of the line that is
-- begun, and the position, as a byte, a physical line and a column
pub record Reading : Type 0 where
  pub lexis : Lexis
  pub indents : List Columns
  pub brackets : List Opened
  pub margin : Columns
  pub is_measuring : Bool
  pub begun : List Token
  pub from : ℕ
  pub position : Position

-- the source's beginning, at a byte
abbrev pub start_at : ℕ → Reading
start_at from = record {
  lexis = record { lines = []; ignores = []; whole_file = false };
  indents = no_columns ∷ [];
  brackets = [];
  margin = no_columns;
  is_measuring = true;
  begun = [];
  from = from;
  position = record { line = 1; column = 1 };
}

-- whether a list has no element
abbrev pub is_empty : {A : Type 0} → List A → Bool
is_empty [] = true
is_empty (x ∷ xs) = false

-- the next step with what is known, unless there is a fault
abbrev pub and_then : {A B : Type 0} → Result A LexFault → (A → Result B LexFault) → Result B LexFault
and_then (Ok known) next = next known
and_then (Err stopped) next = Err stopped

-- the position after a lexeme of this text
abbrev pub moved : Reading → List ℕ → Reading
moved r text = record r { from = r.from + length text; position = position_after r.position text }

-- ---- indents

-- the line with the indents that its front settles, unless it has a token already
abbrev pub line_settled : Reading → Result Reading LexFault
line_settled r =
    if is_empty r.begun
    then and_then (settled r.indents r.margin r.position.line) (λ stack. Ok (record r { indents = stack }))
    else Ok r

-- blanks at the line's front are counted
abbrev pub measured : Reading → List ℕ → Reading
measured r text = if r.is_measuring then record r { margin = columns_after r.margin text } else r

-- a joined line takes its indent from its first physical line that has one
abbrev pub front_joined : Reading → Reading
front_joined r = if r.margin.wide == 0 then r else record r { is_measuring = false }

-- ---- brackets

-- whether two brackets are of one sort
abbrev pub is_same : Bracket → Bracket → Bool
is_same bracket.Round bracket.Round = true
is_same bracket.Square bracket.Square = true
is_same bracket.Curly bracket.Curly = true
is_same _ _ = false

-- the innermost of the open brackets
abbrev pub innermost : List Opened → Option Opened
innermost brackets = slice_get brackets (length brackets - 1)

-- the brackets that stay open once one of this sort is closed at a line, which must be the innermost
abbrev pub closed : Option Opened → Bracket → ℕ → List Opened → Result (List Opened) LexFault
closed None sort line brackets = Err (fault.Bracket line)
closed (Some last) sort line brackets =
    if is_same last.bracket sort then Ok (take (length brackets - 1) brackets) else Err (fault.Bracket line)

-- the brackets that are open after a token at a line
unfoldable pub bracketed : List Opened → Kind → ℕ → Result (List Opened) LexFault
bracketed brackets (kind.Open sort) line =
    if nat_le max_depth (length brackets) then Err (fault.Deep line)
    else Ok (brackets ++ record { bracket = sort; line = line } ∷ [])
bracketed brackets (kind.Close sort) line = closed (innermost brackets) sort line brackets
bracketed brackets _ line = Ok brackets

-- ---- tokens and lines

-- a token of this text at the position of a reading
abbrev pub token_at : Reading → Kind → List ℕ → Token
token_at r kind text = record {
  kind = kind;
  span = record { start = r.from; end = r.from + length text };
  line = r.position.line;
  column = r.position.column;
}

-- one more token in the line that is begun, with the brackets that are open after it
abbrev pub pushed : Reading → Kind → List ℕ → List Opened → Reading
pushed r kind text brackets =
    moved (record r { brackets = brackets; is_measuring = false; begun = r.begun ++ token_at r kind text ∷ [] }) text

-- what is known after a token: the first of a line settles its indent
abbrev pub with_token : Reading → Kind → List ℕ → Result Reading LexFault
with_token r kind text =
    and_then (line_settled r)
    (λ s. and_then (bracketed s.brackets kind s.position.line) (λ brackets. Ok (pushed s kind text brackets)))

-- these lines and one more of these tokens, where there is one: a line without tokens is no logical line
abbrev pub with_line : List Line → ℕ → List Token → List Line
with_line lines indent [] = lines
with_line lines indent (token ∷ tokens) = lines ++ record { indent = indent; tokens = token ∷ tokens } ∷ []

-- the line that is begun is complete
abbrev pub line_ended : Reading → Reading
line_ended r = record r {
  lexis = record r.lexis { lines = with_line r.lexis.lines (length r.indents - 1) r.begun };
  margin = no_columns;
  is_measuring = true;
  begun = [];
}

-- a line end completes the line, unless a bracket is open
abbrev pub end_met : Reading → Reading
end_met r = if is_empty r.brackets then line_ended r else r

-- whether all errors are suppressed
abbrev pub is_all : Codes → Bool
is_all all = true
is_all (listed spans) = false

-- one more ignore comment; one of all errors before the first logical line suppresses the file
abbrev pub with_ignore : Reading → Option Codes → Reading
with_ignore r None = r
with_ignore r (Some codes) = record r {
  lexis = record r.lexis {
    ignores = r.lexis.ignores ++ record { line = r.position.line; codes = codes } ∷ [];
    whole_file = r.lexis.whole_file || is_all codes && is_empty r.lexis.lines && is_empty r.begun;
  };
}

-- ---- all lexemes

-- what is known after one more lexeme with this text
unfoldable pub step : Reading → Lexeme → List ℕ → Result Reading LexFault
step r lexeme.Name text = with_token r (kind_of_name text) text
step r (lexeme.Token kind) text = with_token r kind text
step r lexeme.Blank text = Ok (moved (measured r text) text)
step r lexeme.Comment text = Ok (moved (with_ignore r (suppressed r.from text)) text)
step r lexeme.LineEnd text = Ok (moved (end_met r) text)
step r lexeme.Joined text = Ok (moved (front_joined r) text)

-- a fault of the text with its physical line
abbrev pub reported : CutFault → ℕ → LexFault
reported cut.BadCharacter line = fault.BadCharacter line
reported cut.OpenString line = fault.OpenString line

-- the fault at a position where no lexeme stands: that of the line's indent comes first
unfoldable pub fault_met : Reading → CutFault → Result Reading LexFault
fault_met r met = and_then (line_settled r) (λ s. Err (reported met s.position.line))

-- what is known after all lexemes, or the first fault
unfoldable pub read : Reading → List Cut → Result Reading LexFault
read r [] = Ok r
read r (bad met ∷ later) = fault_met r met
read r (found p text ∷ later) = and_then (step r p text) (λ next. read next later)

-- what the source is, once all of it is read and its last line is ended; a bracket that is left open is a fault
abbrev pub lexis_read : Option Opened → Reading → Result Lexis LexFault
lexis_read (Some last) r = Err (fault.Bracket last.line)
lexis_read None r = Ok (line_ended r).lexis

-- what the source is at its end
unfoldable pub finished : Reading → Result Lexis LexFault
finished r = lexis_read (innermost r.brackets) r

-- the bytes that may mark a source as UTF-8 ("Encoding declarations")
abbrev pub byte_order_mark : List ℕ
byte_order_mark = 0xEF ∷ 0xBB ∷ 0xBF ∷ []

-- how many bytes that mark takes at the front of a source
unfoldable pub mark_len : List ℕ → ℕ
mark_len source = if starts_with nat_eq source byte_order_mark then 3 else 0

-- the lexemes of a source, after its mark
unfoldable pub lexemes_of : List ℕ → List Cut
lexemes_of source = cuts (drop (mark_len source) source)

-- the logical lines and ignore comments of a source, or its first lexical fault
unfoldable pub lines_of : List ℕ → Result Lexis LexFault
lines_of source =
    if is_utf8 source then and_then (read (start_at (mark_len source)) (lexemes_of source)) finished
    else Err fault.NotUtf8
