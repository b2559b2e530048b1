-- What a token of the grammar is in an abstract tree: its text and its position.
use Rattle.std.specs.Prelude.{ℕ, Bool, ◌&&◌, nat_le, min, if◌then◌else◌, List, [], length, slice_range, Option, None}
use Rattle.std.specs.Prelude.{Some}
use Rattle.std.specs.Str.{is_utf8}
use Rattle.pyc_ast.specs.declared.position.Position.{Position}
use Rattle.pyc_ast.specs.Names.{nfkc_text}
use Rattle.pyc_token.specs.declared.tokens.Span.{Span}
use Rattle.pyc_token.specs.declared.tokens.Token.{Token}

-- where the tokens of a tree come from: the source that their spans are of, and, where that is the text of a string,
-- the position of the string
pub record Origin : Type 0 where
  pub source : List ℕ
  pub string : Option Position

-- whether a span is one of text in a source
abbrev pub is_text_span : List ℕ → Span → Bool
is_text_span source span =
    nat_le span.start span.end && (nat_le span.end (length source) && is_utf8 (slice_range source span.start span.end))

-- the text of a source at a span, nothing where the span is none of text
unfoldable pub text_at : List ℕ → Span → List ℕ
text_at source span = if is_text_span source span then slice_range source span.start span.end else []

-- an identifier: the text of its token in Normalization Form KC (Python reference 3.13, "Identifiers and keywords")
abbrev pub name_at : Origin → Token → List ℕ
name_at origin token = nfkc_text (text_at origin.source token.span)

-- a number of lines or columns as a position holds it
abbrev pub held : ℕ → ℕ
held n = min n 4294967295

-- the position of a token; the parts of a string's text stand where the string does
abbrev pub position_in : Option Position → Token → Position
position_in None token = record { line = held token.line; column = held token.column }
position_in (Some string) token = string

abbrev pub position_at : Origin → Token → Position
position_at origin token = position_in origin.string token
