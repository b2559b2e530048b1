-- The text of each token as a slice of the source.
use Rattle.std.specs.Prelude.{ℕ, ◌<◌, ◌≤◌, List, [], ◌∷◌, ◌++◌, length, slice_range, IsUtf8}
use Rattle.pyc_token.specs.declared.tokens.Span.{Span}
use Rattle.pyc_token.specs.declared.tokens.Token.{Token}
use Rattle.pyc_token.specs.declared.lexeme.Lexeme.{Lexeme}
use Rattle.pyc_token.specs.declared.lexeme.Lexeme.TheVariants as lexeme
use Rattle.pyc_token.specs.Cuts.{Cut, found, bad}
use Rattle.pyc_lex.specs.Ignores.{Codes, all, listed}
use Rattle.pyc_lex.specs.Lines.{Line, lexemes_of}

-- the tokens of some lines, in order
abbrev pub tokens_of : List Line → List Token
tokens_of [] = []
tokens_of (line ∷ lines) = line.tokens ++ tokens_of lines

-- the bytes of a source at a token
abbrev pub slice_at : List ℕ → Token → List ℕ
slice_at source token = slice_range source token.span.start token.span.end

-- some bytes of a source that are a text, of which there is one at least
pub record IsTextSpan (source : List ℕ) (span : Span) : Type 0 where
  pub not_empty : span.start < span.end
  pub within : span.end ≤ length source
  pub is_utf8 : IsUtf8 (slice_range source span.start span.end)

-- where the codes that a comment lists stand
abbrev pub listed_spans : Codes → List Span
listed_spans all = []
listed_spans (listed spans) = spans

-- a token's text before other texts; what is no token adds none
abbrev pub with_token_text : Lexeme → List ℕ → List (List ℕ) → List (List ℕ)
with_token_text lexeme.Name text texts = text ∷ texts
with_token_text (lexeme.Token kind) text texts = text ∷ texts
with_token_text _ text texts = texts

-- the texts of the tokens among some lexemes, as they were cut
unfoldable pub texts_among : List Cut → List (List ℕ)
texts_among [] = []
texts_among (bad fault ∷ later) = texts_among later
texts_among (found p text ∷ later) = with_token_text p text (texts_among later)

-- the texts of a source's tokens, as they were cut
unfoldable pub token_texts : List ℕ → List (List ℕ)
token_texts source = texts_among (lexemes_of source)
