-- Names and keywords (Python reference, lexical analysis, "Identifiers and keywords").
use Rattle.std.specs.Prelude.{ℕ, Bool, ◌||◌, ◌==◌, List, [], ◌∷◌, codes, if◌then◌else◌, Option, None, Some, length}
use Rattle.std.specs.Char.{is_ascii_alphanumeric}
use Rattle.std.specs.Str.{bytes_eq, chars, encode_utf8_all}
use Rattle.std.specs.List.{take_while}
use Rattle.unicode_ident.specs.Ident.{is_xid_continue}
use Rattle.unicode_normalization.specs.Forms.{nfkc}
use Rattle.pyc_token.specs.declared.tokens.Keyword.{Keyword}
use Rattle.pyc_token.specs.declared.tokens.Keyword.TheVariants as keyword
use Rattle.pyc_token.specs.declared.tokens.Word.{Word}
use Rattle.pyc_token.specs.declared.tokens.Word.TheVariants as word
use Rattle.pyc_token.specs.declared.tokens.Kind.{Kind}
use Rattle.pyc_token.specs.declared.tokens.Kind.TheVariants as kind

-- how many bytes a name at the front takes: the longest row of characters that a name goes on with
unfoldable pub name_len : List ℕ → ℕ
name_len text = length (encode_utf8_all (take_while is_xid_continue (chars text)))

-- a byte of ASCII that a name goes on with
abbrev pub is_ascii_name_byte : ℕ → Bool
is_ascii_name_byte byte = is_ascii_alphanumeric byte || byte == 95

-- each keyword with its spelling
unfoldable pub keywords : List (List ℕ × Keyword)
keywords =
    (codes "False", keyword.False) ∷
    (codes "None", keyword.None) ∷
    (codes "True", keyword.True) ∷
    (codes "and", keyword.And) ∷
    (codes "as", keyword.As) ∷
    (codes "assert", keyword.Assert) ∷
    (codes "async", keyword.Async) ∷
    (codes "await", keyword.Await) ∷
    (codes "break", keyword.Break) ∷
    (codes "class", keyword.Class) ∷
    (codes "continue", keyword.Continue) ∷
    (codes "def", keyword.Def) ∷
    (codes "del", keyword.Del) ∷
    (codes "elif", keyword.Elif) ∷
    (codes "else", keyword.Else) ∷
    (codes "except", keyword.Except) ∷
    (codes "finally", keyword.Finally) ∷
    (codes "for", keyword.For) ∷
    (codes "from", keyword.From) ∷
    (codes "global", keyword.Global) ∷
    (codes "if", keyword.If) ∷
    (codes "import", keyword.Import) ∷
    (codes "in", keyword.In) ∷
    (codes "is", keyword.Is) ∷
    (codes "lambda", keyword.Lambda) ∷
    (codes "nonlocal", keyword.Nonlocal) ∷
    (codes "not", keyword.Not) ∷
    (codes "or", keyword.Or) ∷
    (codes "pass", keyword.Pass) ∷
    (codes "raise", keyword.Raise) ∷
    (codes "return", keyword.Return) ∷
    (codes "try", keyword.Try) ∷
    (codes "while", keyword.While) ∷
    (codes "with", keyword.With) ∷
    (codes "yield", keyword.Yield) ∷ []

-- the keyword that a table has under this spelling
abbrev pub keyword_in : List (List ℕ × Keyword) → List ℕ → Option Keyword
keyword_in [] name = None
keyword_in (entry ∷ table) name = if bytes_eq entry.0 name then Some entry.1 else keyword_in table name

-- the keyword that is spelled so
unfoldable pub keyword_of : List ℕ → Option Keyword
keyword_of name = keyword_in keywords name

-- a text in Normalization Form KC, in which names are compared
abbrev pub nfkc_text : List ℕ → List ℕ
nfkc_text name = encode_utf8_all (nfkc (chars name))

-- which of the words that are keywords in some places alone a name spells ("Soft Keywords")
abbrev pub word_in : List ℕ → Word
word_in name =
    if bytes_eq name (codes "match") then word.Match
    else if bytes_eq name (codes "case") then word.Case
    else if bytes_eq name (codes "type") then word.Type
    else word.Other

-- which of those words a name is, in Normalization Form KC
unfoldable pub word_of : List ℕ → Word
word_of name = word_in (nfkc_text name)

-- the kind of a name that may be a keyword
abbrev pub kind_or_word : Option Keyword → List ℕ → Kind
kind_or_word (Some found) name = kind.Keyword found
kind_or_word None name = kind.Name (word_of name)

-- the kind of a name: a keyword as it is spelled, else a name
unfoldable pub kind_of_name : List ℕ → Kind
kind_of_name name = kind_or_word (keyword_of name) name
