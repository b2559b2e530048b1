-- Comments that suppress errors (mypy documentation, "Error codes", "Silencing errors based on error codes").
use Rattle.std.specs.Prelude.{ℕ, zero, suc, ◌+◌, ◌-◌, Bool, not, ◌||◌, ◌==◌, nat_eq, if◌then◌else◌, List, [], ◌∷◌}
use Rattle.std.specs.Prelude.{reverse, take, drop, length, slice_index, codes, Option, None, Some, option_map}
use Rattle.std.specs.Prelude.{option_and_then}
use Rattle.std.specs.List.{prefix_len, starts_with}
use Rattle.pyc_token.specs.declared.tokens.Span.{Span}

-- which errors a comment suppresses: all, or those of the codes at some spans
pub data Codes : Type 0 where
  all : Codes
  listed : List Span → Codes

-- an ignore comment with its physical line
pub record IgnoreAt : Type 0 where
  pub line : ℕ
  pub codes : Codes

-- a space
abbrev pub is_space : ℕ → Bool
is_space byte = byte == 32

-- what a list of codes goes on with: neither a bracket nor a `#`
abbrev pub is_list_byte : ℕ → Bool
is_list_byte byte = not (byte == 91 || byte == 93 || byte == 35)

-- what a code goes on with
abbrev pub is_code_byte : ℕ → Bool
is_code_byte byte = not (byte == 44)

-- the span of a text that begins at a byte of the source, without the spaces at its ends; none where nothing else is
-- there
abbrev pub trim_spaces : ℕ → List ℕ → Option Span
trim_spaces from text =
    let lead = prefix_len is_space text in
    if lead == length text then None
    else Some (record { start = from + lead; end = from + (length text - prefix_len is_space (reverse text)) })

-- the codes of a list that begins at a byte of the source, with a comma between two; none where one is empty.
-- The number bounds how many are read
unfoldable pub codes_at : ℕ → ℕ → List ℕ → Option (List Span)
codes_at zero from text = None
codes_at (suc count) from text =
    let len = prefix_len is_code_byte text in
    option_and_then (λ code.
    if len == length text then Some (code ∷ [])
    else option_map (λ later. code ∷ later) (codes_at count (from + len + 1) (drop (len + 1) text)))
    (trim_spaces from (take len text))

-- whether an ignore may end here: at the end of the comment, at a space, a tab or a `#`
abbrev pub ends_ignore : List ℕ → Bool
ends_ignore text = length text == 0 || slice_index text 0 == 32 || slice_index text 0 == 9 || slice_index text 0 == 35

-- the codes in brackets at the front of what follows `ignore`, which begins at a byte of the source
abbrev pub codes_in_brackets : ℕ → List ℕ → Option Codes
codes_in_brackets from text =
    let inside = drop 1 text in
    let len = prefix_len is_list_byte inside in
    if slice_index inside len == 93 then
    (if ends_ignore (drop (len + 1) inside) then option_map listed (codes_at (len + 1) (from + 1) (take len inside))
    else None)
    else None

-- the codes that follow `ignore`: all, or those in brackets
abbrev pub codes_after : ℕ → List ℕ → Option Codes
codes_after from text =
    if slice_index text 0 == 91 then codes_in_brackets from text
    else if ends_ignore text then Some all
    else None

-- the rest of a text after a word and where it begins, if the text begins with the word
abbrev pub after_word : List ℕ → ℕ × List ℕ → Option (ℕ × List ℕ)
after_word word at = if starts_with nat_eq at.1 word then Some (at.0 + length word, drop (length word) at.1) else None

-- the rest of a text after the spaces at its front and where it begins
abbrev pub after_spaces : ℕ × List ℕ → ℕ × List ℕ
after_spaces at = let len = prefix_len is_space at.1 in (at.0 + len, drop len at.1)

-- what a comment that begins at a byte of the source suppresses: `#`, spaces, `type:`, spaces, `ignore`, and perhaps
-- codes
unfoldable pub suppressed : ℕ → List ℕ → Option Codes
suppressed from comment =
    option_and_then (λ kind.
    option_and_then (λ word. codes_after word.0 word.1) (after_word (codes "ignore") (after_spaces kind)))
    (after_word (codes "type:") (after_spaces (from + 1, drop 1 comment)))
