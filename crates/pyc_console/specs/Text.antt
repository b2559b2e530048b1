-- The text of a word of the command line, which may be any bytes.
use Rattle.std.specs.Prelude.{ℕ, zero, suc, List, [], ◌∷◌, ◌++◌, length, take, ◌==◌, if◌then◌else◌}
use Rattle.std.specs.Str.Lossy.{utf8_valid_len, after_first_chunk}

-- the bytes of U+001A, which stands for bytes that are no text
abbrev pub substitute : List ℕ
substitute = 0x1A ∷ []

-- `word_text`, for at most `count` runs of bytes that are no text
abbrev pub word_text_within : ℕ → List ℕ → List ℕ
word_text_within zero bytes = bytes
word_text_within (suc count) bytes = if utf8_valid_len bytes == length bytes then bytes
    else take (utf8_valid_len bytes) bytes ++ (substitute ++ word_text_within count (after_first_chunk bytes))

-- The bytes as text: U+001A stands for each run of them that is not UTF-8, where `String::from_utf8_lossy` has U+FFFD.
unfoldable pub word_text : List ℕ → List ℕ
word_text bytes = word_text_within (length bytes) bytes
