-- The numbers by which looks are noted. Two looks may have one number: then the one counts as the other.
use Rattle.std.specs.Prelude.{ℕ, ◌+◌, ◌*◌, ◌%◌, List, [], ◌∷◌}
use Rattle.pyc_names.specs.Following.{QualifiedName}
use Rattle.pyc_names.specs.Looks.{Look, of_name, of_module, of_member, of_order}

-- a number and one more byte
abbrev pub with_byte : ℕ → ℕ → ℕ
with_byte number byte = (number * 257 + byte) % 65521

-- a number and a text, which a byte that no text has ends
abbrev pub with_bytes : ℕ → List ℕ → ℕ
with_bytes number [] = number
with_bytes number (byte ∷ bytes) = with_bytes (with_byte number byte) bytes

abbrev pub with_text : ℕ → List ℕ → ℕ
with_text number text = with_byte (with_bytes number text) 255

abbrev pub with_texts : ℕ → List (List ℕ) → ℕ
with_texts number [] = number
with_texts number (text ∷ texts) = with_texts (with_text number text) texts

abbrev pub with_name : ℕ → QualifiedName → ℕ
with_name number q = with_text (with_texts number q.module_path) q.name

-- the number of a look
unfoldable pub number_of : Look → ℕ
number_of (of_module m) = with_texts 1 m
number_of (of_name q) = with_name 2 q
number_of (of_order c) = with_name 3 c
number_of (of_member c name) = with_text (with_name 4 c) name
