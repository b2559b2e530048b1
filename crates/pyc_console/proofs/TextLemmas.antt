-- The text of a word, run by run.
use Rattle.std.proofs.Common.{◌≡◌, append-nil, ℕ, zero, suc, List, [], ◌∷◌, ◌++◌, length, take, drop, ◌+◌, ◌≤◌, ◌<◌, refl, sym, ap, ◌∙◌, append_assoc, arith, Bool, if◌then◌else◌, true, false, true≢false}
use Rattle.std.proofs.lemmas.Bool.{eq-eqb, ne_eqb}
use Rattle.std.proofs.lemmas.List.{drop_at, length-append, take_all, take_at}
use Rattle.std.proofs.lemmas.List.Elements.{Contains-append_left, Contains-append_right}
use Rattle.std.proofs.lemmas.Str.{utf8_valid_len_le, utf8_valid_len-IsUtf8, IsUtf8-from_is_utf8, is_utf8-from_IsUtf8}
use Rattle.std.specs.Str.{is_utf8}
use Rattle.std.specs.Str.Lossy.{utf8_valid_len, utf8_invalid_len, after_first_chunk, valid_len_up_to}
use Rattle.std.specs.List.{Contains}
use Rattle.pyc_console.specs.Text.{substitute, word_text, word_text_within}

-- bytes that are text stay as they are
within_text : (count : ℕ) (bs : List ℕ) → utf8_valid_len bs ≡ length bs → word_text_within count bs ≡ bs
within_text zero bs whole = refl
within_text (suc count) bs whole = rw (eq-eqb _ _ whole) refl

-- others give the text of their first run, U+001A and the text of the rest
within_fault : (count : ℕ) (bs : List ℕ) → (utf8_valid_len bs ≡ length bs → ⊥)
    → word_text_within (suc count) bs ≡ take (utf8_valid_len bs) bs ++ (substitute ++ word_text_within count (after_first_chunk bs))
within_fault count bs faulty = rw (ne_eqb _ _ faulty) refl

nil_from_length : (xs : List ℕ) → length xs ≡ 0 → xs ≡ []
nil_from_length [] none = refl
nil_from_length (x ∷ xs) none = cc

-- What was made of the first bytes, and the bytes that are left: their texts together are the text of all.
pub record MadeSoFar (bytes made left : List ℕ) : Type 0 where
  pub count : ℕ
  pub enough : length left ≤ count
  pub whole : made ++ word_text_within count left ≡ word_text bytes

pub made_none : (bytes : List ℕ) → MadeSoFar bytes [] bytes
unfolding word_text
made_none bytes = record { count = length bytes; enough = omega arith; whole = refl }

module _ (left valid invalid rest : List ℕ) (parts : left ≡ valid ++ (invalid ++ rest)) (valid_len : length valid ≡ utf8_valid_len left) where
  -- where there are bytes that are no text
  chunk_text : (count : ℕ) → length invalid ≡ utf8_invalid_len (drop (utf8_valid_len left) left) → 0 < length invalid
      → word_text_within (suc count) left ≡ valid ++ (substitute ++ word_text_within count rest)
  chunk_text count invalid_len some =
      let n = utf8_valid_len left in
      let total : length left ≡ length valid + length (invalid ++ rest) = ap length parts ∙ length-append valid (invalid ++ rest) in
      let front : take n left ≡ valid = ap (take n) parts ∙ take_at valid (invalid ++ rest) n valid_len in
      let both_len : length (valid ++ invalid) ≡ n + utf8_invalid_len (drop n left) = omega (arith, length-append valid invalid) in
      let back : after_first_chunk left ≡ rest =
      ap (drop (n + utf8_invalid_len (drop n left))) (parts ∙ sym (append_assoc valid invalid rest)) ∙ drop_at (valid ++ invalid) rest (n + utf8_invalid_len (drop n left)) both_len in
      within_fault count left (λ whole. omega (arith, length-append invalid rest)) ∙ rw (front, back) refl

  -- where there are none the run is the last
  last_text : (count : ℕ) → length invalid ≡ 0 → length rest ≡ 0 → word_text_within count left ≡ valid ++ rest
  last_text count no_invalid no_rest =
      let whole : left ≡ valid ++ rest = parts ∙ rw (nil_from_length invalid no_invalid) refl in
      within_text count left (omega (arith, ap length whole, length-append valid rest)) ∙ whole

  module _ (bytes made : List ℕ) (shorter : length rest < length left) where
    fault_by : (count : ℕ) → length left ≤ count → made ++ word_text_within count left ≡ word_text bytes
        → length invalid ≡ utf8_invalid_len (drop (utf8_valid_len left) left) → 0 < length invalid → MadeSoFar bytes ((made ++ valid) ++ substitute) rest
    fault_by zero enough whole invalid_len some = absurd (omega arith)
    fault_by (suc count) enough whole invalid_len some = record {
      count = count;
      enough = omega arith;
      whole = simp append_assoc (rw (chunk_text count invalid_len some) at whole);
    }

    pub made_fault : MadeSoFar bytes made left → length invalid ≡ utf8_invalid_len (drop (utf8_valid_len left) left) → 0 < length invalid
        → MadeSoFar bytes ((made ++ valid) ++ substitute) rest
    made_fault m invalid_len some = fault_by m.count m.enough m.whole invalid_len some

    pub made_last : MadeSoFar bytes made left → length invalid ≡ 0 → length rest ≡ 0 → MadeSoFar bytes (made ++ valid) rest
    made_last m no_invalid no_rest = record {
      count = 0;
      enough = omega arith;
      whole = append_assoc made valid rest ∙ (rw (last_text m.count no_invalid no_rest) at m.whole);
    }

-- nothing is left
pub made_all : (bytes made left : List ℕ) → MadeSoFar bytes made left → length left ≡ 0 → made ≡ word_text bytes
made_all bytes made left m none =
    let no_text : word_text_within m.count left ≡ [] = within_text m.count left (let low = utf8_valid_len_le left in omega arith) ∙ nil_from_length left none in
    sym (append-nil made) ∙ (rw no_text at m.whole)

-- text stays as it is
pub word_text_same : (bs : List ℕ) → is_utf8 bs ≡ true → word_text bs ≡ bs
unfolding word_text
word_text_same bs is = within_text (length bs) bs (utf8_valid_len-IsUtf8 bs (IsUtf8-from_is_utf8 bs is))

-- ---- what is no text

up_to_le : (b : Bool) (n m : ℕ) → m ≤ n → (if b then suc n else m) ≤ suc n
up_to_le true n m low = omega arith
up_to_le false n m low = omega arith

valid_len_le : (bs : List ℕ) (n : ℕ) → valid_len_up_to bs n ≤ n
valid_len_le bs zero = omega arith
valid_len_le bs (suc n) = up_to_le (is_utf8 (take (suc n) bs)) n (valid_len_up_to bs n) (valid_len_le bs n)

up_to_whole : (b : Bool) (n m : ℕ) → m ≤ n → (if b then suc n else m) ≡ suc n → b ≡ true
up_to_whole true n m low is = refl
up_to_whole false n m low is = absurd (omega (arith, low, is))

whole_front : (bs : List ℕ) (n : ℕ) → valid_len_up_to bs n ≡ n → is_utf8 (take n bs) ≡ true
whole_front bs zero is = is_utf8-from_IsUtf8 [] ([], (refl, refl))
whole_front bs (suc n) is = up_to_whole (is_utf8 (take (suc n) bs)) n (valid_len_up_to bs n) (valid_len_le bs n) is

utf8_from_whole : (bs : List ℕ) → utf8_valid_len bs ≡ length bs → is_utf8 bs ≡ true
unfolding utf8_valid_len
utf8_from_whole bs whole = rw (take_all (length bs) bs (omega arith)) at (whole_front bs (length bs) whole)

contains_substitute : Contains substitute 0x1A
contains_substitute = (0, omega arith, refl)

marked_within : (count : ℕ) (bs : List ℕ) → length bs ≤ count → (utf8_valid_len bs ≡ length bs → ⊥) → Contains (word_text_within count bs) 0x1A
marked_within zero bs enough faulty = absurd (faulty (let low = utf8_valid_len_le bs in omega arith))
marked_within (suc count) bs enough faulty =
    rw (within_fault count bs faulty) (Contains-append_right (take (utf8_valid_len bs) bs) _ 0x1A (Contains-append_left substitute _ 0x1A contains_substitute))

-- it has U+001A in it
pub word_text_marked : (bs : List ℕ) → is_utf8 bs ≡ false → Contains (word_text bs) 0x1A
unfolding word_text
word_text_marked bs is = marked_within (length bs) bs (omega arith) (λ whole. true≢false (sym (utf8_from_whole bs whole) ∙ is))
