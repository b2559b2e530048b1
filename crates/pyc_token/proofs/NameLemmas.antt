-- The length of a name, and names in ASCII.
use Rattle.std.proofs.Common.{◌≡◌, ℕ, suc, ◌+◌, ◌<◌, ◌≤◌, ◌||◌, ◌==◌, true, false, List, [], ◌∷◌, ◌++◌, if◌then◌else◌, length, take, drop, get_or, slice_index, All, IsUtf8, IsAscii, chars, encode_utf8, encode_utf8_all, take_while, refl, sym, ap, ◌∙◌, arith, length-append, one-add, zero-add, add-zero, get_or-drop, inl, inr, IsCharBoundary}
use Rattle.std.proofs.lemmas.List.{at_drop_more, at_drop_all, get_or_past}
use Rattle.std.proofs.lemmas.Bool.{cases_lt}
use Rattle.std.proofs.lemmas.Bool.Decides.{nat_tests}
use Rattle.std.proofs.lemmas.List.Elements.{All-nil, All-cons}
use Rattle.std.proofs.lemmas.List.Sums.{prefix_len_stops}
use Rattle.std.proofs.lemmas.Str.{chars-nil, len_utf8_ascii, IsUtf8-drop, length-encode, encode_ascii, chars-IsAscii, encodes-IsAscii, encodes-chars, chars_past_char, IsUtf8-past_char}
use Rattle.std.specs.Char.{len_utf8, is_ascii_alphabetic}
use Rattle.std.specs.List.{prefix_len}
use Rattle.unicode_ident.specs.Ident.{is_xid_continue}
use Rattle.unicode_ident.proofs.IdentLemmas.{is_xid_continue-ascii, is_xid_start-ascii}
use Rattle.unicode_normalization.specs.Forms.{Nfkc, nfkc}
use Rattle.unicode_normalization.proofs.FormsLemmas.{normalize-ascii}
use Rattle.pyc_token.proofs.BoundaryLemmas.{boundary_past_prefix}
use Rattle.pyc_token.specs.Characters.{is_name_start}
use Rattle.pyc_token.specs.Names.{name_len, is_ascii_name_byte, nfkc_text}

-- how many bytes the characters at the front take that a name goes on with
abbrev pub front_len : List ℕ → ℕ
front_len [] = 0
front_len (c ∷ cs) = if is_xid_continue c then len_utf8 c + front_len cs else 0

encoded_len : (cs : List ℕ) → length (encode_utf8_all (take_while is_xid_continue cs)) ≡ front_len cs
encoded_len [] = refl
encoded_len (c ∷ cs) =
    elim (is_xid_continue c) as (λ b. length (encode_utf8_all (take (if b then 1 + prefix_len is_xid_continue cs else 0) (c ∷ cs))) ≡ (if b then len_utf8 c + front_len cs else 0)) [
      | true ↦
          ap (λ (k : ℕ). length (encode_utf8_all (take k (c ∷ cs)))) (one-add (prefix_len is_xid_continue cs))
          ∙ length-append (encode_utf8 c) (encode_utf8_all (take (prefix_len is_xid_continue cs) cs))
          ∙ omega (arith, length-encode c, encoded_len cs)
      | false ↦ refl
    ]

pub name_len-front : (text : List ℕ) → name_len text ≡ front_len (chars text)
unfolding name_len
name_len-front text = encoded_len (chars text)

front_len-le : (cs : List ℕ) → front_len cs ≤ length (encode_utf8_all cs)
front_len-le [] = omega arith
front_len-le (c ∷ cs) =
    elim (is_xid_continue c) as (λ b. (if b then len_utf8 c + front_len cs else 0) ≤ length (encode_utf8 c ++ encode_utf8_all cs)) [
      | true ↦ omega (arith, length-append (encode_utf8 c) (encode_utf8_all cs), length-encode c, front_len-le cs)
      | false ↦ omega arith
    ]

-- a name lies within its text
pub front_len-within : (text : List ℕ) → IsUtf8 text → front_len (chars text) ≤ length text
front_len-within text utf8 = omega (arith, front_len-le (chars text), ap length (encodes-chars text utf8))

pub front_len-drop : (cs : List ℕ) (n c : ℕ) → (n < length cs) × (c ≡ get_or cs n c)
    → front_len (drop n cs) ≡ (if is_xid_continue c then len_utf8 c + front_len (drop (n + 1) cs) else 0)
front_len-drop cs n c h =
    at_drop_more front_len cs n c h.0 ∙ ap (λ x. if is_xid_continue x then len_utf8 x + front_len (drop (n + 1) cs) else 0) (sym h.1)

pub front_len-at_end : (cs : List ℕ) (n : ℕ) → length cs ≤ n → front_len (drop n cs) ≡ 0
front_len-at_end cs n l = at_drop_all front_len cs n l

-- ---- ASCII

-- a byte of ASCII at the front is the first character
pub chars-ascii : (byte : ℕ) (rest : List ℕ) → IsUtf8 (byte ∷ rest) → byte < 128 → chars (byte ∷ rest) ≡ byte ∷ chars rest
chars-ascii byte rest utf8 low = chars_past_char (byte ∷ rest) rest byte utf8 (ap (λ z. z ++ rest) (sym (encode_ascii byte low)))

utf8-ascii : (byte : ℕ) (rest : List ℕ) → IsUtf8 (byte ∷ rest) → byte < 128 → IsUtf8 rest
utf8-ascii byte rest utf8 low = IsUtf8-past_char (byte ∷ rest) rest byte utf8 (ap (λ z. z ++ rest) (sym (encode_ascii byte low)))

ascii_each : (text : List ℕ) → IsAscii text → All (λ c. c < 128) text
ascii_each [] low = All-nil (λ c. c < 128)
ascii_each (c ∷ cs) low = All-cons (λ c. c < 128) c cs (low 0) (ascii_each cs (λ k. low (suc k)))

-- a name in ASCII is in Normalization Form KC
pub nfkc_text-ascii : (text : List ℕ) → IsAscii text → nfkc_text text ≡ text
nfkc_text-ascii text low =
    ap (λ cs. encode_utf8_all (nfkc cs)) (chars-IsAscii text low) ∙ ap encode_utf8_all (normalize-ascii Nfkc text (ascii_each text low)) ∙ encodes-IsAscii text low

first_character : (text : List ℕ) → IsUtf8 text → 0 < length text → slice_index text 0 < 128 → slice_index (chars text) 0 ≡ slice_index text 0
first_character [] utf8 l low = absurd (omega (arith, l))
first_character (byte ∷ rest) utf8 l low = ap (λ cs. slice_index cs 0) (chars-ascii byte rest utf8 low)

-- whether a byte of ASCII at the front starts a name
pub is_name_start-ascii : (text : List ℕ) → IsUtf8 text → 0 < length text → slice_index text 0 < 128
    → is_name_start (slice_index (chars text) 0) ≡ (is_ascii_alphabetic (slice_index text 0) || slice_index text 0 == 95)
is_name_start-ascii text utf8 l low =
    ap is_name_start (first_character text utf8 l low) ∙ ap (λ b. b || slice_index text 0 == 95) (is_xid_start-ascii (slice_index text 0) low)

-- a byte of ASCII that no name goes on with ends it
name_stops : (byte : ℕ) (rest : List ℕ) → IsUtf8 (byte ∷ rest) → byte < 128 → is_ascii_name_byte byte ≡ false → front_len (chars (byte ∷ rest)) ≡ 0
name_stops byte rest utf8 low stops =
    ap front_len (chars-ascii byte rest utf8 low) ∙ ap (λ b. if b then len_utf8 byte + front_len (chars rest) else 0) (is_xid_continue-ascii byte low ∙ stops)

-- a name goes on with bytes of ASCII below 128
pub name_byte_low : (byte : ℕ) → is_ascii_name_byte byte ≡ true → byte < 128
name_byte_low byte e = grind (arith, nat_tests)

-- the bytes of ASCII at the front of a name, and the rest of it
pub name_len-ascii : (text : List ℕ) → IsUtf8 text
    → front_len (chars text) ≡ prefix_len is_ascii_name_byte text + front_len (chars (drop (prefix_len is_ascii_name_byte text) text))
name_len-ascii [] utf8 = sym (zero-add (front_len (chars [])))
name_len-ascii (byte ∷ rest) utf8 =
    elim (is_ascii_name_byte byte) as (λ b. is_ascii_name_byte byte ≡ b → front_len (chars (byte ∷ rest))
    ≡ (if b then 1 + prefix_len is_ascii_name_byte rest else 0) + front_len (chars (drop (if b then 1 + prefix_len is_ascii_name_byte rest else 0) (byte ∷ rest)))) [
      | true ↦ λ e.
          let low : byte < 128 = name_byte_low byte e in
          let n : ℕ = prefix_len is_ascii_name_byte rest in
          let first : front_len (chars (byte ∷ rest)) ≡ len_utf8 byte + front_len (chars rest) =
          ap front_len (chars-ascii byte rest utf8 low) ∙ ap (λ b. if b then len_utf8 byte + front_len (chars rest) else 0) (is_xid_continue-ascii byte low ∙ e) in
          let later : front_len (chars rest) ≡ n + front_len (chars (drop n rest)) = name_len-ascii rest (utf8-ascii byte rest utf8 low) in
          let left : front_len (chars (drop (1 + n) (byte ∷ rest))) ≡ front_len (chars (drop n rest)) = ap (λ (k : ℕ). front_len (chars (drop k (byte ∷ rest)))) (one-add n) in
          omega (arith, first, later, left, len_utf8_ascii byte low)
      | false ↦ λ e. sym (zero-add (front_len (chars (byte ∷ rest))))
    ] refl

stops_at : (text : List ℕ) → IsUtf8 text → slice_index text 0 < 128 → is_ascii_name_byte (slice_index text 0) ≡ false → front_len (chars text) ≡ 0
stops_at [] utf8 low stops = ap front_len chars-nil
stops_at (byte ∷ rest) utf8 low stops = name_stops byte rest utf8 low stops

-- the byte after them fails the test, and so does 0 past the end
fails_at : (text : List ℕ) → is_ascii_name_byte (slice_index text (prefix_len is_ascii_name_byte text)) ≡ false
fails_at text =
    elim (cases_lt (prefix_len is_ascii_name_byte text) (length text)) [
      | inl within ↦ prefix_len_stops is_ascii_name_byte text 0 within
      | inr past ↦ rw (get_or_past text (prefix_len is_ascii_name_byte text) 0 past) refl
    ]

-- a name ends with its bytes of ASCII where another byte of ASCII follows
pub name_len-at_ascii : (text : List ℕ) → IsUtf8 text → slice_index text (prefix_len is_ascii_name_byte text) < 128 → name_len text ≡ prefix_len is_ascii_name_byte text
name_len-at_ascii text utf8 low =
    let n : ℕ = prefix_len is_ascii_name_byte text in
    let boundary : IsCharBoundary text n = boundary_past_prefix is_ascii_name_byte name_byte_low text utf8 in
    let rest : IsUtf8 (drop n text) = IsUtf8-drop text n utf8 boundary in
    let next : slice_index (drop n text) 0 ≡ slice_index text n = get_or-drop n text 0 0 ∙ ap (slice_index text) (add-zero n) in
    let stops : front_len (chars (drop n text)) ≡ 0 = stops_at (drop n text) rest (rw next low) (rw next (fails_at text)) in
    omega (arith, name_len-front text, name_len-ascii text utf8, stops)
