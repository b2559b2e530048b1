-- Each lexeme has a byte at least, and the text may be cut after it.
use Rattle.std.proofs.Common.{◌≡◌, ◌⊎◌, ℕ, zero, suc, ◌+◌, ◌-◌, ◌<◌, ◌≤◌, Bool, true, false, ◌||◌, ◌&&◌, ◌==◌, nat_eq, nat_lt, not, if◌then◌else◌, List, [], ◌∷◌, ◌++◌, take, drop, length, slice_index, chars, IsUtf8, IsCharBoundary, encode_utf8_all, option_map, Option, Some, None, Ok, Err, refl, sym, ap, subst, ◌∙◌, inl, inr, arith, add-zero, one-add, true≢false, get_or-drop, get_or-take, length-drop, length-take, take-append-drop}
use Rattle.std.proofs.lemmas.Bool.{cases_lt}
use Rattle.std.proofs.lemmas.Bool.Decides.{nat_tests}
use Rattle.std.proofs.lemmas.List.Prefix.{front_reads, front_fits}
use Rattle.std.proofs.lemmas.List.Sums.{prefix_len-le-length, prefix_len_stops}
use Rattle.std.proofs.lemmas.Slice.Eq.{starts_is}
use Rattle.std.proofs.lemmas.Str.{IsCharBoundary-end, IsCharBoundary-before_ascii, IsCharBoundary-at_seam, encodes-chars, encodes-append, scalars-chars, len_utf8_bounds}
use Rattle.std.proofs.Math.Utf8.{scalars}
use Rattle.std.specs.List.{prefix_len, starts_with}
use Rattle.unicode_ident.specs.Ident.{is_xid_start, is_xid_continue}
use Rattle.unicode_ident.proofs.IdentLemmas.{is_xid_start-is_xid_continue, is_xid_start-ascii, is_xid_continue-ascii}
use Rattle.pyc_token.specs.declared.lexeme.Lexeme.{Lexeme}
use Rattle.pyc_token.specs.declared.lexeme.CutFault.{CutFault}
use Rattle.pyc_token.specs.declared.numbers.Base.{Base}
use Rattle.pyc_token.specs.declared.numbers.Base.TheVariants as base
use Rattle.pyc_token.specs.declared.tokens.Kind.{Kind}
use Rattle.pyc_token.specs.declared.tokens.Number.TheVariants as number
use Rattle.pyc_token.specs.declared.tokens.Prefix.{Prefix}
use Rattle.pyc_token.specs.declared.tokens.Prefix.TheVariants as prefix
use Rattle.pyc_token.specs.Characters.{is_blank, is_line_end, line_end_len, is_comment_byte, is_quote, is_digit, is_name_start}
use Rattle.pyc_token.specs.Names.{name_len}
use Rattle.pyc_token.specs.Numbers.{is_digit_of, digit_row_len, digits_len, base_of_letter, fraction_len, sign_len, exponent_len, imaginary_len, decimal_number, number_in, number_by, number_at}
use Rattle.pyc_token.specs.Strings.{prefix_of, is_format, quotes_len, unit_len, is_cut_off, string_rest_len, string_len, has_open_field}
use Rattle.pyc_token.specs.Operators.{operator_in, operator_at, operators}
use Rattle.pyc_token.specs.Cuts.{FirstLexeme, string_of, string_front, name_or_string, name_front, operator_front, begins_number, begins_line_join, cut_first_lexeme}
use Rattle.pyc_token.proofs.BoundaryLemmas.{boundary_past, boundary_past_prefix}
use Rattle.pyc_token.proofs.NameLemmas.{front_len, name_len-front}

-- ---- bytes of ASCII at the front

pub record IsLow (text : List ℕ) (n : ℕ) : Type 0 where
  pub within : n ≤ length text
  pub low : (k : ℕ) → k < n → slice_index text k < 128

low_zero : (text : List ℕ) → IsLow text 0
low_zero text = record { within = omega arith; low = λ k l. absurd (omega (arith, l)) }

low_cons_at : (byte : ℕ) (rest : List ℕ) (n : ℕ) → byte < 128 → IsLow rest n → (k : ℕ) → k < 1 + n → slice_index (byte ∷ rest) k < 128
low_cons_at byte rest n l front zero below = l
low_cons_at byte rest n l front (suc k) below = front.low k (omega (arith, below))

low_cons : (byte : ℕ) (rest : List ℕ) (n : ℕ) → byte < 128 → IsLow rest n → IsLow (byte ∷ rest) (1 + n)
low_cons byte rest n l front = record { within = omega (arith, front.within); low = low_cons_at byte rest n l front }

low_add_at : (text : List ℕ) (a b : ℕ) → IsLow text a → IsLow (drop a text) b → (k : ℕ) → k < a + b → slice_index text k < 128
low_add_at text a b front later k below =
    elim (cases_lt k a) [
      | inl before ↦ front.low k before
      | inr past ↦
          let at : slice_index (drop a text) (k - a) ≡ slice_index text k = get_or-drop a text (k - a) 0 ∙ ap (slice_index text) (omega (arith, past)) in
          let here : slice_index (drop a text) (k - a) < 128 = later.low (k - a) (omega (arith, past, below)) in
          omega (arith, at, here)
    ]

low_add : (text : List ℕ) (a b : ℕ) → IsLow text a → IsLow (drop a text) b → IsLow text (a + b)
low_add text a b front later = record {
  within = omega (arith, front.within, later.within, length-drop a text);
  low = low_add_at text a b front later;
}

same_from_test : (m n : ℕ) → nat_eq m n ≡ true → m ≡ n
same_from_test m n e = grind (arith, nat_tests)

-- a byte of ASCII, which is not 0, stands at the front
low_one : (text : List ℕ) → 0 < slice_index text 0 → slice_index text 0 < 128 → IsLow text 1
low_one [] some low = absurd (omega (arith, some))
low_one (byte ∷ rest) some low = low_cons byte rest 0 low (low_zero rest)

-- a test of the byte at the front that a byte of ASCII alone passes, and 0 does not
low_if : (text : List ℕ) (n : ℕ) (b : Bool) → (b ≡ true → IsLow text n) → IsLow text (if b then n else 0)
low_if text n true f = f refl
low_if text n false f = low_zero text

either : (a b : Bool) → (a || b) ≡ true → (a ≡ true) ⊎ (b ≡ true)
either true b e = inl refl
either false b e = inr e

both : (a b : Bool) → (a && b) ≡ true → (a ≡ true) × (b ≡ true)
both true b e = (refl, e)
both false b e = cc

low_byte : (text : List ℕ) (byte : ℕ) → 0 < byte → byte < 128 → nat_eq (slice_index text 0) byte ≡ true → IsLow text 1
low_byte text byte some low e = let is : slice_index text 0 ≡ byte = same_from_test _ _ e in low_one text (omega (arith, is, some)) (omega (arith, is, low))

-- one of two bytes of ASCII
low_either : (text : List ℕ) (a b : ℕ) → 0 < a → a < 128 → 0 < b → b < 128 → (nat_eq (slice_index text 0) a || nat_eq (slice_index text 0) b) ≡ true → IsLow text 1
low_either text a b some_a low_a some_b low_b e =
    elim (either (nat_eq (slice_index text 0) a) (nat_eq (slice_index text 0) b) e) [
      | inl x ↦ low_byte text a some_a low_a x
      | inr y ↦ low_byte text b some_b low_b y
    ]

-- ---- numbers

digit_low : (base : Base) (byte : ℕ) → is_digit_of base byte ≡ true → byte < 128
digit_low base.Two byte e = grind (arith, nat_tests)
digit_low base.Eight byte e = grind (arith, nat_tests)
digit_low base.Ten byte e = grind (arith, nat_tests)
digit_low base.Sixteen byte e = grind (arith, nat_tests)

grouped_low : (base : Base) (byte next : ℕ) → (is_digit_of base byte || byte == 95 && is_digit_of base next) ≡ true → byte < 128
grouped_low base byte next e =
    elim (either (is_digit_of base byte) (byte == 95 && is_digit_of base next) e) [
      | inl digit ↦ digit_low base byte digit
      | inr underscore ↦ let is : byte ≡ 95 = same_from_test byte 95 (both (byte == 95) (is_digit_of base next) underscore).0 in omega (arith, is)
    ]

low_grouped : (base : Base) (text : List ℕ) → IsLow text (digit_row_len base text)
low_grouped base [] = low_zero []
low_grouped base (byte ∷ rest) =
    low_if (byte ∷ rest) (1 + digit_row_len base rest) (is_digit_of base byte || byte == 95 && is_digit_of base (slice_index rest 0))
    (λ e. low_cons byte rest (digit_row_len base rest) (grouped_low base byte (slice_index rest 0) e) (low_grouped base rest))

low_digits : (text : List ℕ) → IsLow text (digits_len text)
low_digits text = low_if text (digit_row_len base.Ten text) (is_digit (slice_index text 0)) (λ _. low_grouped base.Ten text)

low_fraction : (text : List ℕ) → IsLow text (fraction_len text)
low_fraction text =
    low_if text (1 + digits_len (drop 1 text)) (slice_index text 0 == 46)
    (λ e. low_add text 1 (digits_len (drop 1 text)) (low_byte text 46 (omega arith) (omega arith) e) (low_digits (drop 1 text)))

low_sign : (text : List ℕ) → IsLow text (sign_len text)
low_sign text =
    low_if text 1 (slice_index text 0 == 43 || slice_index text 0 == 45) (λ e. low_either text 43 45 (omega arith) (omega arith) (omega arith) (omega arith) e)

low_exponent : (text : List ℕ) → IsLow text (exponent_len text)
low_exponent text =
    let before : ℕ = 1 + sign_len (drop 1 text) in
    low_if text _ (slice_index text 0 == 101 || slice_index text 0 == 69) (λ e.
    low_if text (before + digits_len (drop before text)) (nat_lt 0 (digits_len (drop before text))) (λ _.
    low_add text before (digits_len (drop before text))
    (low_add text 1 (sign_len (drop 1 text)) (low_either text 101 69 (omega arith) (omega arith) (omega arith) (omega arith) e) (low_sign (drop 1 text)))
    (low_digits (drop before text))))

low_imaginary : (text : List ℕ) → IsLow text (imaginary_len text)
low_imaginary text =
    low_if text 1 (slice_index text 0 == 106 || slice_index text 0 == 74) (λ e. low_either text 106 74 (omega arith) (omega arith) (omega arith) (omega arith) e)

low_decimal : (text : List ℕ) → IsLow text (decimal_number text).1
unfolding decimal_number
low_decimal text =
    let whole : ℕ = digits_len text in
    let after_whole : List ℕ = drop whole text in
    let fraction : ℕ = fraction_len after_whole in
    let after_fraction : List ℕ = drop fraction after_whole in
    let exponent : ℕ = exponent_len after_fraction in
    let letter : ℕ = imaginary_len (drop exponent after_fraction) in
    let e : whole + (fraction + (exponent + letter)) ≡ whole + fraction + exponent + letter = omega arith in
    subst (IsLow text) e (
    low_add text whole (fraction + (exponent + letter)) (low_digits text) (
    low_add after_whole fraction (exponent + letter) (low_fraction after_whole) (
    low_add after_fraction exponent letter (low_exponent after_fraction) (low_imaginary (drop exponent after_fraction)))))

-- the letter of a base
base_low : (byte : ℕ) (named : Option Base) → base_of_letter byte ≡ named → (found : Base) → named ≡ Some found → (0 < byte) × (byte < 128)
base_low byte named e found is =
    elim (cases_lt 0 byte) [
      | inl some ↦ elim (cases_lt byte 128) [
        | inl low ↦ (some, low)
        | inr high ↦ absurd (grind (arith, nat_tests))
      ]
      | inr none ↦ absurd (grind (arith, nat_tests))
    ]

-- ---- where a number has a byte at least

grouped_some : (text : List ℕ) → is_digit (slice_index text 0) ≡ true → 1 ≤ digit_row_len base.Ten text
grouped_some [] e = cc
grouped_some (byte ∷ rest) e = rw e (omega arith)

digits_some : (text : List ℕ) → is_digit (slice_index text 0) ≡ true → 1 ≤ digits_len text
digits_some text e = rw e (grouped_some text e)

fraction_some : (text : List ℕ) → nat_eq (slice_index text 0) 46 ≡ true → 1 ≤ fraction_len text
fraction_some text e = rw e (omega arith)

no_digits : (text : List ℕ) → is_digit (slice_index text 0) ≡ false → digits_len text ≡ 0
no_digits text e = rw e refl

decimal_number_some : (text : List ℕ) → begins_number text ≡ true → 1 ≤ (decimal_number text).1
unfolding decimal_number
decimal_number_some text begins =
    elim (either (is_digit (slice_index text 0)) (slice_index text 0 == 46 && is_digit (slice_index text 1)) begins) [
      | inl digit ↦ omega (arith, digits_some text digit)
      | inr point ↦
          let is : nat_eq (slice_index text 0) 46 ≡ true = (both (slice_index text 0 == 46) (is_digit (slice_index text 1)) point).0 in
          let none : digits_len text ≡ 0 = no_digits text (ap is_digit (same_from_test (slice_index text 0) 46 is)) in
          let same : fraction_len (drop (digits_len text) text) ≡ fraction_len text = ap (λ (n : ℕ). fraction_len (drop n text)) none in
          omega (arith, same, fraction_some text is)
    ]

number_in_some : (base : Base) (text : List ℕ) → begins_number text ≡ true → 1 ≤ (number_in base text).1
number_in_some base text begins =
    elim (nat_lt 0 (digit_row_len base (drop 2 text))) as (λ b. 1 ≤ (if b then (number.Integer, 2 + digit_row_len base (drop 2 text)) else decimal_number text).1) [
      | true ↦ omega arith
      | false ↦ decimal_number_some text begins
    ]

number_by_some : (named : Option Base) (text : List ℕ) → begins_number text ≡ true → 1 ≤ (number_by named text).1
number_by_some None text begins = decimal_number_some text begins
number_by_some (Some base) text begins = number_in_some base text begins

number_some : (text : List ℕ) → begins_number text ≡ true → 1 ≤ (number_at text).1
unfolding number_at
number_some text begins =
    elim (slice_index text 0 == 48) as (λ b. 1 ≤ (if b then number_by (base_of_letter (slice_index text 1)) text else decimal_number text).1) [
      | true ↦ number_by_some (base_of_letter (slice_index text 1)) text begins
      | false ↦ decimal_number_some text begins
    ]

second_byte : (text : List ℕ) → slice_index (drop 1 text) 0 ≡ slice_index text 1
second_byte text = get_or-drop 1 text 0 0

third_byte : (text : List ℕ) → slice_index (drop 1 (drop 1 text)) 0 ≡ slice_index text 2
third_byte text = get_or-drop 1 (drop 1 text) 0 0 ∙ get_or-drop 1 text 1 0

low_two : (text : List ℕ) → IsLow text 1 → 0 < slice_index text 1 → slice_index text 1 < 128 → IsLow text 2
low_two text one some low =
    low_add text 1 1 one (low_one (drop 1 text) (omega (arith, second_byte text, some)) (omega (arith, second_byte text, low)))

low_three : (text : List ℕ) → IsLow text 2 → 0 < slice_index text 2 → slice_index text 2 < 128 → IsLow text 3
low_three text two some low =
    low_add text 2 1 two (low_one (drop 2 text) (omega (arith, get_or-drop 2 text 0 0, some)) (omega (arith, get_or-drop 2 text 0 0, low)))

low_number_in : (base : Base) (text : List ℕ) → IsLow text 2 → IsLow text (number_in base text).1
low_number_in base text two =
    elim (nat_lt 0 (digit_row_len base (drop 2 text))) as (λ b. IsLow text (if b then (number.Integer, 2 + digit_row_len base (drop 2 text)) else decimal_number text).1) [
      | true ↦ low_add text 2 (digit_row_len base (drop 2 text)) two (low_grouped base (drop 2 text))
      | false ↦ low_decimal text
    ]

low_number_by : (text : List ℕ) (named : Option Base) → base_of_letter (slice_index text 1) ≡ named → IsLow text 1 → IsLow text (number_by named text).1
low_number_by text None e one = low_decimal text
low_number_by text (Some base) e one =
    let second = base_low (slice_index text 1) (Some base) e base refl in low_number_in base text (low_two text one second.0 second.1)

low_number : (text : List ℕ) → IsLow text (number_at text).1
unfolding number_at
low_number text =
    elim (slice_index text 0 == 48) as (λ b. (slice_index text 0 == 48) ≡ b → IsLow text (if b then number_by (base_of_letter (slice_index text 1)) text else decimal_number text).1) [
      | true ↦ λ e. low_number_by text (base_of_letter (slice_index text 1)) refl (low_byte text 48 (omega arith) (omega arith) e)
      | false ↦ λ e. low_decimal text
    ] refl

-- ---- the end of a string

-- a row of bytes that ends in one of ASCII
record EndsLow (text : List ℕ) (len : ℕ) : Type 0 where
  least : 1 ≤ len
  within : len ≤ length text
  last : (k : ℕ) → len ≡ k + 1 → slice_index text k < 128

abbrev EndsIn : List ℕ → Option ℕ → Type 0
EndsIn text None = Unit {0}
EndsIn text (Some len) = EndsLow text len

ends_shift : (text : List ℕ) (n : ℕ) (o : Option ℕ) → EndsIn (drop n text) o → EndsIn text (option_map (λ more. n + more) o)
ends_shift text n None ends = tt
ends_shift text n (Some more) ends = record {
  least = omega (arith, ends.least);
  within = omega (arith, ends.least, ends.within, length-drop n text);
  last = λ k e.
      let at : slice_index (drop n text) (k - n) ≡ slice_index text k = get_or-drop n text (k - n) 0 ∙ ap (slice_index text) (omega (arith, e, ends.least)) in
      let here : slice_index (drop n text) (k - n) < 128 = ends.last (k - n) (omega (arith, e, ends.least)) in
      omega (arith, at, here);
}

nat_decides : (a b : ℕ) → (nat_eq a b ≡ true → a ≡ b) × (a ≡ b → nat_eq a b ≡ true)
nat_decides a b = (same_from_test a b, λ e. grind (arith, nat_tests))

starts_ends : (text quotes : List ℕ) → 0 < length quotes → IsLow quotes (length quotes) → starts_with nat_eq text quotes ≡ true → EndsLow text (length quotes)
starts_ends text quotes some low e =
    let is : text ≡ quotes ++ drop (length quotes) text = (starts_is nat_decides text quotes (starts_with nat_eq text quotes) refl).0 e in
    record {
      least = some;
      within = front_fits text quotes (drop (length quotes) text) is;
      last = λ k n.
          let at : slice_index text k ≡ slice_index quotes k = front_reads 0 text quotes (drop (length quotes) text) is k (omega (arith, n)) in
          let here : slice_index quotes k < 128 = low.low k (omega (arith, n)) in
          omega (arith, at, here);
    }

closed_ends : (count : ℕ) (quotes text : List ℕ) → 0 < length quotes → IsLow quotes (length quotes) → EndsIn text (string_rest_len count quotes text)
unfolding string_rest_len
closed_ends zero quotes text some low = tt
closed_ends (suc count) quotes [] some low = tt
closed_ends (suc count) quotes (byte ∷ rest) some low =
    let text : List ℕ = byte ∷ rest in
    let len : ℕ = unit_len text in
    elim (starts_with nat_eq text quotes) as (λ b. starts_with nat_eq text quotes ≡ b → EndsIn text (if b then Some (length quotes)
    else if is_cut_off quotes byte then None else option_map (λ more. len + more) (string_rest_len count quotes (drop len text)))) [
      | true ↦ λ e. starts_ends text quotes some low e
      | false ↦ λ e. elim (is_cut_off quotes byte) as (λ b. EndsIn text (if b then None else option_map (λ more. len + more) (string_rest_len count quotes (drop len text)))) [
        | true ↦ tt
        | false ↦ ends_shift text len (string_rest_len count quotes (drop len text)) (closed_ends count quotes (drop len text) some low)
      ]
    ] refl

quote_low : (byte : ℕ) → is_quote byte ≡ true → (0 < byte) × (byte < 128)
quote_low byte e =
    elim (either (byte == 39) (byte == 34) e) [
      | inl x ↦ let is : byte ≡ 39 = same_from_test byte 39 x in (omega (arith, is), omega (arith, is))
      | inr y ↦ let is : byte ≡ 34 = same_from_test byte 34 y in (omega (arith, is), omega (arith, is))
    ]

low_quotes : (text : List ℕ) → is_quote (slice_index text 0) ≡ true → IsLow text (quotes_len text)
low_quotes text quote =
    let first = quote_low (slice_index text 0) quote in
    let one : IsLow text 1 = low_one text first.0 first.1 in
    elim (slice_index text 1 == slice_index text 0 && slice_index text 2 == slice_index text 0) as (λ b.
    (slice_index text 1 == slice_index text 0 && slice_index text 2 == slice_index text 0) ≡ b → IsLow text (if b then 3 else 1)) [
      | true ↦ λ e.
          let parts = both (slice_index text 1 == slice_index text 0) (slice_index text 2 == slice_index text 0) e in
          let second : slice_index text 1 ≡ slice_index text 0 = same_from_test _ _ parts.0 in
          let third : slice_index text 2 ≡ slice_index text 0 = same_from_test _ _ parts.1 in
          low_three text (low_two text one (omega (arith, second, first.0)) (omega (arith, second, first.1))) (omega (arith, third, first.0)) (omega (arith, third, first.1))
      | false ↦ λ e. one
    ] refl

quotes_some : (text : List ℕ) → 1 ≤ quotes_len text
quotes_some text =
    elim (slice_index text 1 == slice_index text 0 && slice_index text 2 == slice_index text 0) as (λ b. 1 ≤ (if b then 3 else 1)) [ true ↦ omega arith | false ↦ omega arith ]

low_taken : (text : List ℕ) (n : ℕ) → IsLow text n → IsLow (take n text) (length (take n text))
low_taken text n front = record {
  within = omega arith;
  low = λ k l.
      let at : slice_index (take n text) k ≡ slice_index text k = get_or-take n text k 0 (omega (arith, l, length-take n text)) in
      let here : slice_index text k < 128 = front.low k (omega (arith, l, length-take n text)) in
      omega (arith, at, here);
}

string_ends : (text : List ℕ) → is_quote (slice_index text 0) ≡ true → EndsIn text (string_len text)
unfolding string_len
string_ends text quote =
    let n : ℕ = quotes_len text in
    let low : IsLow text n = low_quotes text quote in
    let inside : List ℕ = drop n text in
    ends_shift text n (string_rest_len (length inside) (take n text) inside)
    (closed_ends (length inside) (take n text) inside (omega (arith, length-take n text, low.within, quotes_some text)) (low_taken text n low))

-- ---- each lexeme

-- a lexeme of so many bytes: one at least, and the text may be cut after it
pub record IsLexeme (text : List ℕ) (len : ℕ) : Type 0 where
  pub least : 1 ≤ len
  pub boundary : IsCharBoundary text len

abbrev pub HasLexeme : List ℕ → FirstLexeme → Type 0
HasLexeme text (Ok front) = IsLexeme text front.1
HasLexeme text (Err fault) = Unit {0}

pub record TakesLexeme (text : List ℕ) (front : FirstLexeme) : Type 0 where
  pub lexeme : HasLexeme text front

choose : (text : List ℕ) (b : Bool) (x y : FirstLexeme) → (b ≡ true → TakesLexeme text x) → (b ≡ false → TakesLexeme text y) → TakesLexeme text (if b then x else y)
choose text true x y f g = f refl
choose text false x y f g = g refl

takes : (text : List ℕ) (p : Lexeme) (len : ℕ) → IsLexeme text len → TakesLexeme text (Ok (p, len))
takes text p len lexeme = record { lexeme = lexeme }

fails : (text : List ℕ) (fault : CutFault) → TakesLexeme text (Err fault)
fails text fault = record { lexeme = tt }

low_lexeme : (text : List ℕ) (n : ℕ) → IsUtf8 text → IsLow text n → 1 ≤ n → IsLexeme text n
low_lexeme text n utf8 front some = record { least = some; boundary = boundary_past text n utf8 front.within (λ k e. front.low k (omega (arith, e))) }

ends_lexeme : (text : List ℕ) (n : ℕ) → IsUtf8 text → EndsLow text n → IsLexeme text n
ends_lexeme text n utf8 ends = record { least = ends.least; boundary = boundary_past text n utf8 ends.within ends.last }

string_front_takes : (prefix : Prefix) (before : ℕ) (text : List ℕ) → IsUtf8 text → is_quote (slice_index text before) ≡ true → TakesLexeme text (string_front prefix before text)
unfolding string_front
string_front_takes prefix before text utf8 quote =
    let at : slice_index (drop before text) 0 ≡ slice_index text before = get_or-drop before text 0 0 ∙ ap (slice_index text) (add-zero before) in
    let ends : EndsIn (drop before text) (string_len (drop before text)) = string_ends (drop before text) (ap is_quote at ∙ quote) in
    elim (string_len (drop before text)) as (λ o. EndsIn text (option_map (λ more. before + more) o) → TakesLexeme text (string_of prefix before o text)) [
      | None ↦ λ _. fails text _
      | Some len ↦ λ ends. choose text (is_format prefix && has_open_field (take (before + len) text)) _ _ (λ _. fails text _) (λ _. takes text _ (before + len) (ends_lexeme text (before + len) utf8 ends))
    ] (ends_shift text before (string_len (drop before text)) ends)

scalars_drop : (n : ℕ) (cs : List ℕ) → scalars cs ≡ true → scalars (drop n cs) ≡ true
scalars_drop zero cs e = e
scalars_drop (suc n) [] e = refl
scalars_drop (suc n) (c ∷ cs) e = scalars_drop n cs (both _ _ e).1

name_start_continues : (c : ℕ) → is_name_start c ≡ true → is_xid_continue c ≡ true
name_start_continues c e =
    elim (either (is_xid_start c) (c == 95) e) [
      | inl start ↦ is_xid_start-is_xid_continue c start
      | inr underscore ↦ ap is_xid_continue (same_from_test c 95 underscore) ∙ is_xid_continue-ascii 95 (omega arith)
    ]

front_some : (cs : List ℕ) → is_name_start (slice_index cs 0) ≡ true → 1 ≤ front_len cs
front_some [] e = absurd (true≢false (sym e ∙ ap (λ b. b || false) (is_xid_start-ascii 0 (omega arith))))
front_some (c ∷ cs) e = rw (name_start_continues c e) (omega (arith, len_utf8_bounds c))

name_lexeme : (text : List ℕ) → IsUtf8 text → is_name_start (slice_index (chars text) 0) ≡ true → IsLexeme text (name_len text)
unfolding name_len
name_lexeme text utf8 start =
    let cs : List ℕ = chars text in
    let n : ℕ = prefix_len is_xid_continue cs in
    let parts : text ≡ encode_utf8_all (take n cs) ++ encode_utf8_all (drop n cs) =
    sym (encodes-chars text utf8) ∙ ap encode_utf8_all (sym (take-append-drop n cs)) ∙ encodes-append (take n cs) (drop n cs) in
    let rest : IsUtf8 (encode_utf8_all (drop n cs)) = (drop n cs, (scalars_drop n cs (scalars-chars text utf8), refl)) in
    record {
      least = omega (arith, name_len-front text, front_some cs start);
      boundary = IsCharBoundary-at_seam text (encode_utf8_all (take n cs)) (encode_utf8_all (drop n cs)) parts rest;
    }

name_takes : (text : List ℕ) → IsUtf8 text → is_name_start (slice_index (chars text) 0) ≡ true → TakesLexeme text (name_front text)
unfolding name_front
name_takes text utf8 start =
    let len : ℕ = name_len text in
    let lexeme : IsLexeme text len = name_lexeme text utf8 start in
    choose text (is_quote (slice_index text len)) _ _ (λ quote.
    elim (prefix_of (take len text)) as (λ o. TakesLexeme text (name_or_string o len text)) [
      | None ↦ takes text _ len lexeme
      | Some prefix ↦ string_front_takes prefix len text utf8 quote
    ]) (λ _. takes text _ len lexeme)

-- whether there are bytes of ASCII alone
abbrev all_low : List ℕ → Bool
all_low [] = true
all_low (b ∷ bs) = nat_lt b 128 && all_low bs

-- whether a spelling has a byte, and bytes of ASCII alone
abbrev is_spelling : List ℕ → Bool
is_spelling [] = false
is_spelling (b ∷ bs) = all_low (b ∷ bs)

all_low-IsLow : (bs : List ℕ) → all_low bs ≡ true → IsLow bs (length bs)
all_low-IsLow [] e = low_zero []
all_low-IsLow (b ∷ bs) e =
    let parts = both (nat_lt b 128) (all_low bs) e in
    let first : b < 128 = grind (arith, nat_tests, parts.0) in
    subst (IsLow (b ∷ bs)) (one-add (length bs)) (low_cons b bs (length bs) first (all_low-IsLow bs parts.1))

spelling_ends : (text spelling : List ℕ) → is_spelling spelling ≡ true → starts_with nat_eq text spelling ≡ true → EndsLow text (length spelling)
spelling_ends text [] e starts = cc
spelling_ends text (b ∷ bs) e starts = starts_ends text (b ∷ bs) (omega arith) (all_low-IsLow (b ∷ bs) e) starts

abbrev all_spellings : List (List ℕ × Kind) → Bool
all_spellings [] = true
all_spellings (entry ∷ table) = is_spelling entry.0 && all_spellings table

operator_in_takes : (table : List (List ℕ × Kind)) (text : List ℕ) → IsUtf8 text → all_spellings table ≡ true → TakesLexeme text (operator_front (operator_in table text))
operator_in_takes [] text utf8 spelled = fails text _
operator_in_takes (entry ∷ table) text utf8 spelled =
    let parts = both (is_spelling entry.0) (all_spellings table) spelled in
    elim (starts_with nat_eq text entry.0) as (λ b. starts_with nat_eq text entry.0 ≡ b
    → TakesLexeme text (operator_front (if b then Some (entry.1, length entry.0) else operator_in table text))) [
      | true ↦ λ e. takes text _ (length entry.0) (ends_lexeme text (length entry.0) utf8 (spelling_ends text entry.0 parts.0 e))
      | false ↦ λ e. operator_in_takes table text utf8 parts.1
    ] refl

operator_takes : (text : List ℕ) → IsUtf8 text → TakesLexeme text (operator_front (operator_at text))
unfolding operator_at operators
operator_takes text utf8 = operator_in_takes operators text utf8 refl

prefix_some : (p : ℕ → Bool) (text : List ℕ) → 0 < length text → p (slice_index text 0) ≡ true → 1 ≤ prefix_len p text
prefix_some p [] l e = absurd (omega (arith, l))
prefix_some p (byte ∷ rest) l e = rw e (omega arith)

blank_low : (b : ℕ) → is_blank b ≡ true → b < 128
blank_low b e = grind (arith, nat_tests)

line_end_low : (b : ℕ) → is_line_end b ≡ true → (0 < b) × (b < 128)
line_end_low b e =
    elim (either (b == 10) (b == 13) e) [
      | inl x ↦ let is : b ≡ 10 = same_from_test b 10 x in (omega (arith, is), omega (arith, is))
      | inr y ↦ let is : b ≡ 13 = same_from_test b 13 y in (omega (arith, is), omega (arith, is))
    ]

not_true : (b : Bool) → not b ≡ false → b ≡ true
not_true true e = refl
not_true false e = cc

comment_boundary : (text : List ℕ) → IsUtf8 text → IsCharBoundary text (prefix_len is_comment_byte text)
comment_boundary text utf8 =
    let n : ℕ = prefix_len is_comment_byte text in
    elim (cases_lt n (length text)) [
      | inl within ↦
          IsCharBoundary-before_ascii text n within (line_end_low (slice_index text n) (not_true (is_line_end (slice_index text n)) (prefix_len_stops is_comment_byte text 0 within))).1
      | inr past ↦ let all : length text ≡ n = omega (arith, past, prefix_len-le-length is_comment_byte text) in subst (IsCharBoundary text) all (IsCharBoundary-end text)
    ]

low_line_end : (text : List ℕ) → is_line_end (slice_index text 0) ≡ true → IsLow text (line_end_len text)
low_line_end text e =
    let first = line_end_low (slice_index text 0) e in
    let one : IsLow text 1 = low_one text first.0 first.1 in
    elim (slice_index text 0 == 13 && slice_index text 1 == 10) as (λ b. (slice_index text 0 == 13 && slice_index text 1 == 10) ≡ b → IsLow text (if b then 2 else 1)) [
      | true ↦ λ f.
          let second : slice_index text 1 ≡ 10 = same_from_test _ _ (both (slice_index text 0 == 13) (slice_index text 1 == 10) f).1 in
          low_two text one (omega (arith, second)) (omega (arith, second))
      | false ↦ λ f. one
    ] refl

line_end_some : (text : List ℕ) → 1 ≤ line_end_len text
line_end_some text = elim (slice_index text 0 == 13 && slice_index text 1 == 10) as (λ b. 1 ≤ (if b then 2 else 1)) [ true ↦ omega arith | false ↦ omega arith ]

joined_lexeme : (text : List ℕ) → IsUtf8 text → begins_line_join text ≡ true → IsLexeme text (1 + line_end_len (drop 1 text))
joined_lexeme text utf8 e =
    let parts = both (slice_index text 0 == 92) (is_line_end (slice_index text 1)) e in
    low_lexeme text (1 + line_end_len (drop 1 text)) utf8
    (low_add text 1 (line_end_len (drop 1 text)) (low_byte text 92 (omega arith) (omega arith) parts.0) (low_line_end (drop 1 text) (ap is_line_end (second_byte text) ∙ parts.1)))
    (omega arith)

-- a text that is UTF-8 may be cut after the lexeme at its front, which has a byte at least
pub cut_takes : (text : List ℕ) → IsUtf8 text → 0 < length text → TakesLexeme text (cut_first_lexeme text)
unfolding cut_first_lexeme
cut_takes text utf8 l =
    let first : ℕ = slice_index text 0 in
    choose text (is_blank first) _ _ (λ e. takes text _ _ (record { least = prefix_some is_blank text l e; boundary = boundary_past_prefix is_blank blank_low text utf8 })) (λ _.
    choose text (is_line_end first) _ _ (λ e. takes text _ _ (low_lexeme text (line_end_len text) utf8 (low_line_end text e) (line_end_some text))) (λ _.
    choose text (first == 35) _ _ (λ e. takes text _ _ (record { least = prefix_some is_comment_byte text l (ap is_comment_byte (same_from_test first 35 e)); boundary = comment_boundary text utf8 })) (λ _.
    choose text (begins_line_join text) _ _ (λ e. takes text _ _ (joined_lexeme text utf8 e)) (λ _.
    choose text (is_quote first) _ _ (λ e. string_front_takes prefix.Plain 0 text utf8 e) (λ _.
    choose text (begins_number text) _ _ (λ e. takes text _ _ (low_lexeme text (number_at text).1 utf8 (low_number text) (number_some text e))) (λ _.
    choose text (is_name_start (slice_index (chars text) 0)) _ _ (λ e. name_takes text utf8 e) (λ _.
    operator_takes text utf8)))))))

-- a lexeme and its length, from what is cut
pub cut_lexeme : (text : List ℕ) (p : Lexeme) (len : ℕ) → IsUtf8 text → 0 < length text → cut_first_lexeme text ≡ Ok (p, len) → IsLexeme text len
cut_lexeme text p len utf8 l e = (subst (TakesLexeme text) e (cut_takes text utf8 l)).lexeme
