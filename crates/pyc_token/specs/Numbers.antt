-- Numbers (Python reference, lexical analysis, "Numeric literals").
use Rattle.std.specs.Prelude.{ℕ, ◌+◌, Bool, ◌||◌, ◌&&◌, ◌==◌, nat_le, nat_lt, if◌then◌else◌, List, [], ◌∷◌, drop}
use Rattle.std.specs.Prelude.{slice_index, Option, None, Some}
use Rattle.std.specs.Char.{is_ascii_hexdigit}
use Rattle.pyc_token.specs.declared.numbers.Base.{Base}
use Rattle.pyc_token.specs.declared.numbers.Base.TheVariants as base
use Rattle.pyc_token.specs.declared.tokens.Number.{Number}
use Rattle.pyc_token.specs.declared.tokens.Number.TheVariants as number
use Rattle.pyc_token.specs.Characters.{is_digit}

-- a digit of a base
abbrev pub is_digit_of : Base → ℕ → Bool
is_digit_of base.Two byte = byte == 48 || byte == 49
is_digit_of base.Eight byte = nat_le 48 byte && nat_le byte 55
is_digit_of base.Ten byte = is_digit byte
is_digit_of base.Sixteen byte = is_ascii_hexdigit byte

-- how many bytes a row of digits takes in which an underscore may stand before each digit
abbrev pub digit_row_len : Base → List ℕ → ℕ
digit_row_len base [] = 0
digit_row_len base (byte ∷ rest) =
    if is_digit_of base byte || byte == 95 && is_digit_of base (slice_index rest 0) then 1 + digit_row_len base rest
    else 0

-- how many bytes decimal digits take, with single underscores between them
abbrev pub digits_len : List ℕ → ℕ
digits_len text = if is_digit (slice_index text 0) then digit_row_len base.Ten text else 0

-- the base that a letter after a leading zero names
abbrev pub base_of_letter : ℕ → Option Base
base_of_letter byte =
    if byte == 120 || byte == 88 then Some base.Sixteen
    else if byte == 111 || byte == 79 then Some base.Eight
    else if byte == 98 || byte == 66 then Some base.Two
    else None

-- how many bytes a point and the digits after it take, or 0 where there is no point
abbrev pub fraction_len : List ℕ → ℕ
fraction_len text = if slice_index text 0 == 46 then 1 + digits_len (drop 1 text) else 0

-- how many bytes the sign of an exponent takes
abbrev pub sign_len : List ℕ → ℕ
sign_len text = if slice_index text 0 == 43 || slice_index text 0 == 45 then 1 else 0

-- how many bytes the letter of an exponent, its sign and its digits take, or 0 where no digit follows
abbrev pub exponent_after : ℕ → List ℕ → ℕ
exponent_after before text = let digits = digits_len text in if nat_lt 0 digits then before + digits else 0

-- how many bytes an exponent takes, or 0 where there is none
abbrev pub exponent_len : List ℕ → ℕ
exponent_len text =
    if slice_index text 0 == 101 || slice_index text 0 == 69
    then exponent_after (1 + sign_len (drop 1 text)) (drop (1 + sign_len (drop 1 text)) text)
    else 0

-- how many bytes the letter of an imaginary number takes
abbrev pub imaginary_len : List ℕ → ℕ
imaginary_len text = if slice_index text 0 == 106 || slice_index text 0 == 74 then 1 else 0

-- what a number is, from the lengths of its fraction and exponent and of its letter
abbrev pub number_of : ℕ → ℕ → Number
number_of part letter =
    if nat_lt 0 letter then number.Imaginary else if nat_lt 0 part then number.Float else number.Integer

-- a decimal number at the front and its length: digits, a fraction, an exponent and a letter, where they are there
unfoldable pub decimal_number : List ℕ → Number × ℕ
decimal_number text =
    let whole = digits_len text in
    let after_whole = drop whole text in
    let fraction = fraction_len after_whole in
    let after_fraction = drop fraction after_whole in
    let exponent = exponent_len after_fraction in
    let letter = imaginary_len (drop exponent after_fraction) in
    (number_of (fraction + exponent) letter, whole + fraction + exponent + letter)

-- a number of a named base and its length, where digits follow
abbrev pub number_in : Base → List ℕ → Number × ℕ
number_in base text =
    let digits = digit_row_len base (drop 2 text) in if nat_lt 0 digits then (number.Integer, 2 + digits)
    else decimal_number text

-- the number at the front, by the base that its second byte names
abbrev pub number_by : Option Base → List ℕ → Number × ℕ
number_by (Some base) text = number_in base text
number_by None text = decimal_number text

-- the number at the front and its length in bytes
unfoldable pub number_at : List ℕ → Number × ℕ
number_at text = if slice_index text 0 == 48 then number_by (base_of_letter (slice_index text 1)) text
    else decimal_number text
