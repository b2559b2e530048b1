-- The codes of an ignore comment are spans of the text.
use Rattle.std.proofs.Common.{◌≡◌, ◌≤◌, ◌<◌, ◌+◌, ◌-◌, ◌==◌, not, nat_eq, ℕ, zero, suc, Bool, true, false, true≢false, if◌then◌else◌, List, [], ◌∷◌, ◌++◌, length, take, drop, reverse, slice_index, slice_range, codes, IsUtf8, IsCharBoundary, Option, Some, None, Ok, Err, option_map, option_and_then, refl, sym, ap, subst, ◌∙◌, arith, inl, inr, append_assoc, length-append, length-take, length-drop, get_or-drop}
use Rattle.std.proofs.lemmas.Bool.Decides.{nat_tests}
use Rattle.std.proofs.lemmas.List.{append-nil, take-append-drop, length-reverse, get_or-reverse, get_or_past}
use Rattle.std.proofs.lemmas.List.Elements.{All-nil, All-cons, All-append}
use Rattle.std.proofs.lemmas.List.Prefix.{front_reads, front_fits}
use Rattle.std.proofs.lemmas.List.Sums.{prefix_len_passes, prefix_len_stops, prefix_len-le-length}
use Rattle.std.proofs.lemmas.Bool.{cases_lt}
use Rattle.std.proofs.lemmas.Slice.Eq.{starts_is}
use Rattle.std.proofs.lemmas.Str.{IsUtf8-take, IsUtf8-drop, IsCharBoundary-end, IsCharBoundary-before_ascii, IsCharBoundary-after_ascii}
use Rattle.std.specs.List.{All, prefix_len, starts_with}
use Rattle.pyc_token.specs.declared.lexeme.Lexeme.{Lexeme}
use Rattle.pyc_token.specs.declared.lexeme.Lexeme.TheVariants as lexeme
use Rattle.pyc_token.specs.declared.tokens.Span.{Span}
use Rattle.pyc_token.specs.Cuts.{cut_first_lexeme, cut_off, left_of, cuts, cuts_up_to}
use Rattle.pyc_token.proofs.BoundaryLemmas.{boundary_past, boundary_past_prefix}
use Rattle.pyc_token.proofs.CutLemmas.{HasLexeme, cut_takes}
use Rattle.pyc_lex.specs.Ignores.{Codes, all, listed, IgnoreAt, is_space, is_list_byte, is_code_byte, trim_spaces, codes_at, ends_ignore, codes_in_brackets, codes_after, after_word, after_spaces, suppressed}
use Rattle.pyc_lex.specs.Indents.{columns_after}
use Rattle.pyc_lex.specs.Lines.{Reading, Lexis, start_at, is_empty, and_then, step, read, line_ended, measured, with_ignore, end_met, front_joined, finished, mark_len, lexemes_of}
use Rattle.pyc_lex.specs.Texts.{IsTextSpan, listed_spans}
use Rattle.pyc_lex.proofs.MarkLemmas.{nat_decides, mark_boundary}
use Rattle.pyc_lex.proofs.ReadLemmas.{and_then-ok, Follows, step-follows, from-step}
use Rattle.pyc_lex.proofs.TextLemmas.{StandsAt, slice_from_place, end_from_place, met_fault, finished_lexis}

-- these bytes of a source, a text, stand at a position
pub record IsPart (source : List ℕ) (from : ℕ) (text : List ℕ) : Type 0 where
  pub front : List ℕ
  pub rest : List ℕ
  pub parts : source ≡ front ++ (text ++ rest)
  pub position : length front ≡ from
  pub utf8 : IsUtf8 text

module _ (source : List ℕ) (from : ℕ) (text : List ℕ) (p : IsPart source from text) (n : ℕ) (b : IsCharBoundary text n) where
  cut_parts : source ≡ p.front ++ (take n text ++ (drop n text ++ p.rest))
  cut_parts =
      p.parts ∙ ap (λ (z : List ℕ). p.front ++ z)
      (ap (λ (z : List ℕ). z ++ p.rest) (sym (take-append-drop n text)) ∙ append_assoc (take n text) (drop n text) p.rest)

  pub part_take : IsPart source from (take n text)
  part_take = record { front = p.front; rest = drop n text ++ p.rest; parts = cut_parts; position = p.position; utf8 = IsUtf8-take text n p.utf8 b }

  pub part_drop : IsPart source (from + n) (drop n text)
  part_drop = record {
    front = p.front ++ take n text;
    rest = p.rest;
    parts = cut_parts ∙ sym (append_assoc p.front (take n text) (drop n text ++ p.rest));
    position = omega (arith, length-append p.front (take n text), length-take n text, p.position, b.0);
    utf8 = IsUtf8-drop text n p.utf8 b;
  }

-- a part with a byte is a span of the text
pub part_span : (source : List ℕ) (from end : ℕ) (text : List ℕ) → IsPart source from text → 0 < length text → end ≡ from + length text
    → IsTextSpan source (record { start = from; end = end })
part_span source from end text p some is =
    let at : StandsAt source from text = record { front = p.front; rest = p.rest; parts = p.parts; position = p.position; utf8 = p.utf8; some = some } in
    record {
      not_empty = omega (arith, some, is);
      within = omega (arith, is, end_from_place source text from at);
      is_utf8 = subst (λ (n : ℕ). IsUtf8 (slice_range source from n)) (sym is) (subst IsUtf8 (sym (slice_from_place source text from at)) p.utf8);
    }

same_byte : (m n : ℕ) → (m == n) ≡ true → m ≡ n
same_byte m n e = grind (arith, nat_tests)

space_low : (b : ℕ) → is_space b ≡ true → b < 128
space_low b e = let is : b ≡ 32 = same_byte b 32 e in omega (arith, is)

module _ (source : List ℕ) (from : ℕ) (text : List ℕ) (p : IsPart source from text) where
  abbrev lead : ℕ
  lead = prefix_len is_space text

  abbrev trail : ℕ
  trail = prefix_len is_space (reverse text)

  lead_within : (lead == length text) ≡ false → lead < length text
  lead_within e = let most : lead ≤ length text = prefix_len-le-length is_space text in grind (arith, nat_tests, most, e)

  -- the byte after the spaces at the front is none, so the spaces at the end begin after it
  ends_apart : lead < length text → lead < length text - trail
  ends_apart within =
      let most : trail ≤ length (reverse text) = prefix_len-le-length is_space (reverse text) in
      let other : is_space (slice_index text lead) ≡ false = prefix_len_stops is_space text 0 within in
      elim (cases_lt (length text - 1 - lead) trail) [
        | inl inside ↦
            let space : is_space (slice_index (reverse text) (length text - 1 - lead)) ≡ true = prefix_len_passes is_space (reverse text) (length text - 1 - lead) 0 inside in
            let turned : slice_index (reverse text) (length text - 1 - lead) ≡ slice_index text (length text - 1 - (length text - 1 - lead)) =
            get_or-reverse text (length text - 1 - lead) 0 (omega (arith, within)) in
            let place : length text - 1 - (length text - 1 - lead) ≡ lead = omega (arith, within) in
            absurd (true≢false (sym space ∙ (ap is_space (turned ∙ ap (slice_index text) place) ∙ other)))
        | inr past ↦ omega (arith, past, within, most, length-reverse text)
      ]

  end_boundary : lead < length text → IsCharBoundary (drop lead text) (length text - trail - lead)
  end_boundary within = elim (cases_lt 0 trail) [
    | inl some ↦
        let apart = ends_apart within in
        let most : trail ≤ length (reverse text) = prefix_len-le-length is_space (reverse text) in
        let end : ℕ = length text - trail in
        let space : is_space (slice_index (reverse text) (trail - 1)) ≡ true = prefix_len_passes is_space (reverse text) (trail - 1) 0 (omega (arith, some)) in
        let turned : slice_index (reverse text) (trail - 1) ≡ slice_index text (length text - 1 - (trail - 1)) =
        get_or-reverse text (trail - 1) 0 (omega (arith, some, most, length-reverse text)) in
        let place : length text - 1 - (trail - 1) ≡ lead + (end - lead) = omega (arith, some, apart) in
        let byte : slice_index (drop lead text) (end - lead) ≡ slice_index (reverse text) (trail - 1) =
        get_or-drop lead text (end - lead) 0 ∙ sym (turned ∙ ap (slice_index text) place) in
        IsCharBoundary-before_ascii (drop lead text) (end - lead) (omega (arith, some, apart, length-drop lead text, most, length-reverse text))
        (space_low (slice_index (drop lead text) (end - lead)) (ap is_space byte ∙ space))
    | inr none ↦
        let all : length (drop lead text) ≡ length text - trail - lead = omega (arith, none, length-drop lead text) in
        subst (IsCharBoundary (drop lead text)) all (IsCharBoundary-end (drop lead text))
  ]

  trimmed_part : lead < length text → IsTextSpan source (record { start = from + lead; end = from + (length text - trail) })
  trimmed_part within =
      let apart = ends_apart within in
      let inner : IsPart source (from + lead) (drop lead text) = part_drop source from text p lead (boundary_past_prefix is_space space_low text p.utf8) in
      let kept = part_take source (from + lead) (drop lead text) inner (length text - trail - lead) (end_boundary within) in
      let size = length-take (length text - trail - lead) (drop lead text) in
      let left = length-drop lead text in
      part_span source (from + lead) (from + (length text - trail)) (take (length text - trail - lead) (drop lead text)) kept
      (omega (arith, apart, size, left)) (omega (arith, apart, size, left))

  -- a code without the spaces at its ends
  pub trim_spaces_span : (span : Span) → trim_spaces from text ≡ Some span → IsTextSpan source span
  trim_spaces_span span e =
      elim (lead == length text) as (λ b. (lead == length text) ≡ b → (if b then None else Some (record { start = from + lead; end = from + (length text - trail) })) ≡ Some span → IsTextSpan source span) [
        | true ↦ λ is none. absurd (cc)
        | false ↦ λ is some. let same : record { start = from + lead; end = from + (length text - trail) } ≡ span = cc in subst (IsTextSpan source) same (trimmed_part (lead_within is))
      ] refl e

-- ---- the codes of a list

not_code : (b : ℕ) → is_code_byte b ≡ false → b ≡ 44
not_code b e = elim (b == 44) as (λ t. (b == 44) ≡ t → not t ≡ false → b ≡ 44) [
  | true ↦ λ is _. same_byte b 44 is
  | false ↦ λ _ none. absurd (true≢false none)
] refl e

comma_low : (text : List ℕ) → prefix_len is_code_byte text < length text → slice_index text (prefix_len is_code_byte text) < 128
comma_low text within =
    let is : slice_index text (prefix_len is_code_byte text) ≡ 44 = not_code (slice_index text (prefix_len is_code_byte text)) (prefix_len_stops is_code_byte text 0 within) in
    omega (arith, is)

code_boundary : (text : List ℕ) → IsUtf8 text → IsCharBoundary text (prefix_len is_code_byte text)
code_boundary text utf8 =
    let n : ℕ = prefix_len is_code_byte text in
    elim (cases_lt n (length text)) [
      | inl within ↦ IsCharBoundary-before_ascii text n within (comma_low text within)
      | inr past ↦ let all : length text ≡ n = omega (arith, past, prefix_len-le-length is_code_byte text) in subst (IsCharBoundary text) all (IsCharBoundary-end text)
    ]

-- the codes after a comma
after_comma : (source : List ℕ) (from : ℕ) (text : List ℕ) → IsPart source from text → prefix_len is_code_byte text < length text
    → IsPart source (from + prefix_len is_code_byte text + 1) (drop (prefix_len is_code_byte text + 1) text)
after_comma source from text p within =
    let n : ℕ = prefix_len is_code_byte text in
    let place : from + (n + 1) ≡ from + n + 1 = omega arith in
    subst (λ (at : ℕ). IsPart source at (drop (n + 1) text)) place
    (part_drop source from text p (n + 1) (IsCharBoundary-after_ascii text n p.utf8 within (comma_low text within)))

-- what one code is, before those after it
one_code : (source text : List ℕ) (spans : List Span) (len : ℕ) (code : Span) (rest : Option (List Span)) → len ≤ length text → IsTextSpan source code
    → (len < length text → (later : List Span) → rest ≡ Some later → All (IsTextSpan source) later)
    → (if len == length text then Some (code ∷ []) else option_map (λ later. code ∷ later) rest) ≡ Some spans → All (IsTextSpan source) spans
one_code source text spans len code rest most is each e =
    elim (len == length text) as (λ b. (len == length text) ≡ b → (if b then Some (code ∷ []) else option_map (λ later. code ∷ later) rest) ≡ Some spans → All (IsTextSpan source) spans) [
      | true ↦ λ _ e.
          let same : code ∷ [] ≡ spans = cc in
          subst (All (IsTextSpan source)) same (All-cons (IsTextSpan source) code [] is (All-nil (IsTextSpan source)))
      | false ↦ λ other e. by_rest rest (each (grind (arith, nat_tests, most, other))) e
    ] refl e
  where
    by_rest : (o : Option (List Span)) → ((later : List Span) → o ≡ Some later → All (IsTextSpan source) later)
        → option_map (λ later. code ∷ later) o ≡ Some spans → All (IsTextSpan source) spans
    by_rest None each e = absurd (cc)
    by_rest (Some later) each e =
        let same : code ∷ later ≡ spans = cc in
        subst (All (IsTextSpan source)) same (All-cons (IsTextSpan source) code later is (each later refl))

-- what a first code is, before those after it
first_code : (source text : List ℕ) (from : ℕ) (spans : List Span) (rest : Option (List Span)) → IsPart source from text
    → (prefix_len is_code_byte text < length text → (later : List Span) → rest ≡ Some later → All (IsTextSpan source) later)
    → (o : Option Span) → trim_spaces from (take (prefix_len is_code_byte text) text) ≡ o
    → option_and_then (λ code. if prefix_len is_code_byte text == length text then Some (code ∷ []) else option_map (λ later. code ∷ later) rest) o ≡ Some spans
    → All (IsTextSpan source) spans
first_code source text from spans rest p each None _ e = absurd (cc)
first_code source text from spans rest p each (Some code) is e =
    let n : ℕ = prefix_len is_code_byte text in
    one_code source text spans n code rest (prefix_len-le-length is_code_byte text)
    (trim_spaces_span source from (take n text) (part_take source from text p n (code_boundary text p.utf8)) code is) each e

-- the codes of a list
codes_spans : (source : List ℕ) (count from : ℕ) (text : List ℕ) (spans : List Span) → IsPart source from text → codes_at count from text ≡ Some spans
    → All (IsTextSpan source) spans
unfolding codes_at
codes_spans source zero from text spans p e = absurd (cc)
codes_spans source (suc count) from text spans p e =
    let n : ℕ = prefix_len is_code_byte text in
    first_code source text from spans (codes_at count (from + n + 1) (drop (n + 1) text)) p
    (λ within later got. codes_spans source count (from + n + 1) (drop (n + 1) text) later (after_comma source from text p within) got)
    (trim_spaces from (take n text)) refl e

-- ---- the codes of a comment

-- a byte that is not the default is within
byte_within : (text : List ℕ) (n byte : ℕ) → 0 < byte → slice_index text n ≡ byte → n < length text
byte_within text n byte some is = elim (cases_lt n (length text)) [
  | inl within ↦ within
  | inr past ↦ absurd (omega (arith, some, is, get_or_past text n 0 past))
]

-- the codes of a comment, where it lists some
listed_found : (source : List ℕ) (o : Option (List Span)) (found : Codes) → ((spans : List Span) → o ≡ Some spans → All (IsTextSpan source) spans)
    → option_map listed o ≡ Some found → All (IsTextSpan source) (listed_spans found)
listed_found source None found each e = absurd (cc)
listed_found source (Some spans) found each e =
    let same : listed spans ≡ found = cc in
    subst (λ (c : Codes). All (IsTextSpan source) (listed_spans c)) same (each spans refl)

-- what a test lets pass
when_true : {A : Type 0} (test : Bool) (o : Option A) (a : A) → (if test then o else None) ≡ Some a → (test ≡ true) × (o ≡ Some a)
when_true true o a e = (refl, e)
when_true false o a e = absurd (cc)

-- the codes in brackets at the front of a part
listed_within : (source : List ℕ) (from : ℕ) (text : List ℕ) (found : Codes) → IsPart source from text → slice_index text 0 ≡ 91 → codes_in_brackets from text ≡ Some found
    → All (IsTextSpan source) (listed_spans found)
listed_within source from text found p opens e =
    let inside : List ℕ = drop 1 text in
    let len : ℕ = prefix_len is_list_byte inside in
    let inner : IsPart source (from + 1) inside =
    part_drop source from text p 1 (IsCharBoundary-after_ascii text 0 p.utf8 (byte_within text 0 91 (omega arith) opens) (omega (arith, opens))) in
    let closed = when_true (slice_index inside len == 93)
    (if ends_ignore (drop (len + 1) inside) then option_map listed (codes_at (len + 1) (from + 1) (take len inside)) else None) found e in
    let ended = when_true (ends_ignore (drop (len + 1) inside)) (option_map listed (codes_at (len + 1) (from + 1) (take len inside))) found closed.1 in
    let closes : slice_index inside len ≡ 93 = same_byte (slice_index inside len) 93 closed.0 in
    let boundary : IsCharBoundary inside len =
    IsCharBoundary-before_ascii inside len (byte_within inside len 93 (omega arith) closes) (omega (arith, closes)) in
    listed_found source (codes_at (len + 1) (from + 1) (take len inside)) found
    (λ spans got. codes_spans source (len + 1) (from + 1) (take len inside) spans (part_take source (from + 1) inside inner len boundary) got) ended.1

-- the codes that follow `ignore`
codes_within : (source : List ℕ) (from : ℕ) (text : List ℕ) (found : Codes) → IsPart source from text → codes_after from text ≡ Some found
    → All (IsTextSpan source) (listed_spans found)
codes_within source from text found p e =
    elim (slice_index text 0 == 91) as (λ b. (slice_index text 0 == 91) ≡ b → (if b then codes_in_brackets from text else if ends_ignore text then Some all else None) ≡ Some found
    → All (IsTextSpan source) (listed_spans found)) [
      | true ↦ λ opens e. listed_within source from text found p (same_byte (slice_index text 0) 91 opens) e
      | false ↦ λ _ e.
          let ended = when_true (ends_ignore text) (Some all) found e in
          let same : all ≡ found = cc in
          subst (λ (c : Codes). All (IsTextSpan source) (listed_spans c)) same (All-nil (IsTextSpan source))
    ] refl e

-- what follows the spaces at the front of a part
spaces_part : (source : List ℕ) (at : ℕ × List ℕ) → IsPart source at.0 at.1 → IsPart source (after_spaces at).0 (after_spaces at).1
spaces_part source at p = part_drop source at.0 at.1 p (prefix_len is_space at.1) (boundary_past_prefix is_space space_low at.1 p.utf8)

-- a text that begins with a word
record BeginsWith (word text : List ℕ) : Type 0 where
  within : length word ≤ length text
  reads : (k : ℕ) → k < length word → slice_index text k ≡ slice_index word k

begins_with : (word text : List ℕ) → starts_with nat_eq text word ≡ true → BeginsWith word text
begins_with word text e =
    let is : text ≡ word ++ drop (length word) text = (starts_is nat_decides text word (starts_with nat_eq text word) refl).0 e in
    record {
      within = front_fits text word (drop (length word) text) is;
      reads = λ k within. front_reads 0 text word (drop (length word) text) is k within;
    }

-- what follows a word, whose last byte is of ASCII, at the front of a part
word_part : (source word : List ℕ) (at next : ℕ × List ℕ) → ((k : ℕ) → length word ≡ k + 1 → slice_index word k < 128) → IsPart source at.0 at.1
    → after_word word at ≡ Some next → IsPart source next.0 next.1
word_part source word at next low p e =
    let found = when_true (starts_with nat_eq at.1 word) (Some (at.0 + length word, drop (length word) at.1)) next e in
    let begins = begins_with word at.1 found.0 in
    let same : (at.0 + length word, drop (length word) at.1) ≡ next = cc (found.1) in
    let boundary : IsCharBoundary at.1 (length word) = boundary_past at.1 (length word) p.utf8 begins.within (λ k n.
    let here : slice_index word k < 128 = low k n in
    let at : slice_index at.1 k ≡ slice_index word k = begins.reads k (omega (arith, n)) in
    omega (arith, here, at)) in
    subst (λ (x : ℕ × List ℕ). IsPart source x.0 x.1) same (part_drop source at.0 at.1 p (length word) boundary)

colon_low : (k : ℕ) → length (codes "type:") ≡ k + 1 → slice_index (codes "type:") k < 128
colon_low k n = let is : k ≡ 4 = omega (arith, n) in rw is (omega arith)

e_low : (k : ℕ) → length (codes "ignore") ≡ k + 1 → slice_index (codes "ignore") k < 128
e_low k n = let is : k ≡ 5 = omega (arith, n) in rw is (omega arith)

-- what goes on with spaces and a word of ASCII may be cut before them
word_boundary : (comment : List ℕ) → starts_with nat_eq (after_spaces (1, drop 1 comment)).1 (codes "type:") ≡ true → IsCharBoundary comment 1
word_boundary comment e =
    let rest : List ℕ = drop 1 comment in
    let lead : ℕ = prefix_len is_space rest in
    let begins = begins_with (codes "type:") (drop lead rest) e in
    let first : slice_index comment 1 ≡ slice_index rest 0 = sym (get_or-drop 1 comment 0 0) in
    let some : 1 < length comment = omega (arith, begins.within, length-drop lead rest, length-drop 1 comment) in
    elim (cases_lt 0 lead) [
      | inl spaced ↦
          let space : slice_index rest 0 < 128 = space_low (slice_index rest 0) (prefix_len_passes is_space rest 0 0 spaced) in
          IsCharBoundary-before_ascii comment 1 some (omega (arith, first, space))
      | inr none ↦
          let here : slice_index (drop lead rest) 0 ≡ slice_index rest lead = get_or-drop lead rest 0 0 ∙ ap (slice_index rest) (omega arith) in
          let letter : slice_index (drop lead rest) 0 ≡ 116 = begins.reads 0 (omega arith) in
          let zero_lead : lead ≡ 0 = omega (arith, none) in
          let place : slice_index rest lead ≡ slice_index rest 0 = ap (slice_index rest) zero_lead in
          IsCharBoundary-before_ascii comment 1 some (omega (arith, first, here, letter, place))
    ]

-- what an option that is read on from gave
and_then_some : {A B : Type 0} (f : A → Option B) (o : Option A) (b : B) → option_and_then f o ≡ Some b → (a : A) × (o ≡ Some a) × (f a ≡ Some b)
and_then_some f None b e = absurd (cc)
and_then_some f (Some a) b e = (a, refl, e)

-- the codes of an ignore comment
pub suppressed_spans : (source : List ℕ) (from : ℕ) (comment : List ℕ) (found : Codes) → IsPart source from comment → suppressed from comment ≡ Some found
    → All (IsTextSpan source) (listed_spans found)
unfolding suppressed
suppressed_spans source from comment found p e =
    let start : ℕ × List ℕ = (from + 1, drop 1 comment) in
    let first = and_then_some (λ kind. option_and_then (λ word. codes_after word.0 word.1) (after_word (codes "ignore") (after_spaces kind)))
    (after_word (codes "type:") (after_spaces start)) found e in
    let second = and_then_some (λ word. codes_after word.0 word.1) (after_word (codes "ignore") (after_spaces first.0)) found first.2 in
    let begun = when_true (starts_with nat_eq (after_spaces start).1 (codes "type:"))
    (Some ((after_spaces start).0 + length (codes "type:"), drop (length (codes "type:")) (after_spaces start).1)) first.0 first.1 in
    let opened : IsPart source start.0 start.1 = part_drop source from comment p 1 (word_boundary comment begun.0) in
    let kind : IsPart source first.0.0 first.0.1 = word_part source (codes "type:") (after_spaces start) first.0 colon_low (spaces_part source start opened) first.1 in
    let word : IsPart source second.0.0 second.0.1 =
    word_part source (codes "ignore") (after_spaces first.0) second.0 e_low (spaces_part source first.0 kind) second.1 in
    codes_within source second.0.0 second.0.1 found word second.2

-- ---- all ignore comments

-- the codes of some ignore comments are spans of a text
abbrev pub AreCodes : List ℕ → List IgnoreAt → Type 0
AreCodes source ignores = All (λ ignore. All (IsTextSpan source) (listed_spans ignore.codes)) ignores

same_codes : (source : List ℕ) (r next : Reading) → r.lexis.ignores ≡ next.lexis.ignores → AreCodes source r.lexis.ignores → AreCodes source next.lexis.ignores
same_codes source r next same kept = subst (AreCodes source) same kept

ignores-measured : (r : Reading) (text : List ℕ) → (measured r text).lexis.ignores ≡ r.lexis.ignores
ignores-measured r text =
    elim r.is_measuring as (λ b. (if b then record r { margin = columns_after r.margin text } else r).lexis.ignores ≡ r.lexis.ignores) [ true ↦ refl | false ↦ refl ]

ignores-end_met : (r : Reading) → (end_met r).lexis.ignores ≡ r.lexis.ignores
ignores-end_met r = elim (is_empty r.brackets) as (λ b. (if b then line_ended r else r).lexis.ignores ≡ r.lexis.ignores) [ true ↦ refl | false ↦ refl ]

ignores-front_joined : (r : Reading) → (front_joined r).lexis.ignores ≡ r.lexis.ignores
ignores-front_joined r =
    elim (r.margin.wide == 0) as (λ b. (if b then r else record r { is_measuring = false }).lexis.ignores ≡ r.lexis.ignores) [ true ↦ refl | false ↦ refl ]

-- one more ignore comment
codes_ignored : (source : List ℕ) (r : Reading) (o : Option Codes) → ((found : Codes) → o ≡ Some found → All (IsTextSpan source) (listed_spans found))
    → AreCodes source r.lexis.ignores → AreCodes source (with_ignore r o).lexis.ignores
codes_ignored source r None each kept = kept
codes_ignored source r (Some found) each kept =
    let P : IgnoreAt → Type 0 = λ ignore. All (IsTextSpan source) (listed_spans ignore.codes) in
    let ignore : IgnoreAt = record { line = r.position.line; codes = found } in
    All-append P r.lexis.ignores (ignore ∷ []) kept (All-cons P ignore [] (each found refl) (All-nil P))

codes_follow : (source : List ℕ) (r : Reading) (p : Lexeme) (text : List ℕ) (next : Reading) → IsPart source r.from text → Follows r p text next
    → AreCodes source r.lexis.ignores → AreCodes source next.lexis.ignores
codes_follow source r lexeme.Name text next at f kept = same_codes source r next (ap (λ (s : Reading). s.lexis.ignores) (sym f.is)) kept
codes_follow source r (lexeme.Token kind) text next at f kept = same_codes source r next (ap (λ (s : Reading). s.lexis.ignores) (sym f.is)) kept
codes_follow source r lexeme.Blank text next at f kept =
    same_codes source r next (sym (ignores-measured r text) ∙ ap (λ (s : Reading). s.lexis.ignores) (sym f)) kept
codes_follow source r lexeme.Comment text next at f kept =
    subst (λ (s : Reading). AreCodes source s.lexis.ignores) (sym f)
    (codes_ignored source r (suppressed r.from text) (λ found e. suppressed_spans source r.from text found at e) kept)
codes_follow source r lexeme.LineEnd text next at f kept =
    same_codes source r next (sym (ignores-end_met r) ∙ ap (λ (s : Reading). s.lexis.ignores) (sym f)) kept
codes_follow source r lexeme.Joined text next at f kept =
    same_codes source r next (sym (ignores-front_joined r) ∙ ap (λ (s : Reading). s.lexis.ignores) (sym f)) kept

codes_read : (source : List ℕ) (turns : ℕ) (r out : Reading) (text : List ℕ) → IsPart source r.from text → AreCodes source r.lexis.ignores
    → read r (cuts_up_to turns text) ≡ Ok out → AreCodes source out.lexis.ignores
unfolding read cuts_up_to
codes_read source zero r out text p kept e = same_codes source r out (cc) kept
codes_read source (suc turns) r out [] p kept e = same_codes source r out (cc) kept
codes_read source (suc turns) r out (byte ∷ text) p kept e =
    elim (cut_first_lexeme (byte ∷ text)) as (λ f. HasLexeme (byte ∷ text) f → read r (cut_off f (byte ∷ text) ∷ cuts_up_to turns (left_of f (byte ∷ text))) ≡ Ok out
    → AreCodes source out.lexis.ignores) [
      | Ok f ↦ λ lexeme done.
          let taken : List ℕ = take f.1 (byte ∷ text) in
          let left : List ℕ = drop f.1 (byte ∷ text) in
          let at : IsPart source r.from taken = part_take source r.from (byte ∷ text) p f.1 lexeme.boundary in
          let got = and_then-ok (step r f.0 taken) (λ next. read next (cuts_up_to turns left)) out done in
          let size : length taken ≡ f.1 = omega (arith, length-take f.1 (byte ∷ text), lexeme.boundary.0) in
          let moved : r.from + f.1 ≡ got.0.from = omega (arith, size, from-step r f.0 taken got.0 got.1) in
          let rest : IsPart source got.0.from left = subst (λ (n : ℕ). IsPart source n left) moved (part_drop source r.from (byte ∷ text) p f.1 lexeme.boundary) in
          codes_read source turns got.0 out left rest (codes_follow source r f.0 taken got.0 at (step-follows r f.0 taken got.0 got.1) kept) got.2
      | Err fault ↦ λ lexeme done. absurd (met_fault r out fault done)
    ] (cut_takes (byte ∷ text) p.utf8 (omega arith)).lexeme e

-- the codes of a source's ignore comments are spans of the source
pub codes_of_lexis : (source : List ℕ) (lexis : Lexis) → IsUtf8 source → and_then (read (start_at (mark_len source)) (lexemes_of source)) finished ≡ Ok lexis
    → AreCodes source lexis.ignores
unfolding lexemes_of cuts
codes_of_lexis source lexis utf8 e =
    let m : ℕ = mark_len source in
    let whole : IsPart source 0 source = record { front = []; rest = []; parts = sym (append-nil source); position = refl; utf8 = utf8 } in
    let place : 0 + m ≡ m = omega arith in
    let text : IsPart source m (drop m source) = subst (λ (n : ℕ). IsPart source n (drop m source)) place (part_drop source 0 source whole m (mark_boundary source utf8)) in
    let got = and_then-ok (read (start_at m) (lexemes_of source)) finished lexis e in
    subst (λ (x : Lexis). AreCodes source x.ignores) (finished_lexis got.0 lexis got.2)
    (codes_read source (length (drop m source)) (start_at m) got.0 (drop m source) text (All-nil (λ ignore. All (IsTextSpan source) (listed_spans ignore.codes))) got.1)
