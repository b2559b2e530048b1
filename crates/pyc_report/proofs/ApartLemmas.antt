-- Texts that all differ: no repeat is left out of them, nor of some of them.
use Rattle.std.proofs.Common.{◌≡◌, ℕ, ◌+◌, ◌-◌, ◌<◌, ◌≤◌, Bool, true, false, cond, List, [], ◌∷◌, ◌++◌, map, filter, take, take_all, take_at, drop, drop_at, get_or, length, length-append, bytes_eq, refl, sym, ap, ap₂, subst, ◌∙◌, append-nil, append_assoc, arith}
use Rattle.std.specs.List.{AllByRecursion, concat}
use Rattle.std.proofs.lemmas.List.{length-map, map-append, take_more, drop_more, get_or-map}
use Rattle.indexmap.specs.IndexSet.{insert_key}
use Rattle.pyc_report.specs.Report.{Located, is_error, lines_of, printed_line, without_repeats}
use Rattle.pyc_report.proofs.RepeatLemmas.{is_other, map-take_more, without_repeats-more}

-- each text is another one than those before it
abbrev pub AreApart : List (List ℕ) → Type 0
AreApart [] = Unit {0}
AreApart (x ∷ xs) = AllByRecursion (λ y. is_other x y ≡ true) xs × AreApart xs

abbrev AllPass : {X : Type 0} → (X → Bool) → List X → Type 0
AllPass test xs = AllByRecursion (λ x. test x ≡ true) xs

filter_all : {X : Type 0} (test : X → Bool) (xs : List X) → AllPass test xs → filter test xs ≡ xs
filter_all test [] all = refl
filter_all test (x ∷ xs) all = ap (λ b. cond b (x ∷ filter test xs) (filter test xs)) all.0 ∙ ap (λ ys. x ∷ ys) (filter_all test xs all.1)

length-filter_at_most : {X : Type 0} (test : X → Bool) (xs : List X) → length (filter test xs) ≤ length xs
length-filter_at_most test [] = omega arith
length-filter_at_most test (x ∷ xs) =
    let rest : length (filter test xs) ≤ length xs = length-filter_at_most test xs in
    elim (test x) as (λ b. length (cond b (x ∷ filter test xs) (filter test xs)) ≤ length (x ∷ xs)) [ true ↦ omega arith | false ↦ omega arith ]

length-without_repeats : (xs : List (List ℕ)) → length (without_repeats xs) ≤ length xs
length-without_repeats [] = omega arith
length-without_repeats (x ∷ xs) =
    let kept : length (filter (is_other x) (without_repeats xs)) ≤ length (without_repeats xs) = length-filter_at_most (is_other x) (without_repeats xs) in
    let rest : length (without_repeats xs) ≤ length xs = length-without_repeats xs in
    omega arith

-- all pass where none is left out
all_from_length : {X : Type 0} (test : X → Bool) (xs : List X) → length xs ≤ length (filter test xs) → AllPass test xs
all_from_length test [] most = tt
all_from_length test (x ∷ xs) most =
    elim (test x) as (λ b. test x ≡ b → length (x ∷ xs) ≤ length (cond b (x ∷ filter test xs) (filter test xs)) → AllPass test (x ∷ xs)) [
      | true ↦ λ is h. let h' : length xs ≤ length (filter test xs) = omega arith in (is, all_from_length test xs h')
      | false ↦ λ is h.
          let rest : length (filter test xs) ≤ length xs = length-filter_at_most test xs in
          absurd (omega arith)
    ] refl most

-- of texts that all differ none is left out
once_apart : (xs : List (List ℕ)) → AreApart xs → without_repeats xs ≡ xs
once_apart [] apart = refl
once_apart (x ∷ xs) apart =
    ap (λ ys. x ∷ filter (is_other x) ys) (once_apart xs apart.1) ∙ ap (λ ys. x ∷ ys) (filter_all (is_other x) xs apart.0)

-- and texts of which none is left out all differ
pub apart_from_length : (xs : List (List ℕ)) → length xs ≤ length (without_repeats xs) → AreApart xs
apart_from_length [] most = tt
apart_from_length (x ∷ xs) most =
    let kept : length (filter (is_other x) (without_repeats xs)) ≤ length (without_repeats xs) = length-filter_at_most (is_other x) (without_repeats xs) in
    let rest : length (without_repeats xs) ≤ length xs = length-without_repeats xs in
    let all : length xs ≤ length (without_repeats xs) = omega arith in
    let apart : AreApart xs = apart_from_length xs all in
    let others : length (without_repeats xs) ≤ length (filter (is_other x) (without_repeats xs)) = omega arith in
    (subst (λ (ys : List (List ℕ)). AllPass (is_other x) ys) (once_apart xs apart) (all_from_length (is_other x) (without_repeats xs) others), apart)

module _ (keep : Located → Bool) where
  all_of_some : (test : List ℕ → Bool) (ms : List Located) → AllPass test (map printed_line ms) → AllPass test (map printed_line (filter keep ms))
  all_of_some test [] all = tt
  all_of_some test (m ∷ ms) all =
      elim (keep m) as (λ b. AllPass test (map printed_line (cond b (m ∷ filter keep ms) (filter keep ms)))) [
        | true ↦ (all.0, all_of_some test ms all.1)
        | false ↦ all_of_some test ms all.1
      ]

  -- the lines of some messages differ where those of all do
  apart_of_some : (ms : List Located) → AreApart (map printed_line ms) → AreApart (map printed_line (filter keep ms))
  apart_of_some [] apart = tt
  apart_of_some (m ∷ ms) apart =
      elim (keep m) as (λ b. AreApart (map printed_line (cond b (m ∷ filter keep ms) (filter keep ms)))) [
        | true ↦ (all_of_some (is_other (printed_line m)) ms apart.0, apart_of_some ms apart.1)
        | false ↦ apart_of_some ms apart.1
      ]

-- where the lines of messages all differ, as many are printed for errors as there are errors
pub errors_apart : (messages : List Located) → without_repeats (map printed_line messages) ≡ map printed_line messages
    → length (filter is_error messages) ≡ length (lines_of (filter is_error messages))
errors_apart messages once =
    let all : length (map printed_line messages) ≤ length (without_repeats (map printed_line messages)) = rw once (omega arith) in
    let apart = apart_of_some is_error messages (apart_from_length (map printed_line messages) all) in
    sym (ap length (once_apart (map printed_line (filter is_error messages)) apart) ∙ length-map (filter is_error messages) printed_line)

-- one more text at the end
pub concat-more : (xss : List (List ℕ)) (xs : List ℕ) → concat (xss ++ xs ∷ []) ≡ concat xss ++ xs
concat-more [] xs = append-nil xs
concat-more (ys ∷ xss) xs = ap (λ zs. ys ++ zs) (concat-more xss xs) ∙ sym (append_assoc ys (concat xss) xs)

-- a loop's step: the line of the message at i is added to the text, and its length to the lengths
module _ {E : Type 0} (located : E → Located) (es : List E) (i : ℕ) (d : E) (within : i < length es) where
  lines_more : map printed_line (map located (take (i + 1) es)) ≡ map printed_line (map located (take i es)) ++ printed_line (located (get_or es i d)) ∷ []
  lines_more = ap (map printed_line) (map-take_more located es i d within) ∙ map-append printed_line (map located (take i es)) (located (get_or es i d) ∷ [])

  pub text_more : (text text' : List ℕ) → text ≡ concat (map printed_line (map located (take i es))) → text' ≡ text ++ printed_line (located (get_or es i d))
      → text' ≡ concat (map printed_line (map located (take (i + 1) es)))
  text_more text text' before pushed =
      pushed ∙ ap (λ t. t ++ printed_line (located (get_or es i d))) before
      ∙ sym (ap concat lines_more ∙ concat-more (map printed_line (map located (take i es))) (printed_line (located (get_or es i d))))

  pub lengths_more : (text text' lengths lengths' : List ℕ) (n : ℕ) → text' ≡ text ++ printed_line (located (get_or es i d)) → length text' ≡ length text + n
      → lengths ≡ map length (map printed_line (map located (take i es))) → lengths' ≡ lengths ++ n ∷ []
      → lengths' ≡ map length (map printed_line (map located (take (i + 1) es)))
  lengths_more text text' lengths lengths' n added longer before pushed =
      let whole = ap length added ∙ length-append text (printed_line (located (get_or es i d))) in
      let is : n ≡ length (printed_line (located (get_or es i d))) = omega (arith, whole, longer) in
      pushed ∙ ap₂ (λ (ns : List ℕ) (m : ℕ). ns ++ m ∷ []) before is
      ∙ sym (ap (map length) lines_more ∙ map-append length (map printed_line (map located (take i es))) (printed_line (located (get_or es i d)) ∷ []))

-- a loop's step: of the text of the pieces from i on, the first so many bytes are that piece
module _ (pieces : List (List ℕ)) (lengths : List ℕ) (i : ℕ) (d : ℕ) (are : lengths ≡ map length pieces) (within : i < length lengths) where
  among : i < length pieces
  among = let many = ap length are ∙ length-map pieces length in omega (arith, many)

  long : length (get_or pieces i []) ≡ get_or lengths i d
  long = sym (ap (λ ns. get_or ns i d) are ∙ get_or-map length pieces i [] d among)

  seen : (rest : List ℕ) → rest ≡ concat (drop i pieces) → rest ≡ get_or pieces i [] ++ concat (drop (i + 1) pieces)
  seen rest is = is ∙ ap concat (drop_more pieces i [] among)

  pub front_is : (rest : List ℕ) → rest ≡ concat (drop i pieces) → take (get_or lengths i d) rest ≡ get_or pieces i []
  front_is rest is =
      ap (take (get_or lengths i d)) (seen rest is) ∙ take_at (get_or pieces i []) (concat (drop (i + 1) pieces)) (get_or lengths i d) long

  pub back_is : (rest : List ℕ) → rest ≡ concat (drop i pieces) → drop (get_or lengths i d) rest ≡ concat (drop (i + 1) pieces)
  back_is rest is =
      ap (drop (get_or lengths i d)) (seen rest is) ∙ drop_at (get_or pieces i []) (concat (drop (i + 1) pieces)) (get_or lengths i d) long

  pub once_more : {K : Type 0} (view : K → List ℕ) (keys keys' : List K) (key : K) → keys' ≡ insert_key (λ a b. bytes_eq (view a) (view b)) keys key
      → view key ≡ get_or pieces i [] → map view keys ≡ without_repeats (take i pieces) → map view keys' ≡ without_repeats (take (i + 1) pieces)
  once_more view keys keys' key put is before =
      without_repeats-more view (λ ps. ps) pieces i keys keys' key (get_or pieces i []) put is before (take_more pieces i [] among)

-- pieces as many as they are without repeats have none
pub once_from_count : {K : Type 0} (view : K → List ℕ) (keys : List K) (pieces : List (List ℕ)) (lengths : List ℕ) (i : ℕ) → lengths ≡ map length pieces
    → length lengths ≤ i → map view keys ≡ without_repeats (take i pieces) → length keys ≡ length lengths → without_repeats pieces ≡ pieces
once_from_count view keys pieces lengths i are whole kept many =
    let as_many = ap length are ∙ length-map pieces length in
    let all : take i pieces ≡ pieces = take_all i pieces (omega (arith, as_many)) in
    let once = sym (length-map keys view) ∙ ap length kept ∙ ap (λ ps. length (without_repeats ps)) all in
    once_apart pieces (apart_from_length pieces (omega (arith, as_many, once, many)))

-- how much longer a text is with a line
pub longer : (text text' line : List ℕ) (before after : ℕ) → text' ≡ text ++ line → before ≡ length text → after ≡ length text'
    → length text' ≡ length text + (after - before)
longer text text' line before after added first last =
    let whole = ap length added ∙ length-append text line in
    omega (arith, whole, first, last)
