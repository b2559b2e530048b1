-- Verdicts by number.
use Rattle.std.proofs.Common.{◌≡◌, ◌∙◌, ap, sym, refl, subst, arith, add-one, ℕ, zero, suc, ◌+◌, ◌<◌, ◌≤◌, ◌==◌, Bool, true, false, not, ◌||◌, true≢false, if◌then◌else◌}
use Rattle.std.proofs.Common.{List, [], ◌∷◌, ◌++◌, length, map, drop, drop-cons, get_or, slice_set, length-set, Option, Some, None, is_some}
use Rattle.std.specs.List.{list_all, list_any}
use Rattle.std.proofs.lemmas.Bool.{and_parts, eqb-true}
use lib.Dec.{eqb-zero-suc, eqb-suc-zero, eqb-suc-suc}
use Rattle.pyc_iface.specs.Answers.{answer_by}
use Rattle.pyc_keys.specs.Marks.{is_in}
use Rattle.pyc_keys.specs.Numbering.{Numbering}
use Rattle.pyc_reading.specs.Answers.{Answer}
use Rattle.pyc_reading.specs.Keys.{Key}
use Rattle.pyc_names.specs.Interfaces.{Interface}
use Rattle.pyc_known_answers.specs.SameAnswers.{same_answer}
use Rattle.pyc_known_answers.specs.Changes.{AreKnown, has_changed, unknowns, key_change_at, with_number, with_numbers}

-- ---- where nothing was compared

pub unknowns_more : (n : ℕ) → unknowns (suc n) ≡ unknowns n ++ None ∷ []
unknowns_more zero = refl
unknowns_more (suc n) = ap (λ l. None ∷ l) (unknowns_more n)

unknown_there : (n i : ℕ) → key_change_at (unknowns n) i ≡ None
unknown_there zero i = refl
unknown_there (suc n) zero = refl
unknown_there (suc n) (suc i) = unknown_there n i

many_unknowns : (n : ℕ) → length (unknowns n) ≡ n
many_unknowns zero = refl
many_unknowns (suc n) = ap suc (many_unknowns n)

pub known_first : (held : Numbering Key) (before now : Key → Answer) (n : ℕ) → ((i : ℕ) → is_some (held i) ≡ true → i < n)
    → AreKnown held before now [] (unknowns n)
known_first held before now n bound = record { room = λ i here. let below = bound i here in let many = many_unknowns n in omega (arith, below, many); known = λ i. unknown_there n i }

-- ---- the answers to the key of a number that is held

pub changed_is : (first second : Key → Answer) (key : Option Key) (before : Answer) (same : Bool) → is_some key ≡ true
    → ((k : Key) → key ≡ Some k → before ≡ first k) → ((k : Key) → key ≡ Some k → same ≡ same_answer before (second k))
    → not same ≡ has_changed first second key
changed_is first second None before same held b is = absurd (true≢false (sym held))
changed_is first second (Some k) before same held b is =
    ap not (is k refl) ∙ ap (λ (answer : Answer). not (same_answer answer (second k))) (b k refl)

-- ---- some numbers

-- each of these keys is held
pub held_there : (held : Numbering Key) (numbers : List ℕ) (i n : ℕ) → i < length numbers → n ≡ get_or numbers i n → list_all is_some (map held numbers) ≡ true → is_some (held n) ≡ true
held_there held numbers i n within is all = ap (λ k. is_some (held k)) is ∙ at numbers i within all
  where
    at : (ns : List ℕ) (i : ℕ) → i < length ns → list_all is_some (map held ns) ≡ true → is_some (held (get_or ns i n)) ≡ true
    at [] i l h = absurd (omega (arith, l))
    at (m ∷ ns) zero l h = (and_parts (is_some (held m)) (list_all is_some (map held ns)) h).0
    at (m ∷ ns) (suc i) l h = at ns i (omega (arith, l)) (and_parts (is_some (held m)) (list_all is_some (map held ns)) h).1

or_step : (a b c : Bool) → ((a || b) || c) ≡ (a || (b || c))
or_step true b c = refl
or_step false b c = refl

-- the numbers that are left, one less
left_of : (numbers : List ℕ) (i n : ℕ) → i < length numbers → n ≡ get_or numbers i n → drop i numbers ≡ n ∷ drop (i + 1) numbers
left_of numbers i n within is = rw add-one (drop-cons numbers i n within ∙ ap (λ k. k ∷ drop (suc i) numbers) (sym is))

pub value_more : (f : ℕ → Bool) (numbers : List ℕ) (i n : ℕ) (changed one next : Bool) (whole : Bool) → i < length numbers → n ≡ get_or numbers i n
    → next ≡ (changed || one) → one ≡ f n → (changed || list_any f (drop i numbers)) ≡ whole → (next || list_any f (drop (i + 1) numbers)) ≡ whole
value_more f numbers i n changed one next whole within is either reported before =
    ap (λ b. b || list_any f (drop (i + 1) numbers)) either
    ∙ or_step changed one (list_any f (drop (i + 1) numbers))
    ∙ ap (λ b. changed || (b || list_any f (drop (i + 1) numbers))) reported
    ∙ sym (ap (λ l. changed || list_any f l) (left_of numbers i n within is))
    ∙ before

pub compared_more : (numbers compared next whole : List ℕ) (i n : ℕ) → i < length numbers → n ≡ get_or numbers i n
    → next ≡ with_number compared n → with_numbers compared (drop i numbers) ≡ whole → with_numbers next (drop (i + 1) numbers) ≡ whole
compared_more numbers compared next whole i n within is made before =
    ap (λ c. with_numbers c (drop (i + 1) numbers)) made ∙ sym (ap (with_numbers compared) (left_of numbers i n within is)) ∙ before

pub any_of : (f : Option Key → Bool) (held : Numbering Key) (numbers : List ℕ) → list_any (λ n. f (held n)) numbers ≡ list_any f (map held numbers)
any_of f held [] = refl
any_of f held (n ∷ ns) = ap (λ b. f (held n) || b) (any_of f held ns)

pub or_end : (a : Bool) → (a || false) ≡ a
or_end true = refl
or_end false = refl

pub drop_past : {A : Type 0} (xs : List A) (n : ℕ) → length xs ≤ n → drop n xs ≡ []
drop_past [] zero l = refl
drop_past [] (suc n) l = refl
drop_past (x ∷ xs) zero l = absurd (omega (arith, l))
drop_past (x ∷ xs) (suc n) l = drop_past xs n (omega (arith, l))

-- ---- one number more

change_set : (changes : List (Option Bool)) (i j : ℕ) (x : Option Bool) → i < length changes
    → key_change_at (slice_set changes i x) j ≡ (if i == j then x else key_change_at changes j)
change_set [] i j x l = absurd (omega (arith, l))
change_set (c ∷ cs) zero zero x l = refl
change_set (c ∷ cs) zero (suc j) x l = ap (λ b. if b then x else key_change_at cs j) (sym (eqb-zero-suc j))
change_set (c ∷ cs) (suc i) zero x l = ap (λ b. if b then x else c) (sym (eqb-suc-zero i))
change_set (c ∷ cs) (suc i) (suc j) x l = change_set cs i j x (omega (arith, l)) ∙ ap (λ b. if b then x else key_change_at cs j) (sym (eqb-suc-suc i j))

in_more : (compared : List ℕ) (i j : ℕ) → is_in (compared ++ i ∷ []) j ≡ (is_in compared j || i == j)
in_more [] i j = or_end (i == j)
in_more (c ∷ cs) i j = ap (λ b. (c == j) || b) (in_more cs i j) ∙ sym (or_step (c == j) (is_in cs j) (i == j))

true_end : (b : Bool) → true ≡ (b || true)
true_end true = refl
true_end false = refl

known_there : (held : Numbering Key) (before now : Key → Answer) (compared : List ℕ) (changes : List (Option Bool)) (i : ℕ) (changed : Bool)
    → AreKnown held before now compared changes → changed ≡ has_changed before now (held i) → (j : ℕ) (b : Bool) → (i == j) ≡ b
    → (if b then Some changed else key_change_at changes j) ≡ (if is_in compared j || b then Some (has_changed before now (held j)) else None)
known_there held before now compared changes i changed are is j true e =
    ap (λ b. Some b) (is ∙ ap (λ n. has_changed before now (held n)) (eqb-true i j e))
    ∙ ap (λ b. if b then Some (has_changed before now (held j)) else None) (true_end (is_in compared j))
known_there held before now compared changes i changed are is j false e =
    are.known j ∙ ap (λ b. if b then Some (has_changed before now (held j)) else None) (sym (or_end (is_in compared j)))

pub known_more : (held : Numbering Key) (before : Key → Answer) (world next : List Interface) (compared items : List ℕ) (changes : List (Option Bool))
    (i number : ℕ) (changed : Bool) → AreKnown held before (answer_by world) compared changes → next ≡ world → items ≡ compared ++ i ∷ []
    → number ≡ i → is_some (held i) ≡ true → changed ≡ has_changed before (answer_by world) (held i)
    → AreKnown held before (answer_by next) items (slice_set changes number (Some changed))
known_more held before world next compared items changes i number changed are same more here held_i is =
    let below = are.room i held_i in
    let within : number < length changes = omega (arith, below, here) in
    subst (λ w. AreKnown held before (answer_by w) items (slice_set changes number (Some changed))) (sym same)
    (subst (λ l. AreKnown held before (answer_by world) l (slice_set changes number (Some changed))) (sym more)
    (subst (λ n. AreKnown held before (answer_by world) (compared ++ n ∷ []) (slice_set changes number (Some changed))) here
    record {
      room = λ j held_j. let below = are.room j held_j in let long = length-set changes number (Some changed) in omega (arith, below, long);
      known = λ j.
          change_set changes number j (Some changed) within
          ∙ known_there held before (answer_by world) compared changes number changed are
          (is ∙ ap (λ n. has_changed before (answer_by world) (held n)) (sym here)) j (number == j) refl
          ∙ ap (λ b. if b then Some (has_changed before (answer_by world) (held j)) else None) (sym (in_more compared number j));
    }))
