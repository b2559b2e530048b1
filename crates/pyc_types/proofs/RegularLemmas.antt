-- In a regular row of parameters each one is served by itself alone.
use Rattle.std.proofs.Common.{◌≡◌, ℕ, zero, suc, ◌+◌, ◌<◌, Bool, true, false, ◌||◌, not, if◌then◌else◌, bytes_eq, List, [], ◌∷◌, length, take, Some, refl, sym, ap, ◌∙◌, subst, arith}
use Rattle.std.proofs.Math.Nat.{zero-add}
use Rattle.std.proofs.lemmas.Bool.{false≢true, and_parts, and_from, or_right, not-true, eqb-true, eq-eqb}
use Rattle.std.specs.Cmp.Lexicographic.{nat_list_eq_equiv}
use Rattle.std.specs.List.{slice_get, position_from, list_all}
use Rattle.pyc_type_forms.specs.Types.{Kind, plain, star, keyword_only, double_star, Slot, Ty, Listed, no_param, param}
use Rattle.pyc_types.specs.Parameters.{is_plain, is_star, is_double_star, is_star_kind, is_double_star_kind, count_plain, plain_from, named_from, server_of, server_at, server, serves_at, serves, all_below, is_free, is_served_by, is_served, is_used, any_below, keeps_optional, fits}
use Rattle.pyc_types.specs.Assignable.{slots_of, type_at}
use Rattle.pyc_types.specs.MroLaws.{may_precede, may_stand_before, are_regular}
use Rattle.pyc_types.proofs.PairLemmas.{some_is, none≢some}
use Rattle.pyc_types.proofs.PlaceLemmas.{below_passes}

abbrev slot_with : Kind → Bool → Slot
slot_with kind optional = record { kind = kind; is_optional = optional }

add-zero : (n : ℕ) → n + 0 ≡ n
add-zero n = omega arith

-- ---- by place

plain_skip : (x : Slot) (xs : List Slot) (i c : ℕ) → is_plain x ≡ false → plain_from i (x ∷ xs) c ≡ plain_from (i + 1) xs c
plain_skip x xs i zero e = ap (λ b. if b then Some i else plain_from (i + 1) xs zero) e
plain_skip x xs i (suc c) e = ap (λ b. if b then plain_from (i + 1) xs c else plain_from (i + 1) xs (suc c)) e

plain_step : (x : Slot) (xs : List Slot) (i c : ℕ) → is_plain x ≡ true → plain_from i (x ∷ xs) (suc c) ≡ plain_from (i + 1) xs c
plain_step x xs i c e = ap (λ b. if b then plain_from (i + 1) xs c else plain_from (i + 1) xs (suc c)) e

plain_either : (x : Slot) (xs : List Slot) (i c : ℕ) (b : Bool) → is_plain x ≡ b → plain_from i (x ∷ xs) (if b then suc c else c) ≡ plain_from (i + 1) xs c
plain_either x xs i c true e = plain_step x xs i c e
plain_either x xs i c false e = plain_skip x xs i c e

-- a parameter by place is found by its place
plain_found : (s : List Slot) (i j : ℕ) (slot : Slot) → slice_get s j ≡ Some slot → is_plain slot ≡ true → plain_from i s (count_plain (take j s)) ≡ Some (i + j)
plain_found [] i j slot at is = absurd (none≢some at)
plain_found (x ∷ xs) i zero slot at is =
    let here : is_plain x ≡ true = subst (λ y. is_plain y ≡ true) (sym (some_is at)) is in
    ap (λ b. if b then Some i else plain_from (i + 1) xs zero) here ∙ ap Some (sym (add-zero i))
plain_found (x ∷ xs) i (suc j) slot at is =
    let more : i + 1 + j ≡ i + suc j = omega arith in
    plain_either x xs i (count_plain (take j xs)) (is_plain x) refl ∙ (plain_found xs (i + 1) j slot at is ∙ ap Some more)

-- ---- `*` and `**`

-- what each passes, the one at a place does
all_at : (test : Slot → Bool) (xs : List Slot) (j : ℕ) (x : Slot) → list_all test xs ≡ true → slice_get xs j ≡ Some x → test x ≡ true
all_at test [] j x all at = absurd (none≢some at)
all_at test (y ∷ ys) zero x all at = subst (λ z. test z ≡ true) (some_is at) (and_parts (test y) (list_all test ys) all).0
all_at test (y ∷ ys) (suc j) x all at = all_at test ys j x (and_parts (test y) (list_all test ys) all).1 at

-- a parameter that no one before it is alike is the first of its kind
first_found : (test : Slot → Bool) (s : List Slot) (i j : ℕ) (slot : Slot) → ((x : Slot) → may_stand_before x slot ≡ true → test x ≡ false) → are_regular s ≡ true → slice_get s j ≡ Some slot → test slot ≡ true → position_from test i s ≡ Some (i + j)
first_found test [] i j slot unlike regular at is = absurd (none≢some at)
first_found test (x ∷ xs) i zero slot unlike regular at is =
    let here : test x ≡ true = subst (λ y. test y ≡ true) (sym (some_is at)) is in
    ap (λ b. if b then Some i else position_from test (i + 1) xs) here ∙ ap Some (sym (add-zero i))
first_found test (x ∷ xs) i (suc j) slot unlike regular at is =
    let parts = and_parts (list_all (may_stand_before x) xs) (are_regular xs) regular in
    let other = unlike x (all_at (may_stand_before x) xs j slot parts.0 at) in
    let more : i + 1 + j ≡ i + suc j = omega arith in
    ap (λ b. if b then Some i else position_from test (i + 1) xs) other ∙ (first_found test xs (i + 1) j slot unlike parts.1 at is ∙ ap Some more)

before_star : (k : Kind) → may_precede k star ≡ true → is_star_kind k ≡ false
before_star (plain name) h = refl
before_star star h = absurd (false≢true h)
before_star (keyword_only name) h = refl
before_star double_star h = refl

before_double_star : (k : Kind) → may_precede k double_star ≡ true → is_double_star_kind k ≡ false
before_double_star (plain name) h = refl
before_double_star star h = refl
before_double_star (keyword_only name) h = refl
before_double_star double_star h = absurd (false≢true h)

-- ---- by name

named_here : (name : List ℕ) (optional : Bool) (xs : List Slot) (i c : ℕ) → named_from name i (slot_with (keyword_only name) optional ∷ xs) c ≡ Some i
named_here name optional xs i zero = ap (λ b. if b || false then Some i else named_from name (i + 1) xs zero) (nat_list_eq_equiv.refl name)
named_here name optional xs i (suc c) = ap (λ b. if b then Some i else named_from name (i + 1) xs (suc c)) (nat_list_eq_equiv.refl name)

star_skip : (name : List ℕ) (optional : Bool) (xs : List Slot) (i c : ℕ) → named_from name i (slot_with star optional ∷ xs) c ≡ named_from name (i + 1) xs c
star_skip name optional xs i zero = refl
star_skip name optional xs i (suc c) = refl

named_skip : (name own : List ℕ) (optional : Bool) (xs : List Slot) (i c : ℕ) → bytes_eq own name ≡ false → named_from name i (slot_with (keyword_only own) optional ∷ xs) c ≡ named_from name (i + 1) xs c
named_skip name own optional xs i zero e = ap (λ b. if b || false then Some i else named_from name (i + 1) xs zero) e
named_skip name own optional xs i (suc c) e = ap (λ b. if b then Some i else named_from name (i + 1) xs (suc c)) e

named_step : (name : List ℕ) (xs : List Slot) (i : ℕ) (k : Kind) (optional other : Bool) → may_stand_before (slot_with k optional) (slot_with (keyword_only name) other) ≡ true
    → named_from name i (slot_with k optional ∷ xs) (count_plain (slot_with k optional ∷ xs)) ≡ named_from name (i + 1) xs (count_plain xs)
named_step name xs i (plain own) optional other h = refl
named_step name xs i star optional other h = star_skip name optional xs i (count_plain xs)
named_step name xs i (keyword_only own) optional other h = named_skip name own optional xs i (count_plain xs) (not-true (bytes_eq own name) h)
named_step name xs i double_star optional other h = absurd (false≢true h)

-- a parameter by name alone is found by its name
named_found : (s : List Slot) (i j : ℕ) (name : List ℕ) (optional : Bool) → are_regular s ≡ true → slice_get s j ≡ Some (slot_with (keyword_only name) optional) → named_from name i s (count_plain s) ≡ Some (i + j)
named_found [] i j name optional regular at = absurd (none≢some at)
named_found (x ∷ xs) i zero name optional regular at =
    subst (λ y. named_from name i (y ∷ xs) (count_plain (y ∷ xs)) ≡ Some (i + 0)) (sym (some_is at)) (named_here name optional xs i (count_plain xs) ∙ ap Some (sym (add-zero i)))
named_found (x ∷ xs) i (suc j) name optional regular at =
    let parts = and_parts (list_all (may_stand_before x) xs) (are_regular xs) regular in
    let stands = all_at (may_stand_before x) xs j (slot_with (keyword_only name) optional) parts.0 at in
    let more : i + 1 + j ≡ i + suc j = omega arith in
    named_step name xs i x.kind x.is_optional optional stands ∙ (named_found xs (i + 1) j name optional parts.1 at ∙ ap Some more)

-- ---- all

module _ (s : List Slot) (regular : are_regular s ≡ true) (j : ℕ) where
  own_of : (k : Kind) (optional : Bool) → slice_get s j ≡ Some (slot_with k optional) → server_of s (count_plain s) (count_plain (take j s)) k ≡ Some j
  own_of (plain name) optional at = rw (plain_found s 0 j (slot_with (plain name) optional) at refl) (ap Some (zero-add j))
  own_of star optional at =
      first_found is_star s 0 j (slot_with star optional) (λ x h. before_star x.kind (and_parts (may_precede x.kind star) _ h).0) regular at refl ∙ ap Some (zero-add j)
  own_of (keyword_only name) optional at = rw (named_found s 0 j name optional regular at) (ap Some (zero-add j))
  own_of double_star optional at =
      first_found is_double_star s 0 j (slot_with double_star optional) (λ x h. before_double_star x.kind (and_parts (may_precede x.kind double_star) _ h).0) regular at refl ∙ ap Some (zero-add j)

  -- each parameter is served by itself
  own_server : (slot : Slot) → slice_get s j ≡ Some slot → server s s j ≡ Some j
  own_server slot at = ap (server_at s s j) at ∙ own_of slot.kind slot.is_optional at

-- and by no other
pub own_alone : (s : List Slot) → are_regular s ≡ true → (i j : ℕ) (slot : Slot) → slice_get s j ≡ Some slot → serves s s i j ≡ true → j ≡ i
own_alone s regular i j slot at serving =
    let own : serves_at (Some j) i ≡ true = subst (λ k. serves_at k i ≡ true) (own_server s regular j slot at) serving in
    eqb-true j i own

-- what stands at a place of a row
place_of : (s : List Slot) (j : ℕ) → j < length s → (slot : Slot) × (slice_get s j ≡ Some slot)
place_of [] j within = absurd (omega arith)
place_of (x ∷ xs) zero within = (x, refl)
place_of (x ∷ xs) (suc j) within = place_of xs j (omega arith)

all_pass : (n : ℕ) (test : ℕ → Bool) → ((j : ℕ) → j < n → test j ≡ true) → all_below n test ≡ true
all_pass zero test each = refl
all_pass (suc n) test each = and_from (all_below n test) (test n) (all_pass n test (λ j within. each j (omega arith))) (each n (omega arith))

kept_by_itself : (b c : Bool) → (not b || (b || c)) ≡ true
kept_by_itself true c = refl
kept_by_itself false c = refl

module _ (s : List Slot) (regular : are_regular s ≡ true) where
  served : (j : ℕ) → j < length s → is_served s s j ≡ true
  served j within =
      let at = place_of s j within in
      ap (is_served_by s s j) (own_server s regular j at.0 at.1) ∙ (ap (λ o. keeps_optional o o) at.1 ∙ kept_by_itself at.0.is_optional (is_star at.0 || is_double_star at.0))

  used : (i : ℕ) → i < length s → is_used s s i ≡ true
  used i within =
      let at = place_of s i within in
      let own : serves s s i i ≡ true = ap (λ k. serves_at k i) (own_server s regular i at.0 at.1) ∙ eq-eqb i i refl in
      or_right (is_free (slice_get s i)) (any_below (length s) (serves s s i)) (below_passes (length s) (serves s s i) i within own)

  -- a regular row fits itself
  pub fits_itself : fits s s ≡ true
  unfolding fits
  fits_itself =
      and_from (all_below (length s) (is_served s s)) (all_below (length s) (is_used s s)) (all_pass (length s) (is_served s s) served) (all_pass (length s) (is_used s s) used)

-- where there is a type, there is a parameter
pub slot_at : (ps : Listed) (j : ℕ) (t : Ty) → type_at ps j ≡ Some t → (slot : Slot) × (slice_get (slots_of ps) j ≡ Some slot)
slot_at no_param j t at = absurd (none≢some at)
slot_at (param slot u ps) zero t at = (slot, refl)
slot_at (param slot u ps) (suc j) t at = slot_at ps j t at
