-- Marks, and the numbers that have one.
use Rattle.std.proofs.Common.{◌≡◌, ◌≢◌, ℕ, ◌+◌, ◌≤◌, ◌<◌, Bool, true, false, not, ◌&&◌, ◌||◌, ◌==◌, nat_lt, List, [], ◌∷◌, ◌++◌, length, flat_map, Option, None, if◌then◌else◌, refl, sym, ap, ◌∙◌, arith, true≢false}
use Rattle.std.proofs.lemmas.Grind.{flat_map-append}
use Rattle.std.proofs.lemmas.List.Folds.{list_any-append}
use Rattle.std.proofs.lemmas.Bool.{eqb-true, eqb-false, ltb-true, ltb-false, lt-ltb, le-ltb}
use Rattle.pyc_keys.specs.Marks.{is_in, is_marked}
use Rattle.pyc_keys.specs.Numbering.{Numbering, without, only, marked_only}

-- the marked ones alone, as far as below a number
abbrev pub marked_below : {A : Type 0} → List Bool → ℕ → Numbering A → Numbering A
marked_below marks n held i = if nat_lt i n && not (is_marked marks i) then None else held i

below_next : (i n : ℕ) → nat_lt i (n + 1) ≡ (nat_lt i n || (n == i))
below_next i n = elim (nat_lt i n) as (λ b. nat_lt i n ≡ b → nat_lt i (n + 1) ≡ (b || (n == i))) [
  | true ↦ λ e. let l : i < n = ltb-true i n e in lt-ltb i (n + 1) (omega (arith, l))
  | false ↦ λ e. let l : n ≤ i = ltb-false i n e in elim (n == i) as (λ b. (n == i) ≡ b → nat_lt i (n + 1) ≡ b) [
    | true ↦ λ f. let same : n ≡ i = eqb-true n i f in lt-ltb i (n + 1) (omega (arith, same))
    | false ↦ λ f. let other : n ≢ i = eqb-false n i f in le-ltb i (n + 1) (omega (arith, l, other))
  ] refl
] refl

none_below : (i : ℕ) → nat_lt i 0 ≡ false
none_below i = le-ltb i 0 (omega arith)

module _ {A : Type 0} where
  pub marks_begin : (marks : List Bool) (held : Numbering A) → held ≡ marked_below marks 0 held
  marks_begin marks held = λ t j. sym (ap (λ b. if b && not (is_marked marks j) then None else held j) (none_below j)) t

  marked_step : (a b m : Bool) (x : Option A) → (b ≡ true → m ≡ true) → (if a && not m then None else x) ≡ (if (a || b) && not m then None else x)
  marked_step true b m x h = refl
  marked_step false false m x h = refl
  marked_step false true true x h = refl
  marked_step false true false x h = absurd (true≢false (sym (h refl)))

  marks_pass : (marks : List Bool) (n : ℕ) (held : Numbering A) → is_marked marks n ≡ true → marked_below marks n held ≡ marked_below marks (n + 1) held
  marks_pass marks n held marked = λ t j. at j t
    where
      at : (j : ℕ) → marked_below marks n held j ≡ marked_below marks (n + 1) held j
      at j =
          marked_step (nat_lt j n) (n == j) (is_marked marks j) (held j) (λ e. ap (is_marked marks) (sym (eqb-true n j e)) ∙ marked)
          ∙ ap (λ b. if b && not (is_marked marks j) then None else held j) (sym (below_next j n))

  freed_step : (a b m : Bool) (x : Option A) → (b ≡ true → m ≡ false) → (if b then None else if a && not m then None else x) ≡ (if (a || b) && not m then None else x)
  freed_step true true true x h = absurd (true≢false (h refl))
  freed_step true true false x h = refl
  freed_step true false m x h = refl
  freed_step false false m x h = refl
  freed_step false true false x h = refl
  freed_step false true true x h = absurd (true≢false (h refl))

  marks_free : (marks : List Bool) (n : ℕ) (held : Numbering A) → is_marked marks n ≡ false → without (marked_below marks n held) n ≡ marked_below marks (n + 1) held
  marks_free marks n held marked = λ t j. at j t
    where
      at : (j : ℕ) → without (marked_below marks n held) n j ≡ marked_below marks (n + 1) held j
      at j =
          freed_step (nat_lt j n) (n == j) (is_marked marks j) (held j) (λ e. ap (is_marked marks) (sym (eqb-true n j e)) ∙ marked)
          ∙ ap (λ b. if b && not (is_marked marks j) then None else held j) (sym (below_next j n))

  last_step : (a m : Bool) (x : Option A) → (a ≡ false → x ≡ None) → (if a && not m then None else x) ≡ (if m then x else None)
  last_step true true x h = refl
  last_step true false x h = refl
  last_step false true x h = refl
  last_step false false x h = h refl

  pub marks_end : (marks : List Bool) (n : ℕ) (held : Numbering A) → ((i : ℕ) → n ≤ i → held i ≡ None) → marked_below marks n held ≡ marked_only marks held
  marks_end marks n held past = λ t j. last_step (nat_lt j n) (is_marked marks j) (held j) (λ e. past j (ltb-false j n e)) t

  pub marks_next : (marks : List Bool) (n : ℕ) (held now new : Numbering A) → now ≡ marked_below marks n held → new ≡ (if is_marked marks n then now else without now n) → new ≡ marked_below marks (n + 1) held
  marks_next marks n held now new h g = elim (is_marked marks n) as (λ b. is_marked marks n ≡ b → new ≡ (if b then now else without now n) → new ≡ marked_below marks (n + 1) held) [
    | true ↦ λ e f. f ∙ h ∙ marks_pass marks n held e
    | false ↦ λ e f. f ∙ ap (λ k. without k n) h ∙ marks_free marks n held e
  ] refl g

  pub still_unmarked : (marks : List Bool) (held : Numbering A) (i : ℕ) → held i ≡ None → marked_only marks held i ≡ None
  still_unmarked marks held i free = by (is_marked marks i)
    where
      by : (b : Bool) → (if b then held i else None) ≡ None
      by true = free
      by false = refl

  same_choice : (a b : Bool) (x : Option A) → (a ≡ b) → (if a then x else None) ≡ (if b then x else None)
  same_choice a b x e = ap (λ c. if c then x else None) e

  none_choice : (a b : Bool) (x : Option A) → x ≡ None → (if a then x else None) ≡ (if b then x else None)
  none_choice true true x e = refl
  none_choice true false x e = e
  none_choice false true x e = sym e
  none_choice false false x e = refl

  -- marks on just these numbers
  pub only_marked : (marks : List Bool) (numbers : List ℕ) (held : Numbering A)
      → ((i : ℕ) → i < length marks → is_marked marks i ≡ is_in numbers i) → ((i : ℕ) → length marks ≤ i → held i ≡ None)
      → marked_only marks held ≡ only numbers held
  only_marked marks numbers held marked past = λ t j. at j t
    where
      at : (j : ℕ) → marked_only marks held j ≡ only numbers held j
      at j = elim (nat_lt j (length marks)) as (λ b. nat_lt j (length marks) ≡ b → marked_only marks held j ≡ only numbers held j) [
        | true ↦ λ e. same_choice (is_marked marks j) (is_in numbers j) (held j) (marked j (ltb-true j (length marks) e))
        | false ↦ λ e. none_choice (is_marked marks j) (is_in numbers j) (held j) (past j (ltb-false j (length marks) e))
      ] refl

-- the numbers of one more read set
or_nothing : (a : Bool) → (a || false) ≡ a
or_nothing true = refl
or_nothing false = refl

pub in_more : {R : Type 0} (f : R → List ℕ) (before after : List R) (x : R) (i : ℕ) → after ≡ before ++ x ∷ []
    → is_in (flat_map f after) i ≡ (is_in (flat_map f before) i || is_in (f x) i)
in_more f before after x i more =
    ap (λ xs. is_in (flat_map f xs) i) more
    ∙ ap (λ ns. is_in ns i) (flat_map-append f before (x ∷ []))
    ∙ list_any-append (λ j. j == i) (flat_map f before) (flat_map f (x ∷ []))
    ∙ ap (λ b. is_in (flat_map f before) i || b) (one i)
  where
    one : (i : ℕ) → is_in (flat_map f (x ∷ [])) i ≡ is_in (f x) i
    one i = list_any-append (λ j. j == i) (f x) [] ∙ or_nothing (is_in (f x) i)

pub more_marked : {R : Type 0} (f : R → List ℕ) (before after : List R) (x : R) (now new : List Bool) (i : ℕ) (m : Bool)
    → is_marked now i ≡ is_in (flat_map f before) i → is_marked new i ≡ (is_marked now i || m) → m ≡ is_in (f x) i
    → after ≡ before ++ x ∷ [] → is_marked new i ≡ is_in (flat_map f after) i
more_marked f before after x now new i m h g e more =
    g ∙ ap (λ b. b || m) h ∙ ap (λ b. is_in (flat_map f before) i || b) e ∙ sym (in_more f before after x i more)
