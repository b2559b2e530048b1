-- Places of bindings by their names.
use Rattle.std.proofs.Common.{◌≡◌, ℕ, zero, suc, ◌+◌, ◌-◌, ◌<◌, ◌≤◌, Bool, true, false, cond, bytes_eq}
use Rattle.std.proofs.Common.{List, [], ◌∷◌, ◌++◌, map, take, drop, length, get_or, slice_get, Option, None, Some}
use Rattle.std.proofs.Common.{refl, sym, ap, ◌∙◌, arith, append_assoc, length-append, drop-cons}
use Rattle.std.specs.List.{find, position_from}
use Rattle.std.proofs.lemmas.List.{length-map}
use Rattle.pyc_bindings.specs.Bindings.{Binding}
use Rattle.pyc_bindings.specs.BindingView.{binding_of}
use Rattle.pyc_bindings.specs.FirstBindings.{declaration_place}
use Rattle.pyc_bindings.specs.Redefinitions.{declaration}
use Rattle.pyc_bindings.specs.declared.binding.Binding.{Binding as BindingOf}

-- ---- the first of a list that passes

-- the element at an index, or none where there is no index
abbrev pub chosen : {X : Type 0} → Option ℕ → List X → Option X
chosen None all = None
chosen (Some i) all = slice_get all i

at_length : {X : Type 0} (pre xs : List X) (x : X) → slice_get (pre ++ x ∷ xs) (length pre) ≡ Some x
at_length [] xs x = refl
at_length (y ∷ pre) xs x = at_length pre xs x

found_here : {X : Type 0} (t : X → Bool) (pre xs : List X) (x : X) (b : Bool)
    → find t xs ≡ chosen (position_from t (length pre + 1) xs) (pre ++ x ∷ xs)
    → cond b (Some x) (find t xs) ≡ chosen (cond b (Some (length pre)) (position_from t (length pre + 1) xs)) (pre ++ x ∷ xs)
found_here t pre xs x true next = sym (at_length pre xs x)
found_here t pre xs x false next = next

-- the first that passes is at the first place that passes
pub found_at : {X : Type 0} (t : X → Bool) (pre xs : List X)
    → find t xs ≡ chosen (position_from t (length pre) xs) (pre ++ xs)
found_at t pre [] = refl
found_at t pre (x ∷ xs) =
    let longer : length (pre ++ x ∷ []) ≡ length pre + 1 = length-append pre (x ∷ []) in
    found_here t pre xs x (t x)
    (found_at t (pre ++ x ∷ []) xs ∙ ap (λ n. chosen (position_from t n xs) ((pre ++ x ∷ []) ++ xs)) longer
    ∙ ap (chosen (position_from t (length pre + 1) xs)) (append_assoc pre (x ∷ []) xs))

within_here : {X : Type 0} (t : X → Bool) (n i : ℕ) (xs : List X) (b : Bool)
    → (position_from t (n + 1) xs ≡ Some i → i < (n + 1) + length xs)
    → cond b (Some n) (position_from t (n + 1) xs) ≡ Some i → i < n + suc (length xs)
within_here t n i xs true next h = let e : n ≡ i = cc in omega arith
within_here t n i xs false next h = let below : i < (n + 1) + length xs = next h in omega arith

-- a place is within
pub place_within : {X : Type 0} (t : X → Bool) (n i : ℕ) (xs : List X)
    → position_from t n xs ≡ Some i → i < n + length xs
place_within t n i [] h = cc
place_within t n i (x ∷ xs) h = within_here t n i xs (t x) (place_within t (n + 1) i xs) h

from_here : {X : Type 0} (t : X → Bool) (n i : ℕ) (xs : List X) (b : Bool)
    → (position_from t (n + 1) xs ≡ Some i → n + 1 ≤ i) → cond b (Some n) (position_from t (n + 1) xs) ≡ Some i → n ≤ i
from_here t n i xs true next h = let e : n ≡ i = cc in omega arith
from_here t n i xs false next h = let after : n + 1 ≤ i = next h in omega arith

-- a place is not before the first
place_from : {X : Type 0} (t : X → Bool) (n i : ℕ) (xs : List X) → position_from t n xs ≡ Some i → n ≤ i
place_from t n i [] h = cc
place_from t n i (x ∷ xs) h = from_here t n i xs (t x) (place_from t (n + 1) i xs) h

early_here : {X : Type 0} (t : X → Bool) (n i : ℕ) (x : X) (xs : List X) (few : Option X) (b : Bool)
    → (position_from t (n + 1) xs ≡ Some i → few ≡ find t xs) → cond b (Some n) (position_from t (n + 1) xs) ≡ Some i
    → cond b (Some x) few ≡ cond b (Some x) (find t xs)
early_here t n i x xs few true next h = refl
early_here t n i x xs few false next h = next h

-- the first that passes is among so many of the first, where its place is
pub found_early : {X : Type 0} (t : X → Bool) (n k i : ℕ) (xs : List X)
    → position_from t n xs ≡ Some i → i < n + k → find t (take k xs) ≡ find t xs
found_early t n zero i xs h before = let after : n ≤ i = place_from t n i xs h in absurd (omega arith)
found_early t n (suc k) i [] h before = refl
found_early t n (suc k) i (x ∷ xs) h before =
    early_here t n i x xs (find t (take k xs)) (t x) (λ e. found_early t (n + 1) k i xs e (omega arith)) h

late_here : {X : Type 0} (t : X → Bool) (n k i : ℕ) (x : X) (xs : List X) (few : Option X) (b : Bool) → n + suc k ≤ i
    → (position_from t (n + 1) xs ≡ Some i → few ≡ None) → cond b (Some n) (position_from t (n + 1) xs) ≡ Some i
    → cond b (Some x) few ≡ None
late_here t n k i x xs few true past next h = let e : n ≡ i = cc in absurd (omega arith)
late_here t n k i x xs few false past next h = next h

-- none of so many of the first passes, where the place of the first that does is later
pub found_late : {X : Type 0} (t : X → Bool) (n k i : ℕ) (xs : List X)
    → position_from t n xs ≡ Some i → n + k ≤ i → find t (take k xs) ≡ None
found_late t n zero i xs h past = refl
found_late t n (suc k) i [] h past = refl
found_late t n (suc k) i (x ∷ xs) h past =
    late_here t n k i x xs (find t (take k xs)) (t x) past (λ e. found_late t (n + 1) k i xs e (omega arith)) h

never_here : {X : Type 0} (t : X → Bool) (n : ℕ) (x : X) (xs : List X) (few : Option X) (b : Bool)
    → (position_from t (n + 1) xs ≡ None → few ≡ None) → cond b (Some n) (position_from t (n + 1) xs) ≡ None
    → cond b (Some x) few ≡ None
never_here t n x xs few true next h = cc
never_here t n x xs few false next h = next h

-- nor where none does at all
pub found_never : {X : Type 0} (t : X → Bool) (n k : ℕ) (xs : List X)
    → position_from t n xs ≡ None → find t (take k xs) ≡ None
found_never t n zero xs h = refl
found_never t n (suc k) [] h = refl
found_never t n (suc k) (x ∷ xs) h =
    never_here t n x xs (find t (take k xs)) (t x) (λ e. found_never t (n + 1) k xs e) h

-- ---- bindings

-- the first binding of each name, one binding more
pub binding_more : (n : List ℕ) (bindings : List BindingOf) (left : ℕ) (b : BindingOf) (old new : Option ℕ) (key : List ℕ)
    → 0 < left → left ≤ length bindings → b ≡ get_or bindings (left - 1) b → key ≡ b.name
    → new ≡ cond (bytes_eq key n) (Some (left - 1)) old
    → old ≡ position_from (λ (b : Binding). bytes_eq b.name n) left (map binding_of (drop left bindings))
    → new ≡ position_from (λ (b : Binding). bytes_eq b.name n) (left - 1) (map binding_of (drop (left - 1) bindings))
binding_more n bindings left b old new key some within is named put before =
    let t : Binding → Bool = λ b. bytes_eq b.name n in
    let below : left - 1 < length bindings = omega arith in
    let next : suc (left - 1) ≡ left = omega arith in
    let onward : left - 1 + 1 ≡ left = omega arith in
    let first : drop (left - 1) bindings ≡ b ∷ drop left bindings =
    drop-cons bindings (left - 1) b below ∙ ap (λ x. x ∷ drop (suc (left - 1)) bindings) (sym is)
    ∙ ap (λ i. b ∷ drop i bindings) next in
    put ∙ ap (λ k. cond (bytes_eq k n) (Some (left - 1)) old) named
    ∙ ap (cond (t (binding_of b)) (Some (left - 1)))
    (before ∙ ap (λ i. position_from t i (map binding_of (drop left bindings))) (sym onward))
    ∙ ap (λ l. position_from t (left - 1) (map binding_of l)) (sym first)

-- the plain binding of one is the plain one at its place
binding_at : (bindings : List BindingOf) (i : ℕ) (b : BindingOf) → i < length bindings → b ≡ get_or bindings i b
    → Some (binding_of b) ≡ slice_get (map binding_of bindings) i
binding_at [] i b within is = absurd (omega arith)
binding_at (x ∷ bindings) zero b within is = ap (λ (x : BindingOf). Some (binding_of x)) is
binding_at (x ∷ bindings) (suc i) b within is =
    let below : i < length bindings = omega arith in binding_at bindings i b below is

module _ (bindings : List BindingOf) (n : List ℕ) where
  -- the place of a name is within the bindings
  pub declared_within : (i : ℕ) → Some i ≡ declaration_place (map binding_of bindings) n → i < length bindings
  declared_within i placed =
      let below : i < 0 + length (map binding_of bindings) =
      place_within (λ (b : Binding). bytes_eq b.name n) 0 i (map binding_of bindings) (sym placed) in
      omega (arith, length-map bindings binding_of)

  -- a name without a place has no declaration
  pub declared_never : None ≡ declaration_place (map binding_of bindings) n → None ≡ declaration (map binding_of bindings) n
  declared_never placed =
      ap (λ p. chosen p (map binding_of bindings)) placed
      ∙ sym (found_at (λ (b : Binding). bytes_eq b.name n) [] (map binding_of bindings))

  -- the declaration of a name is the binding at its place
  pub declared_at : (i : ℕ) (b : BindingOf) → b ≡ get_or bindings i b
      → Some i ≡ declaration_place (map binding_of bindings) n → Some (binding_of b) ≡ declaration (map binding_of bindings) n
  declared_at i b is placed =
      binding_at bindings i b (declared_within i placed) is ∙ ap (λ p. chosen p (map binding_of bindings)) placed
      ∙ sym (found_at (λ (b : Binding). bytes_eq b.name n) [] (map binding_of bindings))

  -- it is among so many of the first, where its place is
  pub declared_early : (i k : ℕ) (b : BindingOf) → b ≡ get_or bindings i b
      → Some i ≡ declaration_place (map binding_of bindings) n → i < k
      → Some (binding_of b) ≡ declaration (take k (map binding_of bindings)) n
  declared_early i k b is placed before =
      let within : i < 0 + k = omega (arith, before) in
      declared_at i b is placed
      ∙ sym (found_early (λ (b : Binding). bytes_eq b.name n) 0 k i (map binding_of bindings) (sym placed) within)

  -- it is not among them, where its place is later
  pub declared_late : (i k : ℕ) → Some i ≡ declaration_place (map binding_of bindings) n → k ≤ i
      → None ≡ declaration (take k (map binding_of bindings)) n
  declared_late i k placed past =
      let after : 0 + k ≤ i = omega (arith, past) in
      sym (found_late (λ (b : Binding). bytes_eq b.name n) 0 k i (map binding_of bindings) (sym placed) after)

  -- nor where it has no place
  pub undeclared : (k : ℕ) → None ≡ declaration_place (map binding_of bindings) n
      → None ≡ declaration (take k (map binding_of bindings)) n
  undeclared k placed = sym (found_never (λ (b : Binding). bytes_eq b.name n) 0 k (map binding_of bindings) (sym placed))
