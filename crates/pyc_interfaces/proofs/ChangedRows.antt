-- What differs between two rows: where the pair of a thing is, and by rows of the code.
use Rattle.std.proofs.Common.{◌≡◌, ℕ, zero, suc, ◌+◌, ◌≤◌, ◌||◌, Bool, true, false, cond, if◌then◌else◌, bytes_eq}
use Rattle.std.proofs.Common.{List, [], ◌∷◌, ◌++◌, map, take, drop, get_or, None, Some, refl, sym, ap, ◌∙◌, arith, add-one}
use Rattle.std.proofs.Common.{◌-◌, ◌<◌, length, drop-cons, length-drop}
use Rattle.std.specs.List.{list_any, position_from}
use Rattle.pyc_bindings.specs.BindingView.{binding_of}
use Rattle.pyc_bindings.specs.declared.binding.Binding.{Binding as BindingOf}
use Rattle.pyc_interfaces.specs.ChangedLooks.{pair_looks, looks_alone, looks_from_pair, changes, binding_name, attribute_name, binding_changes, attribute_changes}
use Rattle.pyc_interfaces.specs.SameInterfaces.{same_binding, same_attribute}
use Rattle.pyc_members.specs.AttributeView.{attribute_of}
use Rattle.pyc_members.specs.declared.attribute.SelfAttribute.{SelfAttribute as SelfAttributeOf}
use Rattle.pyc_names.specs.Looks.{Look}
use Rattle.pyc_names.specs.NotedLooks.{Noted, with_looks}
use Rattle.pyc_names.proofs.NotedLemmas.{with_none, with_both}

-- ---- lists

pub drop_past : {X : Type 0} (i : ℕ) (xs : List X) → length xs ≤ i → drop i xs ≡ []
drop_past zero [] h = refl
drop_past zero (x ∷ xs) h = absurd (omega arith)
drop_past (suc i) [] h = refl
drop_past (suc i) (x ∷ xs) h = drop_past i xs (omega arith)

take_all : {X : Type 0} (n : ℕ) (xs : List X) → length xs ≤ n → take n xs ≡ xs
take_all zero [] h = refl
take_all zero (x ∷ xs) h = absurd (omega arith)
take_all (suc n) [] h = refl
take_all (suc n) (x ∷ xs) h = ap (λ l. x ∷ l) (take_all n xs (omega arith))

-- what follows so many
pub after : {X : Type 0} (n : ℕ) (xs : List X) → take (length xs - n) (drop n xs) ≡ drop n xs
after n xs = take_all (length xs - n) (drop n xs) (omega (arith, length-drop n xs))

-- one more
pub drop_next : {X : Type 0} (i : ℕ) (xs : List X) (x : X) → i < length xs → x ≡ get_or xs i x
    → x ∷ drop (i + 1) xs ≡ drop i xs
drop_next i xs x within is = rw (add-one, drop-cons xs i x) (ap (λ z. z ∷ drop (suc i) xs) is)

-- ---- the pair of a thing

from_here : {X : Type 0} (t : X → Bool) (n i : ℕ) (xs : List X) (b : Bool)
    → (position_from t (n + 1) xs ≡ Some i → n + 1 ≤ i) → cond b (Some n) (position_from t (n + 1) xs) ≡ Some i → n ≤ i
from_here t n i xs true next h = let e : n ≡ i = cc in omega arith
from_here t n i xs false next h = let after : n + 1 ≤ i = next h in omega arith

-- a place is not before the first
place_from : {X : Type 0} (t : X → Bool) (n i : ℕ) (xs : List X) → position_from t n xs ≡ Some i → n ≤ i
place_from t n i [] h = cc
place_from t n i (x ∷ xs) h = from_here t n i xs (t x) (place_from t (n + 1) i xs) h

-- a place, by how far it is from the first
abbrev place_is : {X : Type 0} → (X → Bool) → ℕ → List X → ℕ → Type 0
place_is t n xs k = position_from t n xs ≡ Some (n + k)

none_here : {X : Type 0} (t : X → Bool) (n : ℕ) (xs : List X) (b : Bool)
    → (position_from t (n + 1) xs ≡ None → list_any t xs ≡ false)
    → cond b (Some n) (position_from t (n + 1) xs) ≡ None → (b || list_any t xs) ≡ false
none_here t n xs true next h = cc
none_here t n xs false next h = next h

-- none passes that has no place
pub no_place : {X : Type 0} (t : X → Bool) (n : ℕ) (xs : List X) → position_from t n xs ≡ None → list_any t xs ≡ false
no_place t n [] h = refl
no_place t n (x ∷ xs) h = none_here t n xs (t x) (no_place t (n + 1) xs) h

some_here : {X : Type 0} (t : X → Bool) (n i : ℕ) (xs : List X) (b : Bool)
    → (position_from t (n + 1) xs ≡ Some i → list_any t xs ≡ true)
    → cond b (Some n) (position_from t (n + 1) xs) ≡ Some i → (b || list_any t xs) ≡ true
some_here t n i xs true next h = refl
some_here t n i xs false next h = next h

-- one passes that has a place
pub some_place : {X : Type 0} (t : X → Bool) (n i : ℕ) (xs : List X) → position_from t n xs ≡ Some i → list_any t xs ≡ true
some_place t n i [] h = cc
some_place t n i (x ∷ xs) h = some_here t n i xs (t x) (some_place t (n + 1) i xs) h

module _ {X : Type 0} (name : X → List ℕ) (is_same : X → X → Bool) (look : List ℕ → Look) where
  -- what differs up to the pair, which has this place, and what follows it
  abbrev from_place : X → X → (List X → List Look) → List X → ℕ → List Look
  from_place d x further ys k =
      looks_alone name is_same look (take k ys)
      ++ (pair_looks name is_same look x (get_or ys k d) ++ further (drop (suc k) ys))

  pair_here : (d x : X) (further : List X → List Look) (n k : ℕ) (y : X) (ys : List X) (b : Bool)
      → ((j : ℕ) → place_is (λ z. bytes_eq (name z) (name x)) (n + 1) ys j
      → looks_from_pair name is_same look x further ys ≡ from_place d x further ys j)
      → cond b (Some n) (position_from (λ z. bytes_eq (name z) (name x)) (n + 1) ys) ≡ Some (n + k)
      → (if b then pair_looks name is_same look x y ++ further ys
      else look (name y) ∷ looks_from_pair name is_same look x further ys)
      ≡ from_place d x further (y ∷ ys) k
  pair_here d x further n zero y ys true next h = refl
  pair_here d x further n (suc k) y ys true next h = let e : n ≡ n + suc k = cc in absurd (omega arith)
  pair_here d x further n zero y ys false next h =
      let after : n + 1 ≤ n + zero = place_from (λ z. bytes_eq (name z) (name x)) (n + 1) (n + zero) ys h in
      absurd (omega arith)
  pair_here d x further n (suc k) y ys false next h =
      let e : n + suc k ≡ (n + 1) + k = omega arith in
      ap (λ l. look (name y) ∷ l) (next k (h ∙ ap Some e))

  -- the things before a pair differ, and what follows it is gone through further
  pair_from : (d x : X) (further : List X → List Look) (n k : ℕ) (ys : List X)
      → place_is (λ z. bytes_eq (name z) (name x)) n ys k
      → looks_from_pair name is_same look x further ys ≡ from_place d x further ys k
  pair_from d x further n k [] h = cc
  pair_from d x further n k (y ∷ ys) h =
      pair_here d x further n k y ys (bytes_eq (name y) (name x)) (λ j. pair_from d x further (n + 1) j ys) h

  has_pair : (x : X) (xs ys : List X) (b : Bool) → b ≡ true
      → (if b then looks_from_pair name is_same look x (changes name is_same look xs) ys
      else look (name x) ∷ changes name is_same look xs ys)
      ≡ looks_from_pair name is_same look x (changes name is_same look xs) ys
  has_pair x xs ys true h = refl
  has_pair x xs ys false h = cc

  has_none : (x : X) (xs ys : List X) (b : Bool) → b ≡ false
      → (if b then looks_from_pair name is_same look x (changes name is_same look xs) ys
      else look (name x) ∷ changes name is_same look xs ys)
      ≡ look (name x) ∷ changes name is_same look xs ys
  has_none x xs ys true h = cc
  has_none x xs ys false h = refl

  -- what differs, where a thing has its pair at this place
  pub pair_found : (x y : X) (xs ys : List X) (k : ℕ)
      → position_from (λ z. bytes_eq (name z) (name x)) 0 ys ≡ Some k → y ≡ get_or ys k y
      → changes name is_same look (x ∷ xs) ys
      ≡ looks_alone name is_same look (take k ys)
      ++ (pair_looks name is_same look x y ++ changes name is_same look xs (drop (k + 1) ys))
  pair_found x y xs ys k h e =
      let at : k ≡ 0 + k = omega arith in
      has_pair x xs ys (list_any (λ z. bytes_eq (name z) (name x)) ys) (some_place (λ z. bytes_eq (name z) (name x)) 0 k ys h)
      ∙ (pair_from y x (changes name is_same look xs) 0 k ys (h ∙ ap Some at) ∙ (ap (λ z. looks_alone name is_same look (take k ys) ++ (pair_looks name is_same look x z ++ changes name is_same look xs (drop (suc k) ys))) (sym e) ∙ rw add-one refl))

  -- and where it has none
  pub pair_missing : (x : X) (xs ys : List X)
      → position_from (λ z. bytes_eq (name z) (name x)) 0 ys ≡ None
      → changes name is_same look (x ∷ xs) ys ≡ look (name x) ∷ changes name is_same look xs ys
  pair_missing x xs ys h =
      has_none x xs ys (list_any (λ z. bytes_eq (name z) (name x)) ys) (no_place (λ z. bytes_eq (name z) (name x)) 0 ys h)

  -- ---- what is noted

  pub alone_noted : (noted new whole : Noted) (n : List ℕ) (xs : List X) (i : ℕ) (x : X) → i < length xs
      → x ≡ get_or xs i x → n ≡ name x → new ≡ with_looks noted (look n ∷ [])
      → with_looks noted (looks_alone name is_same look (drop i xs)) ≡ whole
      → with_looks new (looks_alone name is_same look (drop (i + 1) xs)) ≡ whole
  alone_noted noted new whole n xs i x within is named noted_is so_far =
      ap (λ z. with_looks z (looks_alone name is_same look (drop (i + 1) xs))) noted_is
      ∙ (with_both noted (look n ∷ []) (looks_alone name is_same look (drop (i + 1) xs))
      ∙ (ap (λ z. with_looks noted (look z ∷ looks_alone name is_same look (drop (i + 1) xs))) named
      ∙ (ap (λ l. with_looks noted (looks_alone name is_same look l)) (drop_next i xs x within is) ∙ so_far)))

  pub alone_done : (noted whole : Noted) (xs : List X) (i : ℕ) → length xs ≤ i
      → with_looks noted (looks_alone name is_same look (drop i xs)) ≡ whole → noted ≡ whole
  alone_done noted whole xs i past so_far =
      sym (with_none noted)
      ∙ (ap (λ l. with_looks noted (looks_alone name is_same look l)) (sym (drop_past i xs past)) ∙ so_far)

  pub pair_noted : (old one two : Noted) (n : List ℕ) (x y : X) (rest ys left : List X) (k : ℕ) → n ≡ name x
      → position_from (λ z. bytes_eq (name z) n) 0 ys ≡ Some k → y ≡ get_or ys k y → left ≡ drop (k + 1) ys
      → one ≡ with_looks old (looks_alone name is_same look (take k ys))
      → two ≡ with_looks one (pair_looks name is_same look x y)
      → with_looks two (changes name is_same look rest left) ≡ with_looks old (changes name is_same look (x ∷ rest) ys)
  pair_noted old one two n x y rest ys left k named h is left_is one_is two_is =
      let further : List Look = changes name is_same look rest (drop (k + 1) ys) in
      let pair : List Look = pair_looks name is_same look x y in
      let before : List Look = looks_alone name is_same look (take k ys) in
      ap (λ l. with_looks two (changes name is_same look rest l)) left_is
      ∙ (ap (λ z. with_looks z further) two_is
      ∙ (with_both one pair further
      ∙ (ap (λ z. with_looks z (pair ++ further)) one_is
      ∙ (with_both old before (pair ++ further)
      ∙ ap (with_looks old)
      (sym (pair_found x y rest ys k (ap (λ m. position_from (λ z. bytes_eq (name z) m) 0 ys) (sym named) ∙ h) is))))))

  pub missing_noted : (old new : Noted) (n m : List ℕ) (x : X) (rest ys : List X) → n ≡ name x → m ≡ name x
      → position_from (λ z. bytes_eq (name z) n) 0 ys ≡ None → new ≡ with_looks old (look m ∷ [])
      → with_looks new (changes name is_same look rest ys) ≡ with_looks old (changes name is_same look (x ∷ rest) ys)
  missing_noted old new n m x rest ys named named_so h new_is =
      ap (λ z. with_looks z (changes name is_same look rest ys)) new_is
      ∙ (with_both old (look m ∷ []) (changes name is_same look rest ys)
      ∙ (ap (λ z. with_looks old (look z ∷ changes name is_same look rest ys)) named_so
      ∙ ap (with_looks old)
      (sym (pair_missing x rest ys (ap (λ o. position_from (λ z. bytes_eq (name z) o) 0 ys) (sym named) ∙ h)))))

-- ---- by rows of the code

module _ {X Y : Type 0} (f : X → Y) (name : Y → List ℕ) (is_same : Y → Y → Bool) (look : List ℕ → Look) where
  abbrev name_by : X → List ℕ
  name_by x = name (f x)

  abbrev same_by : X → X → Bool
  same_by x y = is_same (f x) (f y)

  pub alone_by : (xs : List X) → looks_alone name_by same_by look xs ≡ looks_alone name is_same look (map f xs)
  alone_by [] = refl
  alone_by (x ∷ xs) = ap (λ l. look (name (f x)) ∷ l) (alone_by xs)

  any_by : (n : List ℕ) (ys : List X)
      → list_any (λ y. bytes_eq (name (f y)) n) ys ≡ list_any (λ y. bytes_eq (name y) n) (map f ys)
  any_by n [] = refl
  any_by n (y ∷ ys) = ap (λ b. bytes_eq (name (f y)) n || b) (any_by n ys)

  pair_by : (x : X) (further : List X → List Look) (others : List Y → List Look)
      → ((ys : List X) → further ys ≡ others (map f ys)) → (ys : List X)
      → looks_from_pair name_by same_by look x further ys ≡ looks_from_pair name is_same look (f x) others (map f ys)
  pair_by x further others e [] = refl
  pair_by x further others e (y ∷ ys) = rw (e ys, pair_by x further others e ys) refl

  pub changes_by : (xs ys : List X)
      → changes name_by same_by look xs ys ≡ changes name is_same look (map f xs) (map f ys)
  changes_by [] ys = alone_by ys
  changes_by (x ∷ xs) ys =
      rw (any_by (name (f x)) ys, pair_by x (changes name_by same_by look xs) (changes name is_same look (map f xs)) (changes_by xs) ys, changes_by xs ys) refl

pub binding_rows : (look : List ℕ → Look) (xs ys : List BindingOf)
    → changes (λ (b : BindingOf). b.name) (λ (b c : BindingOf). same_binding (binding_of b) (binding_of c)) look xs ys
    ≡ binding_changes look (map binding_of xs) (map binding_of ys)
binding_rows look xs ys = changes_by binding_of binding_name same_binding look xs ys

pub attribute_rows : (look : List ℕ → Look) (xs ys : List SelfAttributeOf)
    → changes (λ (a : SelfAttributeOf). a.name) (λ (a b : SelfAttributeOf). same_attribute (attribute_of a) (attribute_of b)) look xs ys
    ≡ attribute_changes look (map attribute_of xs) (map attribute_of ys)
attribute_rows look xs ys = changes_by attribute_of attribute_name same_attribute look xs ys

pub bindings_alone : (look : List ℕ → Look) (xs : List BindingOf)
    → looks_alone (λ (b : BindingOf). b.name) (λ (b c : BindingOf). same_binding (binding_of b) (binding_of c)) look xs
    ≡ looks_alone binding_name same_binding look (map binding_of xs)
bindings_alone look xs = alone_by binding_of binding_name same_binding look xs

pub attributes_alone : (look : List ℕ → Look) (xs : List SelfAttributeOf)
    → looks_alone (λ (a : SelfAttributeOf). a.name) (λ (a b : SelfAttributeOf). same_attribute (attribute_of a) (attribute_of b)) look xs
    ≡ looks_alone attribute_name same_attribute look (map attribute_of xs)
attributes_alone look xs = alone_by attribute_of attribute_name same_attribute look xs
