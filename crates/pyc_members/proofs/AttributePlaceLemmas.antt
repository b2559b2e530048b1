-- Places of attributes by their names.
use Rattle.std.proofs.Common.{◌≡◌, ℕ, zero, suc, ◌+◌, ◌-◌, ◌<◌, ◌≤◌, Bool, true, false, ◌&&◌, cond, bytes_eq}
use Rattle.std.proofs.Common.{List, [], ◌∷◌, map, drop, length, get_or, slice_get, Option, None, Some}
use Rattle.std.proofs.Common.{refl, sym, ap, ◌∙◌, arith, drop-cons}
use Rattle.std.specs.List.{position_from}
use Rattle.std.proofs.lemmas.List.{length-map}
use Rattle.pyc_bindings.proofs.PlaceLemmas.{chosen, found_at, place_within}
use Rattle.pyc_members.specs.Attributes.{SelfAttribute}
use Rattle.pyc_members.specs.AttributePlaces.{is_of_kind, attribute_place, first_attribute}
use Rattle.pyc_members.specs.AttributeView.{attribute_of}
use Rattle.pyc_members.specs.declared.attribute.SelfAttribute.{SelfAttribute as AttributeOf}

-- a place is chosen by both tests, or by one and then the other
both : (a b : Bool) (x old : Option ℕ) → cond b (cond a x old) old ≡ cond (a && b) x old
both true true x old = refl
both true false x old = refl
both false true x old = refl
both false false x old = refl

-- the first attribute of each name, one attribute more
pub attribute_more : (are : Bool) (n : List ℕ) (attributes : List AttributeOf) (left : ℕ) (a : AttributeOf) (old new : Option ℕ)
    (kept : Bool) (key : List ℕ) → 0 < left → left ≤ length attributes → a ≡ get_or attributes (left - 1) a
    → key ≡ (attribute_of a).name → kept ≡ is_of_kind are (attribute_of a).form
    → new ≡ cond kept (cond (bytes_eq key n) (Some (left - 1)) old) old
    → old ≡ position_from (λ (b : SelfAttribute). bytes_eq b.name n && is_of_kind are b.form) left (map attribute_of (drop left attributes))
    → new ≡ position_from (λ (b : SelfAttribute). bytes_eq b.name n && is_of_kind are b.form) (left - 1)
    (map attribute_of (drop (left - 1) attributes))
attribute_more are n attributes left a old new kept key some within is named kind put before =
    let t : SelfAttribute → Bool = λ b. bytes_eq b.name n && is_of_kind are b.form in
    let below : left - 1 < length attributes = omega arith in
    let next : suc (left - 1) ≡ left = omega arith in
    let onward : left - 1 + 1 ≡ left = omega arith in
    let first : drop (left - 1) attributes ≡ a ∷ drop left attributes =
    drop-cons attributes (left - 1) a below ∙ ap (λ x. x ∷ drop (suc (left - 1)) attributes) (sym is)
    ∙ ap (λ i. a ∷ drop i attributes) next in
    put ∙ ap (λ k. cond kept (cond (bytes_eq k n) (Some (left - 1)) old) old) named
    ∙ ap (λ k. cond k (cond (bytes_eq (attribute_of a).name n) (Some (left - 1)) old) old) kind
    ∙ both (bytes_eq (attribute_of a).name n) (is_of_kind are (attribute_of a).form) (Some (left - 1)) old
    ∙ ap (cond (t (attribute_of a)) (Some (left - 1)))
    (before ∙ ap (λ i. position_from t i (map attribute_of (drop left attributes))) (sym onward))
    ∙ ap (λ l. position_from t (left - 1) (map attribute_of l)) (sym first)

-- the plain attribute of one is the plain one at its place
attribute_there : (attributes : List AttributeOf) (i : ℕ) (a : AttributeOf) → i < length attributes
    → a ≡ get_or attributes i a → Some (attribute_of a) ≡ slice_get (map attribute_of attributes) i
attribute_there [] i a within is = absurd (omega arith)
attribute_there (x ∷ attributes) zero a within is = ap (λ (x : AttributeOf). Some (attribute_of x)) is
attribute_there (x ∷ attributes) (suc i) a within is =
    let below : i < length attributes = omega arith in attribute_there attributes i a below is

module _ (are : Bool) (attributes : List AttributeOf) (n : List ℕ) where
  -- the place of a name is within the attributes
  pub placed_within : (i : ℕ) → Some i ≡ attribute_place are (map attribute_of attributes) n → i < length attributes
  placed_within i placed =
      let below : i < 0 + length (map attribute_of attributes) =
      place_within (λ (b : SelfAttribute). bytes_eq b.name n && is_of_kind are b.form) 0 i (map attribute_of attributes) (sym placed) in
      omega (arith, length-map attributes attribute_of)

  -- where a name has no place, there is none of it
  pub placed_never : None ≡ attribute_place are (map attribute_of attributes) n
      → None ≡ first_attribute are (map attribute_of attributes) n
  placed_never placed =
      ap (λ p. chosen p (map attribute_of attributes)) placed
      ∙ sym (found_at (λ (b : SelfAttribute). bytes_eq b.name n && is_of_kind are b.form) [] (map attribute_of attributes))

  -- the first of a name is the attribute at its place
  pub placed_at : (i : ℕ) (a : AttributeOf) → a ≡ get_or attributes i a
      → Some i ≡ attribute_place are (map attribute_of attributes) n
      → Some (attribute_of a) ≡ first_attribute are (map attribute_of attributes) n
  placed_at i a is placed =
      attribute_there attributes i a (placed_within i placed) is ∙ ap (λ p. chosen p (map attribute_of attributes)) placed
      ∙ sym (found_at (λ (b : SelfAttribute). bytes_eq b.name n && is_of_kind are b.form) [] (map attribute_of attributes))
