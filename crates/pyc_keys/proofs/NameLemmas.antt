-- Texts by number.
use Rattle.std.proofs.Common.{◌≡◌, ◌≢◌, ℕ, zero, suc, Bool, true, false, ◌||◌, cond, List, [], ◌∷◌, ◌++◌, map, length, None, Some, if◌then◌else◌, refl, sym, ap, ◌∙◌, arith, true≢false}
use Rattle.std.specs.Prelude.{bytes_eq, slice_get}
use Rattle.std.specs.List.{list_any, find}
use Rattle.std.specs.Option.{option_map}
use Rattle.std.proofs.lemmas.List.{map-append}
use Rattle.std.proofs.lemmas.Option.{slice_get-map, slice_get_past}
use Rattle.std.proofs.lemmas.Slice.Eq.{bytes_eq-Decides}
use Rattle.pyc_keys.specs.NameNumbers.{text_at}
use Rattle.pyc_keys.specs.Numbering.{with_item, IsInjective}
use Rattle.pyc_keys.proofs.NumberingLemmas.{none_some, same_some, injective_with, changed_at}

or_false : (a b : Bool) → (a || b) ≡ false → (a ≡ false) × (b ≡ false)
or_false true b h = absurd (true≢false h)
or_false false b h = (refl, h)

module _ {X : Type 0} (f : X → List ℕ) (text : List ℕ) where
  find_passes : (xs : List X) (k : X) → find (λ x. bytes_eq text (f x)) xs ≡ Some k → bytes_eq text (f k) ≡ true
  find_passes [] k h = absurd (none_some h)
  find_passes (x ∷ xs) k h = by (bytes_eq text (f x)) refl (find_passes xs k)
    where
      by : (b : Bool) → bytes_eq text (f x) ≡ b
          → (find (λ y. bytes_eq text (f y)) xs ≡ Some k → bytes_eq text (f k) ≡ true) → bytes_eq text (f k) ≡ true
      by true p rest =
          ap (λ y. bytes_eq text (f y)) (sym (same_some (sym (ap (λ c. cond c (Some x) (find (λ y. bytes_eq text (f y)) xs)) p) ∙ h))) ∙ p
      by false p rest = rest (sym (ap (λ c. cond c (Some x) (find (λ y. bytes_eq text (f y)) xs)) p) ∙ h)

  -- the item that is found has the text
  pub found_text : (xs : List X) (i : ℕ) (k : X) → slice_get xs i ≡ Some k → find (λ x. bytes_eq text (f x)) xs ≡ Some k
      → text_at (map f xs) i ≡ Some text
  found_text xs i k at found =
      slice_get-map f xs i ∙ ap (option_map f) at
      ∙ ap (λ t. Some t) (sym ((bytes_eq-Decides text (f k)).0 (find_passes xs k found)))

  -- where none is found no item has the text
  pub no_text : (xs : List X) → list_any (λ x. bytes_eq text (f x)) xs ≡ false → (i : ℕ) → text_at (map f xs) i ≢ Some text
  no_text [] h i e = none_some e
  no_text (x ∷ xs) h zero e =
      true≢false (sym ((bytes_eq-Decides text (f x)).1 (sym (same_some e))) ∙ (or_false (bytes_eq text (f x)) (list_any (λ y. bytes_eq text (f y)) xs) h).0)
  no_text (x ∷ xs) h (suc i) e =
      no_text xs (or_false (bytes_eq text (f x)) (list_any (λ y. bytes_eq text (f y)) xs) h).1 i e

  pub none_found : (xs : List X) → ((i : ℕ) → text_at (map f xs) i ≢ Some text) → list_any (λ x. bytes_eq text (f x)) xs ≡ false
  none_found [] h = refl
  none_found (x ∷ xs) h = by (bytes_eq text (f x)) refl (none_found xs (λ i. h (suc i)))
    where
      by : (b : Bool) → bytes_eq text (f x) ≡ b → list_any (λ y. bytes_eq text (f y)) xs ≡ false
          → list_any (λ y. bytes_eq text (f y)) (x ∷ xs) ≡ false
      by true p rest = absurd (h zero (ap (λ t. Some t) (sym ((bytes_eq-Decides text (f x)).0 p))))
      by false p rest = ap (λ b. b || list_any (λ y. bytes_eq text (f y)) xs) p ∙ rest

  -- one item more, whose text is new
  pub listed_more : (xs ys : List X) (k : X) → ys ≡ (if list_any (λ x. bytes_eq (f k) (f x)) xs then xs else xs ++ k ∷ [])
      → f k ≡ text → ((i : ℕ) → text_at (map f xs) i ≢ Some text) → map f ys ≡ map f xs ++ text ∷ []
  listed_more xs ys k listed is absent =
      ap (map f) (listed ∙ ap (λ b. if b then xs else xs ++ k ∷ []) (ap (λ t. list_any (λ x. bytes_eq t (f x)) xs) is ∙ none_found xs absent))
      ∙ map-append f xs (k ∷ []) ∙ ap (λ t. map f xs ++ t ∷ []) is

-- one text more, as a map
at_end : (texts : List (List ℕ)) (text : List ℕ) → text_at (texts ++ text ∷ []) (length texts) ≡ Some text
at_end [] text = refl
at_end (t ∷ texts) text = at_end texts text

elsewhere : (texts : List (List ℕ)) (text : List ℕ) (j : ℕ) → j ≢ length texts → text_at (texts ++ text ∷ []) j ≡ text_at texts j
elsewhere [] text zero h = absurd (h refl)
elsewhere [] text (suc j) h = refl
elsewhere (t ∷ texts) text zero h = refl
elsewhere (t ∷ texts) text (suc j) h = elsewhere texts text j (λ e. h (ap suc e))

more_is : (texts : List (List ℕ)) (text : List ℕ) → text_at (texts ++ text ∷ []) ≡ with_item (text_at texts) (length texts) text
more_is texts text = changed_at (text_at texts) (text_at (texts ++ text ∷ [])) (length texts) text (at_end texts text) (elsewhere texts text)

pub more_texts : (old new : List (List ℕ)) (text : List ℕ) (i : ℕ) → new ≡ old ++ text ∷ [] → i ≡ length old
    → text_at new ≡ with_item (text_at old) i text
more_texts old new text i listed last =
    ap text_at listed ∙ more_is old text ∙ ap (λ n. with_item (text_at old) n text) (sym last)

pub past_free : (texts : List (List ℕ)) (i : ℕ) → i ≡ length texts → text_at texts i ≡ None
past_free texts i last = slice_get_past texts i (omega (arith, last))

-- no text has two numbers where a new one is added
pub still_distinct : (texts : List (List ℕ)) (text : List ℕ) → IsInjective (text_at texts) → ((i : ℕ) → text_at texts i ≢ Some text)
    → IsInjective (text_at (texts ++ text ∷ []))
still_distinct texts text distinct absent =
    λ i j item h g.
    injective_with (text_at texts) (length texts) text distinct absent i j item
    (sym (ap (λ f. f i) (more_is texts text)) ∙ h) (sym (ap (λ f. f j) (more_is texts text)) ∙ g)
