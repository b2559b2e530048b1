-- Lists, one element more.
use Rattle.std.proofs.Common.{◌≡◌, ℕ, zero, suc, ◌<◌, Bool, true, false, ◌||◌, List, [], ◌∷◌, ◌++◌, map, filter, flat_map, length, get_or, if◌then◌else◌, refl, sym, ap, ◌∙◌, arith, append_assoc, true≢false}
use Rattle.std.specs.List.{list_any}

module _ {A : Type 0} (p : A → Bool) where
  filter_one : (x : A) → filter p (x ∷ []) ≡ (if p x then x ∷ [] else [])
  filter_one x = refl

  pub filter_append : (xs ys : List A) → filter p (xs ++ ys) ≡ filter p xs ++ filter p ys
  filter_append [] ys = refl
  filter_append (x ∷ xs) ys = by (p x) refl (filter_append xs ys)
    where
      by : (b : Bool) → p x ≡ b → filter p (xs ++ ys) ≡ filter p xs ++ filter p ys → filter p ((x ∷ xs) ++ ys) ≡ filter p (x ∷ xs) ++ filter p ys
      by true e rest = ap (λ b. if b then x ∷ filter p (xs ++ ys) else filter p (xs ++ ys)) e ∙ ap (λ l. x ∷ l) rest ∙ sym (ap (λ b. (if b then x ∷ filter p xs else filter p xs) ++ filter p ys) e)
      by false e rest = ap (λ b. if b then x ∷ filter p (xs ++ ys) else filter p (xs ++ ys)) e ∙ rest ∙ sym (ap (λ b. (if b then x ∷ filter p xs else filter p xs) ++ filter p ys) e)

  pub filter_all : ((x : A) → p x ≡ true) → (xs : List A) → filter p xs ≡ xs
  filter_all h [] = refl
  filter_all h (x ∷ xs) = ap (λ b. if b then x ∷ filter p xs else filter p xs) (h x) ∙ ap (λ l. x ∷ l) (filter_all h xs)

  or_parts : (a b : Bool) → a || b ≡ false → (a ≡ false) × (b ≡ false)
  or_parts true b h = absurd (true≢false h)
  or_parts false b h = (refl, h)

  pub filter_none : (xs : List A) → list_any p xs ≡ false → filter p xs ≡ []
  filter_none [] h = refl
  filter_none (x ∷ xs) h =
      let parts = or_parts (p x) (list_any p xs) h in
      ap (λ b. if b then x ∷ filter p xs else filter p xs) parts.0 ∙ filter_none xs parts.1

  pub none_of : ((x : A) → p x ≡ false) → (xs : List A) → list_any p xs ≡ false
  none_of h [] = refl
  none_of h (x ∷ xs) = ap (λ b. b || list_any p xs) (h x) ∙ none_of h xs

  -- whether one of the flags is set
  pub any_flag : (xs : List A) → list_any (λ flag. flag) (map p xs) ≡ list_any p xs
  any_flag [] = refl
  any_flag (x ∷ xs) = ap (λ b. p x || b) (any_flag xs)

  -- at each place where none holds
  pub none_at : (xs : List A) (x : A) (i : ℕ) → list_any p xs ≡ false → i < length xs → x ≡ get_or xs i x → p x ≡ false
  none_at [] x i h within is = absurd (omega (arith, within))
  none_at (y ∷ ys) x zero h within is = ap p is ∙ (or_parts (p y) (list_any p ys) h).0
  none_at (y ∷ ys) x (suc i) h within is = none_at ys x i (or_parts (p y) (list_any p ys) h).1 (omega (arith, within)) is

module _ {A B : Type 0} where
  -- two functions that agree where nothing is left out
  pub map_where : (f g : A → B) (p : A → Bool) → ((x : A) → p x ≡ false → f x ≡ g x) → (xs : List A) → list_any p xs ≡ false → map f xs ≡ map g xs
  map_where f g p h [] none = refl
  map_where f g p h (x ∷ xs) none =
      let parts = or_parts p (p x) (list_any p xs) none in
      (λ t. h x parts.0 t ∷ map_where f g p h xs parts.1 t)

  pub flat_map_append : (f : A → List B) (xs ys : List A) → flat_map f (xs ++ ys) ≡ flat_map f xs ++ flat_map f ys
  flat_map_append f [] ys = refl
  flat_map_append f (x ∷ xs) ys = ap (λ l. f x ++ l) (flat_map_append f xs ys) ∙ sym (append_assoc (f x) (flat_map f xs) (flat_map f ys))
