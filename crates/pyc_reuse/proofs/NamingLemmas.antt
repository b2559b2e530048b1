-- What stands in lists that are made of others.
use Rattle.std.proofs.Common.{◌≡◌, ℕ, zero, suc, Bool, true, false, ◌||◌, List, [], ◌∷◌, ◌++◌, map, filter, flat_map, Some, unwrap_or, is_some, if◌then◌else◌, refl, sym, ap, ◌∙◌, subst, arith, true≢false, ◌⊎◌, inl, inr}
use Rattle.std.specs.Bool.{⊤}
use Rattle.std.specs.List.{AllByRecursion, Contains, list_any, slice_get}

pub or_right : (a b : Bool) → b ≡ true → a || b ≡ true
or_right true b h = refl
or_right false b h = h

module _ {A : Type 0} where
  none_in : (x : A) → Contains [] x → ⊥
  none_in x (k, within, at) = absurd (omega arith)

  pub first_in : (x : A) (xs : List A) → Contains (x ∷ xs) x
  first_in x xs = (zero, omega arith, refl)

  pub later_in : (y x : A) (xs : List A) → Contains xs x → Contains (y ∷ xs) x
  later_in y x xs (k, within, at) = (suc k, omega (arith, within), at)

  pub in_cases : (y x : A) (xs : List A) → Contains (y ∷ xs) x → (y ≡ x) ⊎ Contains xs x
  in_cases y x xs (zero, within, at) = inl at
  in_cases y x xs (suc k, within, at) = inr (k, omega (arith, within), at)

  pub in_left : (xs ys : List A) (x : A) → Contains xs x → Contains (xs ++ ys) x
  in_left [] ys x c = absurd (none_in x c)
  in_left (y ∷ xs) ys x (zero, within, at) = (zero, omega arith, at)
  in_left (y ∷ xs) ys x (suc k, within, at) = later_in y x (xs ++ ys) (in_left xs ys x (k, omega (arith, within), at))

  pub in_right : (xs ys : List A) (x : A) → Contains ys x → Contains (xs ++ ys) x
  in_right [] ys x c = c
  in_right (y ∷ xs) ys x c = later_in y x (xs ++ ys) (in_right xs ys x c)

  pub in_parts : (xs ys : List A) (x : A) → Contains (xs ++ ys) x → Contains xs x ⊎ Contains ys x
  in_parts [] ys x c = inr c
  in_parts (y ∷ xs) ys x (zero, within, at) = inl (zero, omega arith, at)
  in_parts (y ∷ xs) ys x (suc k, within, at) = elim (in_parts xs ys x (k, omega (arith, within), at)) [
    | inl c ↦ inl (later_in y x xs c)
    | inr c ↦ inr c
  ]

  pub any_found : (p : A → Bool) (xs : List A) → list_any p xs ≡ true → (x : A) × Contains xs x × (p x ≡ true)
  any_found p [] h = absurd (true≢false (sym h))
  any_found p (y ∷ ys) h = by (p y) refl (any_found p ys)
    where
      by : (b : Bool) → p y ≡ b → (list_any p ys ≡ true → (x : A) × Contains ys x × (p x ≡ true)) → (x : A) × Contains (y ∷ ys) x × (p x ≡ true)
      by true e more = (y, first_in y ys, e)
      by false e more =
          let rest = more (sym (ap (λ b. b || list_any p ys) e) ∙ h) in
          (rest.0, later_in y rest.0 ys rest.1, rest.2)

  pub any_of : (p : A → Bool) (xs : List A) (x : A) → Contains xs x → p x ≡ true → list_any p xs ≡ true
  any_of p [] x c h = absurd (none_in x c)
  any_of p (y ∷ ys) x (zero, within, at) h = ap (λ b. b || list_any p ys) (ap p at ∙ h)
  any_of p (y ∷ ys) x (suc k, within, at) h = or_right (p y) (list_any p ys) (any_of p ys x (k, omega (arith, within), at) h)

  pub kept_in : (p : A → Bool) (xs : List A) (x : A) → Contains xs x → p x ≡ true → Contains (filter p xs) x
  kept_in p [] x c h = absurd (none_in x c)
  kept_in p (y ∷ ys) x (zero, within, at) h =
      let holds : p y ≡ true = ap p at ∙ h in
      subst (λ l. Contains l x) (sym (ap (λ b. if b then y ∷ filter p ys else filter p ys) holds)) (zero, omega arith, at)
  kept_in p (y ∷ ys) x (suc k, within, at) h = by (p y) refl (kept_in p ys x (k, omega (arith, within), at) h)
    where
      by : (b : Bool) → p y ≡ b → Contains (filter p ys) x → Contains (filter p (y ∷ ys)) x
      by true e c = subst (λ l. Contains l x) (sym (ap (λ b. if b then y ∷ filter p ys else filter p ys) e)) (later_in y x (filter p ys) c)
      by false e c = subst (λ l. Contains l x) (sym (ap (λ b. if b then y ∷ filter p ys else filter p ys) e)) c

  pub from_kept : (p : A → Bool) (xs : List A) (x : A) → Contains (filter p xs) x → Contains xs x × (p x ≡ true)
  from_kept p [] x c = absurd (none_in x c)
  from_kept p (y ∷ ys) x c = by (p y) refl (from_kept p ys x)
    where
      by : (b : Bool) → p y ≡ b → (Contains (filter p ys) x → Contains ys x × (p x ≡ true)) → Contains (y ∷ ys) x × (p x ≡ true)
      by true e more = elim (in_cases y x (filter p ys) (subst (λ l. Contains l x) (ap (λ b. if b then y ∷ filter p ys else filter p ys) e) c)) [
        | inl same ↦ ((zero, omega arith, same), ap p (sym same) ∙ e)
        | inr later ↦ let rest = more later in (later_in y x ys rest.0, rest.1)
      ]
      by false e more =
          let rest = more (subst (λ l. Contains l x) (ap (λ b. if b then y ∷ filter p ys else filter p ys) e) c) in
          (later_in y x ys rest.0, rest.1)

module _ {A B : Type 0} (f : A → B) where
  pub image_in : (xs : List A) (x : A) → Contains xs x → Contains (map f xs) (f x)
  image_in [] x c = absurd (none_in x c)
  image_in (y ∷ ys) x (zero, within, at) = (zero, omega arith, ap f at)
  image_in (y ∷ ys) x (suc k, within, at) = later_in (f y) (f x) (map f ys) (image_in ys x (k, omega (arith, within), at))

  pub from_image : (xs : List A) (z : B) → Contains (map f xs) z → (x : A) × Contains xs x × (z ≡ f x)
  from_image [] z c = absurd (none_in z c)
  from_image (y ∷ ys) z (zero, within, at) = (y, first_in y ys, sym at)
  from_image (y ∷ ys) z (suc k, within, at) =
      let rest = from_image ys z (k, omega (arith, within), at) in
      (rest.0, later_in y rest.0 ys rest.1, rest.2)

module _ {A B : Type 0} (f : A → List B) where
  pub among_all : (xs : List A) (x : A) (z : B) → Contains xs x → Contains (f x) z → Contains (flat_map f xs) z
  among_all [] x z c d = absurd (none_in x c)
  among_all (y ∷ ys) x z (zero, within, at) d = in_left (f y) (flat_map f ys) z (subst (λ (w : A). Contains (f w) z) (sym at) d)
  among_all (y ∷ ys) x z (suc k, within, at) d = in_right (f y) (flat_map f ys) z (among_all ys x z (k, omega (arith, within), at) d)

  pub of_one : (xs : List A) (z : B) → Contains (flat_map f xs) z → (x : A) × Contains xs x × Contains (f x) z
  of_one [] z c = absurd (none_in z c)
  of_one (y ∷ ys) z c = elim (in_parts (f y) (flat_map f ys) z c) [
    | inl here ↦ (y, first_in y ys, here)
    | inr later ↦ let rest = of_one ys z later in (rest.0, later_in y rest.0 ys rest.1, rest.2)
  ]

-- ---- lists in which nothing stands twice
module _ {A : Type 0} (Below : A → A → Type 0) where
  -- each is below those after it
  unfoldable pub Rising : List A → Type 0
  Rising [] = ⊤
  Rising (x ∷ xs) = AllByRecursion (Below x) xs × Rising xs

  all_in : (P : A → Type 0) (xs : List A) (x : A) (i : ℕ) → AllByRecursion P xs → slice_get xs i ≡ Some x → P x
  all_in P [] x i all at = absurd (true≢false (sym (ap is_some at)))
  all_in P (y ∷ ys) x zero all at = subst P (ap (λ r. unwrap_or r y) at) all.0
  all_in P (y ∷ ys) x (suc i) all at = all_in P ys x i all.1 at

  same_some : {x y : A} → Some x ≡ Some y → x ≡ y
  same_some {x} e = ap (λ r. unwrap_or r x) e

  pub once : ((x : A) → Below x x → ⊥) → (xs : List A) → Rising xs → (i j : ℕ) (x : A) → slice_get xs i ≡ Some x → slice_get xs j ≡ Some x → i ≡ j
  unfolding Rising
  once apart [] rising i j x a b = absurd (true≢false (sym (ap is_some a)))
  once apart (y ∷ ys) rising zero zero x a b = refl
  once apart (y ∷ ys) rising zero (suc j) x a b =
      let here : y ≡ x = same_some a in
      absurd (apart x (subst (λ z. Below z x) here (all_in (Below y) ys x j rising.0 b)))
  once apart (y ∷ ys) rising (suc i) zero x a b =
      let here : y ≡ x = same_some b in
      absurd (apart x (subst (λ z. Below z x) here (all_in (Below y) ys x i rising.0 a)))
  once apart (y ∷ ys) rising (suc i) (suc j) x a b = ap suc (once apart ys rising.1 i j x a b)

  all_both : (P : A → Type 0) (xs ys : List A) → AllByRecursion P xs → AllByRecursion P ys → AllByRecursion P (xs ++ ys)
  all_both P [] ys p q = q
  all_both P (x ∷ xs) ys p q = (p.0, all_both P xs ys p.1 q)

  pub rising_both : (xs ys : List A) → Rising xs → Rising ys → AllByRecursion (λ x. AllByRecursion (Below x) ys) xs → Rising (xs ++ ys)
  unfolding Rising
  rising_both [] ys a b between = b
  rising_both (x ∷ xs) ys a b between = (all_both (Below x) xs ys a.0 between.0, rising_both xs ys a.1 b between.1)
