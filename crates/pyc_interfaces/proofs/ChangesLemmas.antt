-- Where nothing of a name is listed between two lists of things with names, both have the same things of that name.
use Rattle.std.proofs.Common.{◌≡◌, ◌⊎◌, ℕ, Bool, true, false, ◌&&◌, ◌||◌, cond, List, [], ◌∷◌, ◌++◌, map, filter, find, flat_map, Some, bytes_eq, if◌then◌else◌, inl, inr, refl, sym, ap, ap₂, subst, ◌∙◌}
use Rattle.std.proofs.lemmas.Bool.{cases_Bool, cond-true, cond-false, true≢false, false≢true}
use Rattle.std.proofs.lemmas.Option.{none-some, same_Some}
use Rattle.std.proofs.lemmas.Slice.Eq.{bytes_eq-Decides}
use Rattle.std.specs.List.{list_any}
use Rattle.pyc_iface.specs.ComparedLaws.{EachOf}
use Rattle.pyc_interfaces.specs.CarryLaws.{AllDiffer}
use Rattle.pyc_interfaces.specs.ChangedLooks.{pair_looks, looks_alone, looks_from_pair, changes}
use Rattle.pyc_names.specs.Looks.{Look}

-- ---- each of some things

pub each_of_both : {X : Type 0} (P : X → Type 0) (xs ys : List X) → EachOf P (xs ++ ys) → EachOf P xs × EachOf P ys
each_of_both P [] ys all = (tt, all)
each_of_both P (x ∷ xs) ys all = let later = each_of_both P xs ys all.1 in ((all.0, later.0), later.1)

pub each_in_both : {X : Type 0} (P : X → Type 0) (xs ys : List X) → EachOf P xs → EachOf P ys → EachOf P (xs ++ ys)
each_in_both P [] ys all more = more
each_in_both P (x ∷ xs) ys all more = (all.0, each_in_both P xs ys all.1 more)

pub each_of_flat : {X Y : Type 0} (P : Y → Type 0) (f : X → List Y) (xs : List X) → EachOf P (flat_map f xs) → EachOf (λ x. EachOf P (f x)) xs
each_of_flat P f [] all = tt
each_of_flat P f (x ∷ xs) all = let parts = each_of_both P (f x) (flat_map f xs) all in (parts.0, each_of_flat P f xs parts.1)

pub each_into_flat : {X Y : Type 0} (P : Y → Type 0) (f : X → List Y) → ((x : X) → EachOf P (f x)) → (xs : List X) → EachOf P (flat_map f xs)
each_into_flat P f all [] = tt
each_into_flat P f all (x ∷ xs) = each_in_both P (f x) (flat_map f xs) (all x) (each_into_flat P f all xs)

pub each_found : {X : Type 0} (P : X → Type 0) (test : X → Bool) (xs : List X) (x : X) → EachOf P xs → find test xs ≡ Some x → P x
each_found P test [] x all found = absurd (none-some x found)
each_found P test (y ∷ xs) x all found = elim (cases_Bool (test y)) [
  | inl passes ↦ subst P (same_Some y x (sym (cond-true (test y) (Some y) (find test xs) passes) ∙ found)) all.0
  | inr fails ↦ each_found P test xs x all.1 (sym (cond-false (test y) (Some y) (find test xs) fails) ∙ found)
]

pub each_all : {X : Type 0} (P : X → Type 0) → ((x : X) → P x) → (xs : List X) → EachOf P xs
each_all P all [] = tt
each_all P all (x ∷ xs) = (all x, each_all P all xs)

pub each_so : {X : Type 0} (P Q : X → Type 0) → ((x : X) → P x → Q x) → (xs : List X) → EachOf P xs → EachOf Q xs
each_so P Q so [] all = tt
each_so P Q so (x ∷ xs) all = (so x all.0, each_so P Q so xs all.1)

pub each_of_two : {X : Type 0} (P Q R : X → Type 0) → ((x : X) → P x → Q x → R x) → (xs : List X) → EachOf P xs → EachOf Q xs → EachOf R xs
each_of_two P Q R so [] all more = tt
each_of_two P Q R so (x ∷ xs) all more = (so x all.0 more.0, each_of_two P Q R so xs all.1 more.1)

pub each_mapped : {X Y : Type 0} (P : Y → Type 0) (f : X → Y) (xs : List X) → EachOf (λ x. P (f x)) xs → EachOf P (map f xs)
each_mapped P f [] all = tt
each_mapped P f (x ∷ xs) all = (all.0, each_mapped P f xs all.1)

pub each_of_map : {X Y : Type 0} (P : Y → Type 0) (f : X → Y) (xs : List X) → EachOf P (map f xs) → EachOf (λ x. P (f x)) xs
each_of_map P f [] all = tt
each_of_map P f (x ∷ xs) all = (all.0, each_of_map P f xs all.1)

-- what is listed by a test that passes, or that does not
module _ (differs : Look → Bool) where
  pub listed_if : (b : Bool) (some more : List Look) → b ≡ true → AllDiffer differs (if b then some else more) → AllDiffer differs some
  listed_if b some more is all = subst (λ c. AllDiffer differs (if c then some else more)) is all

  pub listed_else : (b : Bool) (some more : List Look) → b ≡ false → AllDiffer differs (if b then some else more) → AllDiffer differs more
  listed_else b some more is all = subst (λ c. AllDiffer differs (if c then some else more)) is all

  -- a look that does not differ is not listed: the test passes
  pub unlisted : (b : Bool) (look : Look) → differs look ≡ false → AllDiffer differs (if b then [] else look ∷ []) → b ≡ true
  unlisted true look clear all = refl
  unlisted false look clear all = absurd (true≢false (sym all.0 ∙ clear))

-- ---- by what passes a test alone

pub find_filter : {X : Type 0} (p q : X → Bool) (xs : List X) → find (λ x. p x && q x) xs ≡ find q (filter p xs)
find_filter p q [] = refl
find_filter p q (x ∷ xs) = by (p x) (find_filter p q xs)
  where
    by : (b : Bool) → find (λ x. p x && q x) xs ≡ find q (filter p xs) → cond (b && q x) (Some x) (find (λ x. p x && q x) xs) ≡ find q (cond b (x ∷ filter p xs) (filter p xs))
    by true later = ap (cond (q x) (Some x)) later
    by false later = later

pub find_filtered : {X : Type 0} (p : X → Bool) (xs : List X) → find p xs ≡ find (λ x. true) (filter p xs)
find_filtered p [] = refl
find_filtered p (x ∷ xs) = by (p x) (find_filtered p xs)
  where
    by : (b : Bool) → find p xs ≡ find (λ x. true) (filter p xs) → cond b (Some x) (find p xs) ≡ find (λ x. true) (cond b (x ∷ filter p xs) (filter p xs))
    by true later = refl
    by false later = later

pub any_filter : {X : Type 0} (p q : X → Bool) (xs : List X) → list_any (λ x. p x && q x) xs ≡ list_any q (filter p xs)
any_filter p q [] = refl
any_filter p q (x ∷ xs) = by (p x) (any_filter p q xs)
  where
    by : (b : Bool) → list_any (λ x. p x && q x) xs ≡ list_any q (filter p xs) → ((b && q x) || list_any (λ x. p x && q x) xs) ≡ list_any q (cond b (x ∷ filter p xs) (filter p xs))
    by true later = ap (λ b. q x || b) later
    by false later = later

-- ---- things of one name

module _ {X : Type 0} (name : X → List ℕ) (is_same : X → X → Bool) (look : List ℕ → Look) (bare : X → X)
    (same_names : (x : X) → name (bare x) ≡ name x) (are_same : (x y : X) → is_same x y ≡ true → bare x ≡ bare y)
    (differs : Look → Bool) (n : List ℕ) (clear : differs (look n) ≡ false) where
  abbrev named : X → Bool
  named x = bytes_eq (name x) n

  -- the things of this name, without positions
  abbrev shown : List X → List X
  shown xs = filter named (map bare xs)

  not_named : (x : X) → differs (look (name x)) ≡ true → named (bare x) ≡ false
  not_named x differing = ap (λ (t : List ℕ). bytes_eq t n) (same_names x) ∙ by (cases_Bool (named x))
    where
      by : (named x ≡ true) ⊎ (named x ≡ false) → named x ≡ false
      by (inl same) = absurd (true≢false (sym differing ∙ ap (λ t. differs (look t)) ((bytes_eq-Decides (name x) n).0 same) ∙ clear))
      by (inr other) = other

  passed_over : (x : X) (xs : List X) → differs (look (name x)) ≡ true → shown (x ∷ xs) ≡ shown xs
  passed_over x xs differing = cond-false (named (bare x)) (bare x ∷ shown xs) (shown xs) (not_named x differing)

  pub alone_shown : (xs : List X) → AllDiffer differs (looks_alone name is_same look xs) → shown xs ≡ []
  alone_shown [] all = refl
  alone_shown (x ∷ xs) all = passed_over x xs all.0 ∙ alone_shown xs all.1

  pairs_shown : (x y : X) (xs ys : List X) → bytes_eq (name y) (name x) ≡ true → AllDiffer differs (pair_looks name is_same look x y) → shown xs ≡ shown ys → shown (x ∷ xs) ≡ shown (y ∷ ys)
  pairs_shown x y xs ys named_so all later = elim (cases_Bool (is_same x y)) [
    | inl same ↦ ap₂ (λ (z : X) (l : List X). cond (named z) (z ∷ l) l) (are_same x y same) later
    | inr other ↦
        let differing : differs (look (name x)) ≡ true = (listed_else differs (is_same x y) [] (look (name x) ∷ []) other all).0 in
        passed_over x xs differing ∙ later
        ∙ sym (passed_over y ys (ap (λ t. differs (look t)) ((bytes_eq-Decides (name y) (name x)).0 named_so) ∙ differing))
  ]

  from_pair_shown : (x : X) (xs : List X) (further : List X → List Look) → ((ys : List X) → AllDiffer differs (further ys) → shown xs ≡ shown ys)
      → (ys : List X) → list_any (λ y. bytes_eq (name y) (name x)) ys ≡ true → AllDiffer differs (looks_from_pair name is_same look x further ys) → shown (x ∷ xs) ≡ shown ys
  from_pair_shown x xs further later [] any all = absurd (false≢true any)
  from_pair_shown x xs further later (y ∷ ys) any all = elim (cases_Bool (bytes_eq (name y) (name x))) [
    | inl same ↦
        let parts = each_of_both (λ l. differs l ≡ true) (pair_looks name is_same look x y) (further ys)
        (listed_if differs (bytes_eq (name y) (name x)) (pair_looks name is_same look x y ++ further ys) (look (name y) ∷ looks_from_pair name is_same look x further ys) same all) in
        pairs_shown x y xs ys same parts.0 (later ys parts.1)
    | inr other ↦
        let parts = listed_else differs (bytes_eq (name y) (name x)) (pair_looks name is_same look x y ++ further ys) (look (name y) ∷ looks_from_pair name is_same look x further ys) other all in
        from_pair_shown x xs further later ys (sym (ap (λ b. b || list_any (λ y. bytes_eq (name y) (name x)) ys) other) ∙ any) parts.1 ∙ sym (passed_over y ys parts.0)
  ]

  -- both lists have the same of a name of which nothing is listed
  pub changes_shown : (xs ys : List X) → AllDiffer differs (changes name is_same look xs ys) → shown xs ≡ shown ys
  changes_shown [] ys all = sym (alone_shown ys all)
  changes_shown (x ∷ xs) ys all = elim (cases_Bool (list_any (λ y. bytes_eq (name y) (name x)) ys)) [
    | inl any ↦
        from_pair_shown x xs (changes name is_same look xs) (changes_shown xs) ys any
        (listed_if differs (list_any (λ y. bytes_eq (name y) (name x)) ys) (looks_from_pair name is_same look x (changes name is_same look xs) ys) (look (name x) ∷ changes name is_same look xs ys) any all)
    | inr none ↦
        let parts = listed_else differs (list_any (λ y. bytes_eq (name y) (name x)) ys) (looks_from_pair name is_same look x (changes name is_same look xs) ys) (look (name x) ∷ changes name is_same look xs ys) none all in
        passed_over x xs parts.0 ∙ changes_shown xs ys parts.1
  ]
