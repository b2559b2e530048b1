-- Finite maps from numbers.
use Rattle.std.proofs.Common.{◌≡◌, ◌≢◌, ℕ, Bool, true, false, ◌||◌, ◌==◌, List, [], ◌∷◌, ◌++◌, map, Option, None, Some, is_some, if◌then◌else◌, refl, sym, ap, ◌∙◌, unwrap_or, true≢false, ◌≤◌, ◌<◌, nat_lt}
use Rattle.std.specs.List.{list_any}
use Rattle.std.proofs.lemmas.Bool.{eqb-true, eqb-false, eq-eqb, ltb-true, ltb-false}
use Rattle.std.proofs.lemmas.List.Folds.{list_any-append}
use Rattle.pyc_keys.specs.Numbering.{Numbering, with_item, without, without_all, Extends, AreOf, IsInjective, IsNumberFor}

pub none_some : {A : Type 0} {x : A} → None ≡ Some x → ⊥
none_some e = true≢false (sym (ap is_some e))

pub same_some : {A : Type 0} {x y : A} → Some x ≡ Some y → x ≡ y
same_some {A} {x} e = ap (λ r. unwrap_or r x) e

module _ {A : Type 0} where
  -- an item at a free number
  pub extends_with : (held : Numbering A) (i : ℕ) (item : A) → held i ≡ None → Extends held (with_item held i item)
  extends_with held i item free j other h = elim (i == j) as (λ b. (i == j) ≡ b → (if b then Some item else held j) ≡ Some other) [
    | true ↦ λ e. absurd (none_some (sym free ∙ ap held (eqb-true i j e) ∙ h))
    | false ↦ λ e. h
  ] refl

  pub held_there : (held : Numbering A) (i : ℕ) (item : A) → with_item held i item i ≡ Some item
  held_there held i item = ap (λ b. if b then Some item else held i) (eq-eqb i i refl)

  pub new_held : (old new : Numbering A) (i : ℕ) (item : A) → new ≡ with_item old i item → new i ≡ Some item
  new_held old new i item is = ap (λ f. f i) is ∙ held_there old i item

  pub new_extends : (old new : Numbering A) (i : ℕ) (item : A) → new ≡ with_item old i item → old i ≡ None → Extends old new
  new_extends old new i item is free j other h = ap (λ f. f j) is ∙ extends_with old i item free j other h

  pub extends_trans : (a b c : Numbering A) → Extends a b → Extends b c → Extends a c
  extends_trans a b c f g i item h = g i item (f i item h)

  pub extends_same : (a b : Numbering A) → b ≡ a → Extends a b
  extends_same a b e i item h = ap (λ f. f i) e ∙ h

  -- an item that is held already, at its number
  at_once : (a b : Bool) (x y : Option A) → (b ≡ true → x ≡ y) → (if b then x else y) ≡ y
  at_once a true x y h = h refl
  at_once a false x y h = refl

  pub held_already : (held : Numbering A) (i : ℕ) (item : A) → held i ≡ Some item → held ≡ with_item held i item
  held_already held i item h = λ t j. sym (at_once true (i == j) (Some item) (held j) (λ e. sym h ∙ ap held (eqb-true i j e))) t

  -- numbers of items stay so
  pub still_of : (old new : Numbering A) (numbers : List ℕ) (items : List A) → Extends old new → AreOf old numbers items → AreOf new numbers items
  still_of old new [] [] e h = refl
  still_of old new [] (x ∷ xs) e h = cc
  still_of old new (i ∷ is) [] e h = cc
  still_of old new (i ∷ is) (x ∷ xs) e h =
      let first : old i ≡ Some x = cc in
      let rest : map old is ≡ map (λ x. Some x) xs = cc in
      λ t. e i x first t ∷ still_of old new is xs e rest t

  -- one number more
  one_of : (held : Numbering A) (is : List ℕ) (xs : List A) (i : ℕ) (x : A) → AreOf held is xs → held i ≡ Some x → AreOf held (is ++ i ∷ []) (xs ++ x ∷ [])
  one_of held [] [] i x h e = λ t. e t ∷ []
  one_of held [] (y ∷ xs) i x h e = cc
  one_of held (j ∷ is) [] i x h e = cc
  one_of held (j ∷ is) (y ∷ xs) i x h e =
      let first : held j ≡ Some y = cc in
      let rest : map held is ≡ map (λ x. Some x) xs = cc in
      λ t. first t ∷ one_of held is xs i x rest e t

  pub more_of : (old new : Numbering A) (is js : List ℕ) (xs ys : List A) (i : ℕ) (x : A) → AreOf old is xs → Extends old new → js ≡ is ++ i ∷ [] → new i ≡ Some x → ys ≡ xs ++ x ∷ [] → AreOf new js ys
  more_of old new is js xs ys i x h e more is_x later =
      ap (map new) more ∙ one_of new is xs i x (still_of old new is xs e h) is_x ∙ ap (map (λ x. Some x)) (sym later)

  -- one number less
  one_less : (a b : Bool) (x : Option A) → (if b then None else if a then None else x) ≡ (if a || (b || false) then None else x)
  one_less true true x = refl
  one_less true false x = refl
  one_less false true x = refl
  one_less false false x = refl

  without_more : (held : Numbering A) (is : List ℕ) (i : ℕ) → without (without_all held is) i ≡ without_all held (is ++ i ∷ [])
  without_more held is i = λ t j. at j t
    where
      at : (j : ℕ) → without (without_all held is) i j ≡ without_all held (is ++ i ∷ []) j
      at j =
          one_less (list_any (λ k. k == j) is) (i == j) (held j)
          ∙ ap (λ b. if b then None else held j) (sym (list_any-append (λ k. k == j) is (i ∷ [])))

  pub more_without : (held now new : Numbering A) (is js : List ℕ) (i : ℕ) → now ≡ without_all held is → new ≡ without now i → js ≡ is ++ i ∷ [] → new ≡ without_all held js
  more_without held now new is js i h g more = g ∙ ap (λ f. without f i) h ∙ without_more held is i ∙ ap (without_all held) (sym more)

  -- a number that was free, and is noted
  noted_one : (a b : Bool) (x y : Option A) → (b ≡ true → y ≡ None) → (if a || (b || false) then None else if b then x else y) ≡ (if a then None else y)
  noted_one true true x y h = refl
  noted_one true false x y h = refl
  noted_one false true x y h = sym (h refl)
  noted_one false false x y h = refl

  added_more : (held : Numbering A) (is : List ℕ) (i : ℕ) (item : A) → held i ≡ None → without_all (with_item held i item) (is ++ i ∷ []) ≡ without_all held is
  added_more held is i item free = λ t j. at j t
    where
      at : (j : ℕ) → without_all (with_item held i item) (is ++ i ∷ []) j ≡ without_all held is j
      at j =
          ap (λ b. if b then None else with_item held i item j) (list_any-append (λ k. k == j) is (i ∷ []))
          ∙ noted_one (list_any (λ k. k == j) is) (i == j) (Some item) (held j) (λ e. ap held (sym (eqb-true i j e)) ∙ free)

  pub noted_undo : (old new : Numbering A) (i : ℕ) (item : A) (is js : List ℕ) → new ≡ with_item old i item → old i ≡ None → js ≡ is ++ i ∷ [] → without_all new js ≡ without_all old is
  noted_undo old new i item is js same free more =
      ap (without_all new) more ∙ ap (λ f. without_all f (is ++ i ∷ [])) same ∙ added_more old is i item free

  -- a free number stays free where one is let go, and where another gets an item
  pub still_free : (held : Numbering A) (i j : ℕ) → held j ≡ None → without held i j ≡ None
  still_free held i j free = by (i == j)
    where
      by : (b : Bool) → (if b then None else held j) ≡ None
      by true = refl
      by false = free

  pub free_but : (held : Numbering A) (i j : ℕ) (item : A) → i ≢ j → held j ≡ None → with_item held i item j ≡ None
  free_but held i j item apart free = elim (i == j) as (λ b. (i == j) ≡ b → (if b then Some item else held j) ≡ None) [
    | true ↦ λ e. absurd (apart (eqb-true i j e))
    | false ↦ λ e. free
  ] refl

  -- one item more, which had no number
  pub injective_with : (held : Numbering A) (i : ℕ) (item : A) → IsInjective held → ((j : ℕ) → held j ≢ Some item)
      → IsInjective (with_item held i item)
  injective_with held i item distinct absent a b other h g =
      by (i == a) (i == b) refl refl h g
    where
      by : (p q : Bool) → (i == a) ≡ p → (i == b) ≡ q → (if p then Some item else held a) ≡ Some other
          → (if q then Some item else held b) ≡ Some other → a ≡ b
      by true true e f x y = sym (eqb-true i a e) ∙ eqb-true i b f
      by true false e f x y = absurd (absent b (y ∙ sym x))
      by false true e f x y = absurd (absent a (x ∙ sym y))
      by false false e f x y = distinct a b other x y

  -- the number of an item
  pub number_held : (held : Numbering A) (i : ℕ) (item : A) → IsInjective held → held i ≡ Some item → IsNumberFor held item i
  number_held held i item distinct here =
      record { own = λ j h. distinct i j item here h; free = λ absent. absurd (absent i here) }

  pub number_new : (held : Numbering A) (i : ℕ) (item : A) → ((j : ℕ) → held j ≢ Some item) → held i ≡ None
      → IsNumberFor held item i
  number_new held i item absent free = record { own = λ j h. absurd (absent j h); free = λ _. free }

  -- a change at one number
  pub changed_at : (old new : Numbering A) (i : ℕ) (item : A) → new i ≡ Some item → ((j : ℕ) → j ≢ i → new j ≡ old j)
      → new ≡ with_item old i item
  changed_at old new i item changed others = λ t j. at j t
    where
      at : (j : ℕ) → new j ≡ with_item old i item j
      at j = elim (i == j) as (λ b. (i == j) ≡ b → new j ≡ (if b then Some item else old j)) [
        | true ↦ λ e. ap new (sym (eqb-true i j e)) ∙ changed
        | false ↦ λ e. others j (λ same. eqb-false i j e (sym same))
      ] refl

  -- a number that is held is below each from which on none is
  pub below_bound : (held : Numbering A) (n : ℕ) → ((i : ℕ) → n ≤ i → held i ≡ None) → (i : ℕ) → is_some (held i) ≡ true → i < n
  below_bound held n past i here = elim (nat_lt i n) as (λ b. nat_lt i n ≡ b → i < n) [
    | true ↦ λ e. ltb-true i n e
    | false ↦ λ e. absurd (true≢false (sym here ∙ ap is_some (past i (ltb-false i n e))))
  ] refl
