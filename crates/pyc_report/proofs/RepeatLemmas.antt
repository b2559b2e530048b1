-- One more text at the end of a list: it is inserted into the list without repeats.
use Rattle.std.proofs.Common.{◌≡◌, ℕ, ◌+◌, ◌<◌, Bool, true, false, not, cond, ◌||◌, List, [], ◌∷◌, ◌++◌, map, filter, take, take-suc, length, get_or, bytes_eq, refl, sym, ◌∙◌, ap, add-one, append-nil}
use Rattle.std.proofs.lemmas.List.{map-append}
use Rattle.std.specs.List.{list_any}
use Rattle.std.proofs.lemmas.Cmp.{nat_list_eq_equiv}
use Rattle.std.proofs.lemmas.List.Elements.{filter-append}
use Rattle.indexmap.specs.IndexSet.{insert_key}
use Rattle.pyc_report.specs.Report.{without_repeats}

-- whether the second text is another one
abbrev pub is_other : List ℕ → List ℕ → Bool
is_other y z = not (bytes_eq y z)

-- leaving out another text leaves what equals this one
list_any-filter : (x y : List ℕ) (zs : List (List ℕ)) → bytes_eq x y ≡ false → list_any (bytes_eq x) (filter (is_other y) zs) ≡ list_any (bytes_eq x) zs
list_any-filter x y [] other = refl
list_any-filter x y (z ∷ zs) other = by (bytes_eq y z) refl (list_any-filter x y zs other)
  where
    by : (b : Bool) → bytes_eq y z ≡ b → list_any (bytes_eq x) (filter (is_other y) zs) ≡ list_any (bytes_eq x) zs
        → list_any (bytes_eq x) (cond (not b) (z ∷ filter (is_other y) zs) (filter (is_other y) zs)) ≡ (bytes_eq x z || list_any (bytes_eq x) zs)
    by true same more =
        let apart : bytes_eq x z ≡ false =
        nat_list_eq_equiv.symm x z ∙ sym (nat_list_eq_equiv.congr y z x same) ∙ nat_list_eq_equiv.symm y x ∙ other in
        rw apart more
    by false same more = ap (λ b. bytes_eq x z || b) more

-- the first of a list goes before the insertion
insert_key-cons : (y x : List ℕ) (zs : List (List ℕ)) → y ∷ filter (is_other y) (insert_key bytes_eq zs x) ≡ insert_key bytes_eq (y ∷ filter (is_other y) zs) x
insert_key-cons y x zs = by (bytes_eq x y) refl (list_any (bytes_eq x) zs) refl
  where
    by : (b : Bool) → bytes_eq x y ≡ b → (among : Bool) → list_any (bytes_eq x) zs ≡ among
        → y ∷ filter (is_other y) (cond among zs (zs ++ x ∷ [])) ≡ cond (b || list_any (bytes_eq x) (filter (is_other y) zs)) (y ∷ filter (is_other y) zs) ((y ∷ filter (is_other y) zs) ++ x ∷ [])
    by true same true is = refl
    by true same false is =
        let back : bytes_eq y x ≡ true = nat_list_eq_equiv.symm y x ∙ same in
        rw (filter-append, back, append-nil) refl
    by false same true is = rw (list_any-filter x y zs same, is) refl
    by false same false is =
        let back : bytes_eq y x ≡ false = nat_list_eq_equiv.symm y x ∙ same in
        rw (list_any-filter x y zs same, is, filter-append, back) refl

-- one more text at the end is inserted
pub without_repeats-push : (xs : List (List ℕ)) (x : List ℕ) → without_repeats (xs ++ x ∷ []) ≡ insert_key bytes_eq (without_repeats xs) x
without_repeats-push [] x = refl
without_repeats-push (y ∷ ys) x = ap (λ zs. y ∷ filter (is_other y) zs) (without_repeats-push ys x) ∙ insert_key-cons y x (without_repeats ys)

-- a test of what is seen of the keys
list_any-map : {K X : Type 0} (test : X → Bool) (view : K → X) (keys : List K) → list_any test (map view keys) ≡ list_any (λ key. test (view key)) keys
list_any-map test view [] = refl
list_any-map test view (key ∷ keys) = ap (λ b. test (view key) || b) (list_any-map test view keys)

-- inserting a key and looking at the keys commute
pub map-insert_key : {K : Type 0} (view : K → List ℕ) (keys : List K) (key : K)
    → map view (insert_key (λ a b. bytes_eq (view a) (view b)) keys key) ≡ insert_key bytes_eq (map view keys) (view key)
map-insert_key view keys key =
    by (list_any (λ a. bytes_eq (view key) (view a)) keys) (list_any (bytes_eq (view key)) (map view keys)) (sym (list_any-map (bytes_eq (view key)) view keys))
  where
    by : (among among' : Bool) → among ≡ among' → map view (cond among keys (keys ++ key ∷ [])) ≡ cond among' (map view keys) (map view keys ++ view key ∷ [])
    by true true same = refl
    by true false same = cc
    by false true same = cc
    by false false same = map-append view keys (key ∷ [])

-- a loop's step: the text of the element at i goes in
pub without_repeats-more : {K E : Type 0} (view : K → List ℕ) (texts : List E → List (List ℕ)) (es : List E) (i : ℕ) (keys keys' : List K) (key : K) (text : List ℕ)
    → keys' ≡ insert_key (λ a b. bytes_eq (view a) (view b)) keys key → view key ≡ text
    → map view keys ≡ without_repeats (texts (take i es)) → texts (take (i + 1) es) ≡ texts (take i es) ++ text ∷ []
    → map view keys' ≡ without_repeats (texts (take (i + 1) es))
without_repeats-more view texts es i keys keys' key text put reported before more =
    ap (map view) put ∙ map-insert_key view keys key ∙ rw (reported, before, more) (sym (without_repeats-push (texts (take i es)) text))

-- one more element, seen through f
pub map-take_more : {E B : Type 0} (f : E → B) (es : List E) (i : ℕ) (d : E) → i < length es → map f (take (i + 1) es) ≡ map f (take i es) ++ f (get_or es i d) ∷ []
map-take_more f es i d within = rw (add-one, take-suc es i d within, map-append) refl
