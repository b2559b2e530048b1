-- Where a file stands among files in order.
use Rattle.std.proofs.Common.{◌≡◌, ℕ, zero, suc, ◌+◌, ◌<◌, Bool, true, false, ◌&&◌, ◌||◌, List, [], ◌∷◌, length, None, Some, is_some, unwrap_or, cond, if◌then◌else◌, Ordering, Less, bytes_eq, is_eq, refl, sym, ap, true≢false, ◌∙◌, subst, arith}
use Rattle.std.proofs.lemmas.Cmp.{nat_list_cmp_total}
use Rattle.std.proofs.lemmas.Map.Keys.{sorted_head, sorted_tail}
use Rattle.std.proofs.lemmas.Map.Text.{is_eq-slice_cmp}
use Rattle.std.proofs.lemmas.Slice.Eq.{bytes_eq-Decides}
use Rattle.std.specs.List.{AllByRecursion, list_any, position_from}
use Rattle.std.specs.Ordering.{ordering_reverse}
use Rattle.pyc_reuse.specs.Examined.{same_file, is_unchanged}
use Rattle.pyc_reuse.specs.Places.{place_in, file_at}
use Rattle.pyc_workspace.specs.Workspace.{File, path_cmp, IsInOrder, IsPlaceOf, has_file}

abbrev below : File → File → Ordering
below file later = path_cmp file.path later.path

-- ---- files of other paths

differs : (a b : List ℕ) → path_cmp a b ≡ Less → bytes_eq b a ≡ false
differs a b e = sym (is_eq-slice_cmp b a) ∙ ap is_eq (nat_list_cmp_total.antisymm b a ∙ ap ordering_reverse e)

differs_back : (a b : List ℕ) → path_cmp a b ≡ Less → bytes_eq a b ≡ false
differs_back a b e = sym (is_eq-slice_cmp a b) ∙ ap is_eq e

other_path : (file other : File) → bytes_eq file.path other.path ≡ false → same_file file other ≡ false
other_path file other e = ap (λ b. b && bytes_eq file.bytes other.bytes) e

-- none of the files after it has the path of a file
none_above : (files : List File) (file : File) (k : ℕ) → AllByRecursion (λ later. path_cmp file.path later.path ≡ Less) files
    → position_from (same_file file) k files ≡ None
none_above [] file k all = refl
none_above (first ∷ files) file k all =
    ap (λ b. cond b (Some k) (position_from (same_file file) (k + 1) files)) (other_path file first (differs_back file.path first.path all.0))
    ∙ none_above files file (k + 1) all.1

place_tail : (first : File) (files : List File) (path : List ℕ) (i : ℕ) → IsPlaceOf (first ∷ files) path (suc i) → IsPlaceOf files path i
place_tail first files path i at = record { in_range = omega (arith, at.in_range); lower_before = λ j d less. at.lower_before (suc j) d (omega arith); has_path = at.has_path }

-- where a file of its path stands, a file stands as it is just where the bytes are its own
found_from : (files : List File) (file : File) (k i : ℕ) → IsInOrder files → IsPlaceOf files file.path i
    → position_from (same_file file) k files ≡ (if bytes_eq file.bytes (file_at files i).bytes then Some (k + i) else None)
found_from [] file k i sorted at = absurd (omega (arith, at.in_range))
found_from (first ∷ files) file k zero sorted at =
    let here : bytes_eq file.path first.path ≡ true = (bytes_eq-Decides file.path first.path).1 (sym (at.has_path first)) in
    let same : same_file file first ≡ bytes_eq file.bytes first.bytes = ap (λ b. b && bytes_eq file.bytes first.bytes) here in
    let above = subst (λ p. AllByRecursion (λ later. path_cmp p later.path ≡ Less) files) (at.has_path first) (sorted_head below first files sorted) in
    let k_is : k ≡ k + 0 = omega arith in
    (λ t. cond (same t) (Some (k_is t)) (none_above files file (k + 1) above t))
found_from (first ∷ files) file k (suc i) sorted at =
    let other = other_path file first (differs first.path file.path (at.lower_before 0 first (omega arith))) in
    let same : k + 1 + i ≡ k + suc i = omega arith in
    ap (λ b. cond b (Some k) (position_from (same_file file) (k + 1) files)) other
    ∙ found_from files file (k + 1) i (sorted_tail below first files sorted) (place_tail first files file.path i at)
    ∙ ap (λ n. if bytes_eq file.bytes (file_at files i).bytes then Some n else None) same

module _ (files : List File) (file : File) where
  pub place_by_bytes : (i : ℕ) → IsInOrder files → IsPlaceOf files file.path i → place_in files file ≡ (if bytes_eq file.bytes (file_at files i).bytes then Some i else None)
  unfolding place_in
  place_by_bytes i sorted at =
      let same : 0 + i ≡ i = omega arith in
      found_from files file 0 i sorted at ∙ ap (λ n. if bytes_eq file.bytes (file_at files i).bytes then Some n else None) same

or_parts : (a b : Bool) → a || b ≡ false → (a ≡ false) × (b ≡ false)
or_parts true b h = absurd (true≢false h)
or_parts false b h = (refl, h)

flip : (a b : List ℕ) → bytes_eq a b ≡ false → bytes_eq b a ≡ false
flip a b h = by (bytes_eq b a) refl
  where
    by : (c : Bool) → bytes_eq b a ≡ c → bytes_eq b a ≡ false
    by true p = absurd (true≢false (sym ((bytes_eq-Decides a b).1 (sym ((bytes_eq-Decides b a).0 p))) ∙ h))
    by false p = p

-- a path that none has
none_from : (files : List File) (file : File) (k : ℕ) → has_file files file.path ≡ false → position_from (same_file file) k files ≡ None
none_from [] file k h = refl
none_from (first ∷ files) file k h =
    let parts = or_parts (bytes_eq first.path file.path) (has_file files file.path) h in
    ap (λ b. cond b (Some k) (position_from (same_file file) (k + 1) files)) (other_path file first (flip first.path file.path parts.0))
    ∙ none_from files file (k + 1) parts.1

-- whether a file is found tells whether it stands there
some_from : (files : List File) (file : File) (k : ℕ) → is_some (position_from (same_file file) k files) ≡ list_any (same_file file) files
some_from [] file k = refl
some_from (first ∷ files) file k = by (same_file file first) refl (some_from files file (k + 1))
  where
    by : (b : Bool) → same_file file first ≡ b → is_some (position_from (same_file file) (k + 1) files) ≡ list_any (same_file file) files
        → is_some (position_from (same_file file) k (first ∷ files)) ≡ list_any (same_file file) (first ∷ files)
    by true p rest = ap (λ b. is_some (cond b (Some k) (position_from (same_file file) (k + 1) files))) p ∙ sym (ap (λ b. b || list_any (same_file file) files) p)
    by false p rest =
        ap (λ b. is_some (cond b (Some k) (position_from (same_file file) (k + 1) files))) p
        ∙ rest ∙ sym (ap (λ b. b || list_any (same_file file) files) p)

and_parts : (a b : Bool) → a && b ≡ true → (a ≡ true) × (b ≡ true)
and_parts true b h = (refl, h)
and_parts false b h = absurd (true≢false (sym h))

pub same_is : (a b : File) → same_file a b ≡ true → a ≡ b
same_is a b h =
    let parts = and_parts (bytes_eq a.path b.path) (bytes_eq a.bytes b.bytes) h in
    let path : a.path ≡ b.path = (bytes_eq-Decides a.path b.path).0 parts.0 in
    let bytes : a.bytes ≡ b.bytes = (bytes_eq-Decides a.bytes b.bytes).0 parts.1 in
    (λ t. record { path = path t; bytes = bytes t })

some_is : {i j : ℕ} → Some i ≡ Some j → i ≡ j
some_is {i} e = ap (λ r. unwrap_or r i) e

none_some : {A : Type 0} {x : A} → None ≡ Some x → ⊥
none_some e = true≢false (sym (ap is_some e))

-- where a file was found, it stands
pub record FoundAt (files : List File) (file : File) (i : ℕ) : Type 0 where
  pub within : i < length files
  pub there : file_at files i ≡ file

stands_from : (files : List File) (file : File) (k i : ℕ) → position_from (same_file file) k files ≡ Some i → (j : ℕ) × (i ≡ k + j) × FoundAt files file j
stands_from [] file k i h = absurd (none_some h)
stands_from (first ∷ files) file k i h = by (same_file file first) refl (stands_from files file (k + 1) i)
  where
    by : (b : Bool) → same_file file first ≡ b
        → (position_from (same_file file) (k + 1) files ≡ Some i → (j : ℕ) × (i ≡ k + 1 + j) × FoundAt files file j)
        → (j : ℕ) × (i ≡ k + j) × FoundAt (first ∷ files) file j
    by true p more =
        let at : Some k ≡ Some i = sym (ap (λ b. cond b (Some k) (position_from (same_file file) (k + 1) files)) p) ∙ h in
        let same : i ≡ k = sym (some_is at) in
        (0, omega (arith, same), record { within = omega arith; there = sym (same_is file first p) })
    by false p more =
        let rest = more (sym (ap (λ b. cond b (Some k) (position_from (same_file file) (k + 1) files)) p) ∙ h) in
        let place : i ≡ k + 1 + rest.0 = rest.1 in
        let inside : rest.0 < length files = rest.2.within in
        (suc rest.0, omega (arith, place), record { within = omega (arith, inside); there = rest.2.there })

module _ (files : List File) (file : File) where
  pub place_of_none : has_file files file.path ≡ false → place_in files file ≡ None
  unfolding place_in
  place_of_none h = none_from files file 0 h

  pub unchanged_place : is_some (place_in files file) ≡ is_unchanged files file
  unfolding place_in is_unchanged
  unchanged_place = some_from files file 0

  pub stands : (i : ℕ) → place_in files file ≡ Some i → FoundAt files file i
  unfolding place_in
  stands i h =
      let found = stands_from files file 0 i h in
      let same : found.0 ≡ i = omega (arith, found.1) in
      subst (FoundAt files file) same found.2

both : (p q : Bool) → p ≡ true → q ≡ true → p && q ≡ true
both true q h k = k
both false q h k = absurd (true≢false (sym h))

pub same_itself : (a : File) → same_file a a ≡ true
same_itself a = both (bytes_eq a.path a.path) (bytes_eq a.bytes a.bytes) ((bytes_eq-Decides a.path a.path).1 refl) ((bytes_eq-Decides a.bytes a.bytes).1 refl)

flip_true : (a b : List ℕ) → bytes_eq a b ≡ true → bytes_eq b a ≡ true
flip_true a b h = (bytes_eq-Decides b a).1 (sym ((bytes_eq-Decides a b).0 h))

module _ (files : List File) (file : File) where
  true_is : (b : Bool) (i : ℕ) → is_some (if b then Some i else None) ≡ true → (if b then Some i else None) ≡ Some i
  true_is true i h = refl
  true_is false i h = absurd (true≢false (sym h))

  -- a file that is as it was stands where its path does
  pub unchanged_there : (i : ℕ) → IsInOrder files → IsPlaceOf files file.path i → is_unchanged files file ≡ true → Some i ≡ place_in files file
  unchanged_there i sorted at kept =
      let is = place_by_bytes files file i sorted at in
      let some = sym (ap is_some is) ∙ unchanged_place files file ∙ kept in
      sym (is ∙ true_is (bytes_eq file.bytes (file_at files i).bytes) i some)

  -- a file whose path is there stands there just where the bytes are its own
  pub same_there : (i : ℕ) → IsInOrder files → IsPlaceOf files file.path i → bytes_eq (file_at files i).bytes file.bytes ≡ true → Some i ≡ place_in files file
  same_there i sorted at h =
      sym (place_by_bytes files file i sorted at ∙ ap (λ b. if b then Some i else None) (flip_true (file_at files i).bytes file.bytes h))

  pub other_there : (i : ℕ) → IsInOrder files → IsPlaceOf files file.path i → bytes_eq (file_at files i).bytes file.bytes ≡ false → None ≡ place_in files file
  other_there i sorted at h =
      sym (place_by_bytes files file i sorted at ∙ ap (λ b. if b then Some i else None) (flip (file_at files i).bytes file.bytes h))
