-- Files in order of their paths: where a path is among them, and what an edit at that place leaves.
use Rattle.std.proofs.Common.{◌≡◌, ℕ, zero, suc, ◌+◌, ◌<◌, Bool, true, false, cond, ◌||◌, List, [], ◌∷◌, length, map, filter, set, get_or, Result, Ok, Err, IfOk, IfErr, is_ok, Ordering, Less, Equal, Greater, bytes_eq, is_eq, is_lt, refl, sym, ap, ◌∙◌, subst, arith}
use Rattle.std.proofs.lemmas.Cmp.{nat_list_cmp_total, tied_itself}
use Rattle.std.proofs.lemmas.List.{get_or-map, length-map}
use Rattle.std.proofs.lemmas.List.Sorted.{searchable_from_sorted}
use Rattle.std.proofs.lemmas.Map.Keys.{sorted_head, sorted_tail, Less-from_sorted}
use Rattle.std.proofs.lemmas.Map.Text.{is_eq-slice_cmp}
use Rattle.std.proofs.lemmas.Slice.Eq.{bytes_eq-Decides}
use Rattle.std.specs.List.{AllByRecursion, insert, remove}
use Rattle.std.specs.List.Sorted.{IsStrictlySortedBy, IsSearchInRange, IsBinarySearchResult, IsNonDecreasingBy}
use Rattle.std.specs.Ordering.{ordering_index, ordering_reverse}
use Rattle.pyc_workspace.specs.Workspace.{File, path_cmp, IsInOrder, IsPlaceOf, IsGapFor, has_file, with_file, without_file}

-- ---- paths

same_path : (a b : List ℕ) → path_cmp a b ≡ Equal → a ≡ b
same_path a b e = (bytes_eq-Decides a b).0 (sym (is_eq-slice_cmp a b) ∙ ap is_eq e)

itself : (a : List ℕ) → bytes_eq a a ≡ true
itself a = (bytes_eq-Decides a a).1 refl

lower_differs : (a b : List ℕ) → path_cmp a b ≡ Less → bytes_eq a b ≡ false
lower_differs a b e = sym (is_eq-slice_cmp a b) ∙ ap is_eq e

higher_differs : (a b : List ℕ) → path_cmp a b ≡ Greater → bytes_eq a b ≡ false
higher_differs a b e = sym (is_eq-slice_cmp a b) ∙ ap is_eq e

lower_back : (a b : List ℕ) → path_cmp a b ≡ Less → path_cmp b a ≡ Greater
lower_back a b e = nat_list_cmp_total.antisymm b a ∙ ap ordering_reverse e

higher_back : (a b : List ℕ) → path_cmp a b ≡ Greater → path_cmp b a ≡ Less
higher_back a b e = nat_list_cmp_total.antisymm b a ∙ ap ordering_reverse e

or_true : (b : Bool) → (b || true) ≡ true
or_true true = refl
or_true false = refl

-- ---- lists

pub map-insert : {X Y : Type 0} (f : X → Y) (xs : List X) (i : ℕ) (y : X) → map f (insert xs i y) ≡ insert (map f xs) i (f y)
map-insert f xs zero y = refl
map-insert f [] (suc i) y = refl
map-insert f (x ∷ xs) (suc i) y = ap (λ l. f x ∷ l) (map-insert f xs i y)

pub map-remove : {X Y : Type 0} (f : X → Y) (xs : List X) (i : ℕ) → map f (remove xs i) ≡ remove (map f xs) i
map-remove f [] zero = refl
map-remove f [] (suc i) = refl
map-remove f (x ∷ xs) zero = refl
map-remove f (x ∷ xs) (suc i) = ap (λ l. f x ∷ l) (map-remove f xs i)

all-set : {X : Type 0} (P : X → Type 0) (xs : List X) (i : ℕ) (y : X) → AllByRecursion P xs → P y → AllByRecursion P (set xs i y)
all-set P [] i y all p = tt
all-set P (x ∷ xs) zero y all p = (p, all.1)
all-set P (x ∷ xs) (suc i) y all p = (all.0, all-set P xs i y all.1 p)

all-insert : {X : Type 0} (P : X → Type 0) (xs : List X) (i : ℕ) (y : X) → AllByRecursion P xs → P y → AllByRecursion P (insert xs i y)
all-insert P xs zero y all p = (p, all)
all-insert P [] (suc i) y all p = (p, tt)
all-insert P (x ∷ xs) (suc i) y all p = (all.0, all-insert P xs i y all.1 p)

all-remove : {X : Type 0} (P : X → Type 0) (xs : List X) (i : ℕ) → AllByRecursion P xs → AllByRecursion P (remove xs i)
all-remove P [] zero all = tt
all-remove P [] (suc i) all = tt
all-remove P (x ∷ xs) zero all = all.1
all-remove P (x ∷ xs) (suc i) all = (all.0, all-remove P xs i all.1)

-- what holds of the image of the element at a place
mapped : {X Y : Type 0} (g : X → Y) (P : Y → Type 0) (xs : List X) (i : ℕ) → i < length xs → ((d : X) → P (g (get_or xs i d))) → (e : Y) → P (get_or (map g xs) i e)
mapped g P [] i within h e = absurd (omega arith)
mapped g P (x ∷ xs) i within h e = rw (get_or-map g (x ∷ xs) i x e within) (h x)

-- ---- places and gaps

abbrev pub below : File → File → Ordering
below file later = path_cmp file.path later.path

place_tail : (first : File) (files : List File) (path : List ℕ) (i : ℕ) → IsPlaceOf (first ∷ files) path (suc i) → IsPlaceOf files path i
place_tail first files path i at = record { in_range = omega (arith, at.in_range); lower_before = λ j d less. at.lower_before (suc j) d (omega arith); has_path = at.has_path }

gap_tail : (first : File) (files : List File) (path : List ℕ) (i : ℕ) → IsGapFor (first ∷ files) path (suc i) → IsGapFor files path i
gap_tail first files path i gap = record {
  in_range = omega (arith, gap.in_range);
  lower_before = λ j d less. gap.lower_before (suc j) d (omega arith);
  higher_after = λ j d le less. gap.higher_after (suc j) d (omega arith) (omega arith);
}

gap_after_first : (first : File) (files : List File) (path : List ℕ) → IsGapFor (first ∷ files) path zero → IsGapFor files path zero
gap_after_first first files path gap = record {
  in_range = omega arith;
  lower_before = λ j d less. absurd (omega arith);
  higher_after = λ j d le less. gap.higher_after (suc j) d (omega arith) (omega arith);
}

-- ---- whether the path is there

pub has_file-place : (files : List File) (path : List ℕ) (i : ℕ) → IsPlaceOf files path i → has_file files path ≡ true
has_file-place [] path i at = absurd (omega (arith, at.in_range))
has_file-place (first ∷ files) path zero at = rw (at.has_path first, itself path)
has_file-place (first ∷ files) path (suc i) at = rw (has_file-place files path i (place_tail first files path i at)) (or_true _)

pub has_file-gap : (files : List File) (path : List ℕ) (i : ℕ) → IsGapFor files path i → has_file files path ≡ false
has_file-gap [] path i gap = refl
has_file-gap (first ∷ files) path zero gap =
    rw (higher_differs first.path path (gap.higher_after 0 first (omega arith) (omega arith))) (has_file-gap files path zero (gap_after_first first files path gap))
has_file-gap (first ∷ files) path (suc i) gap =
    rw (lower_differs first.path path (gap.lower_before 0 first (omega arith))) (has_file-gap files path i (gap_tail first files path i gap))

pub has_file-is_ok : (files : List File) (path : List ℕ) (r : Result ℕ ℕ) → IfOk r (IsPlaceOf files path) → IfErr r (IsGapFor files path) → is_ok r ≡ has_file files path
has_file-is_ok files path (Ok i) at gap = sym (has_file-place files path i at)
has_file-is_ok files path (Err i) at gap = sym (has_file-gap files path i gap)

-- ---- the edits

pub with_file-place : (files : List File) (file : File) (i : ℕ) → IsPlaceOf files file.path i → set files i file ≡ with_file files file
with_file-place [] file i at = absurd (omega (arith, at.in_range))
with_file-place (first ∷ files) file zero at = rw (at.has_path first, tied_itself nat_list_cmp_total file.path)
with_file-place (first ∷ files) file (suc i) at =
    rw (at.lower_before 0 first (omega arith)) (ap (λ l. first ∷ l) (with_file-place files file i (place_tail first files file.path i at)))

pub with_file-gap : (files : List File) (file : File) (i : ℕ) → IsGapFor files file.path i → insert files i file ≡ with_file files file
with_file-gap [] file zero gap = refl
with_file-gap [] file (suc i) gap = absurd (omega (arith, gap.in_range))
with_file-gap (first ∷ files) file zero gap = rw (gap.higher_after 0 first (omega arith) (omega arith))
with_file-gap (first ∷ files) file (suc i) gap =
    rw (gap.lower_before 0 first (omega arith)) (ap (λ l. first ∷ l) (with_file-gap files file i (gap_tail first files file.path i gap)))

pub without_file-gap : (files : List File) (path : List ℕ) (i : ℕ) → IsGapFor files path i → files ≡ without_file files path
without_file-gap [] path i gap = refl
without_file-gap (first ∷ files) path zero gap =
    rw (higher_differs first.path path (gap.higher_after 0 first (omega arith) (omega arith))) (ap (λ l. first ∷ l) (without_file-gap files path zero (gap_after_first first files path gap)))
without_file-gap (first ∷ files) path (suc i) gap =
    rw (lower_differs first.path path (gap.lower_before 0 first (omega arith))) (ap (λ l. first ∷ l) (without_file-gap files path i (gap_tail first files path i gap)))

-- files that are all above a path stay without it
without_lower : (files : List File) (path : List ℕ) → AllByRecursion (λ file. path_cmp path file.path ≡ Less) files → files ≡ without_file files path
without_lower [] path all = refl
without_lower (first ∷ files) path all =
    rw (higher_differs first.path path (lower_back path first.path all.0)) (ap (λ l. first ∷ l) (without_lower files path all.1))

pub without_file-place : (files : List File) (path : List ℕ) (i : ℕ) → IsInOrder files → IsPlaceOf files path i → remove files i ≡ without_file files path
without_file-place [] path i sorted at = absurd (omega (arith, at.in_range))
without_file-place (first ∷ files) path zero sorted at =
    let here = at.has_path first in
    let above = subst (λ p. AllByRecursion (λ file. path_cmp p file.path ≡ Less) files) here (sorted_head below first files sorted) in
    rw (here, itself path) (without_lower files path above)
without_file-place (first ∷ files) path (suc i) sorted at =
    rw (lower_differs first.path path (at.lower_before 0 first (omega arith))) (ap (λ l. first ∷ l) (without_file-place files path i (sorted_tail below first files sorted) (place_tail first files path i at)))

-- ---- the order after the edits

in_order_cons : (first : File) (files : List File) → AllByRecursion (λ file. below first file ≡ Less) files → IsInOrder files → IsInOrder (first ∷ files)
unfolding IsStrictlySortedBy
in_order_cons first files all sorted = (all, sorted)

pub in_order_none : IsInOrder []
unfolding IsStrictlySortedBy
in_order_none = tt

pub in_order-set : (files : List File) (file : File) (i : ℕ) → IsInOrder files → IsPlaceOf files file.path i → IsInOrder (set files i file)
in_order-set [] file i sorted at = absurd (omega (arith, at.in_range))
in_order-set (first ∷ files) file zero sorted at =
    in_order_cons file files (subst (λ p. AllByRecursion (λ later. path_cmp p later.path ≡ Less) files) (at.has_path first) (sorted_head below first files sorted)) (sorted_tail below first files sorted)
in_order-set (first ∷ files) file (suc i) sorted at =
    in_order_cons first (set files i file) (all-set (λ later. below first later ≡ Less) files i file (sorted_head below first files sorted) (at.lower_before 0 first (omega arith)))
    (in_order-set files file i (sorted_tail below first files sorted) (place_tail first files file.path i at))

higher_all : (files : List File) (path : List ℕ) → IsGapFor files path zero → AllByRecursion (λ later. path_cmp path later.path ≡ Less) files
higher_all [] path gap = tt
higher_all (first ∷ files) path gap = (higher_back first.path path (gap.higher_after 0 first (omega arith) (omega arith)), higher_all files path (gap_after_first first files path gap))

pub in_order-insert : (files : List File) (file : File) (i : ℕ) → IsInOrder files → IsGapFor files file.path i → IsInOrder (insert files i file)
in_order-insert files file zero sorted gap = in_order_cons file files (higher_all files file.path gap) sorted
in_order-insert [] file (suc i) sorted gap = absurd (omega (arith, gap.in_range))
in_order-insert (first ∷ files) file (suc i) sorted gap =
    in_order_cons first (insert files i file) (all-insert (λ later. below first later ≡ Less) files i file (sorted_head below first files sorted) (gap.lower_before 0 first (omega arith)))
    (in_order-insert files file i (sorted_tail below first files sorted) (gap_tail first files file.path i gap))

pub in_order-remove : (files : List File) (i : ℕ) → IsInOrder files → IsInOrder (remove files i)
in_order-remove [] zero sorted = sorted
in_order-remove [] (suc i) sorted = sorted
in_order-remove (first ∷ files) zero sorted = sorted_tail below first files sorted
in_order-remove (first ∷ files) (suc i) sorted =
    in_order_cons first (remove files i) (all-remove (λ later. below first later ≡ Less) files i (sorted_head below first files sorted)) (in_order-remove files i (sorted_tail below first files sorted))

all-filter : {X : Type 0} (P : X → Type 0) (test : X → Bool) (xs : List X) → AllByRecursion P xs → AllByRecursion P (filter test xs)
all-filter P test [] all = tt
all-filter P test (x ∷ xs) all = elim (test x) as (λ b. AllByRecursion P (cond b (x ∷ filter test xs) (filter test xs))) [
  | true ↦ (all.0, all-filter P test xs all.1)
  | false ↦ all-filter P test xs all.1
]

-- those that pass a test are in order too
pub in_order-filter : (test : File → Bool) (files : List File) → IsInOrder files → IsInOrder (filter test files)
in_order-filter test [] sorted = sorted
in_order-filter test (first ∷ files) sorted = elim (test first) as (λ b. IsInOrder (cond b (first ∷ filter test files) (filter test files))) [
  | true ↦ in_order_cons first (filter test files) (all-filter (λ later. below first later ≡ Less) test files (sorted_head below first files sorted))
      (in_order-filter test files (sorted_tail below first files sorted))
  | false ↦ in_order-filter test files (sorted_tail below first files sorted)
]

-- ---- a binary search over what stands for files in order

module _ {X : Type 0} (g : X → File) (xs : List X) (sorted : IsInOrder (map g xs)) (path : List ℕ) where
  earlier_below : (i j : ℕ) (d : X) → i < j → j < length xs → path_cmp (g (get_or xs i d)).path (g (get_or xs j d)).path ≡ Less
  earlier_below i j d less within =
      let within' : j < length (map g xs) = omega (arith, length-map xs g) in
      let h = Less-from_sorted below (map g xs) i j (g d) sorted less within' in
      rw (get_or-map g xs i d (g d) (omega arith), get_or-map g xs j d (g d) within) at h

  comparisons_rise : IsNonDecreasingBy (λ x. ordering_index (path_cmp (g x).path path)) xs
  comparisons_rise = searchable_from_sorted nat_list_cmp_total (λ x. (g x).path) xs path
      (λ k d _ within. ap is_lt (lower_back (g (get_or xs k d)).path (g (get_or xs (k + 1) d)).path (earlier_below k (k + 1) d (omega arith) within)))

  pub searched : (r : Result ℕ ℕ) → IsSearchInRange r (length xs) → IsBinarySearchResult (λ x. path_cmp (g x).path path) xs r
      → record { found : IfOk r (IsPlaceOf (map g xs) path); absent : IfErr r (IsGapFor (map g xs) path) }
  searched (Ok at) within equal =
      let same : (d : X) → (g (get_or xs at d)).path ≡ path = λ d. same_path _ path (equal d) in
      record {
        found = record {
          in_range = omega (arith, length-map xs g, within);
          lower_before = λ i e less. mapped g (λ file. path_cmp file.path path ≡ Less) xs i (omega (arith, within)) (λ d. subst (λ p. path_cmp (g (get_or xs i d)).path p ≡ Less) (same d) (earlier_below i at d less within)) e;
          has_path = mapped g (λ file. file.path ≡ path) xs at within same;
        };
        absent = tt;
      }
  searched (Err at) within parted =
      let sides = parted comparisons_rise in
      record {
        found = tt;
        absent = record {
          in_range = omega (arith, length-map xs g, within);
          lower_before = λ i e less. mapped g (λ file. path_cmp file.path path ≡ Less) xs i (omega (arith, within)) (λ d. sides.0 i d (omega arith) less) e;
          higher_after = λ i e le less. let inside : i < length xs = omega (arith, length-map xs g) in mapped g (λ file. path_cmp file.path path ≡ Greater) xs i inside (λ d. sides.1 i d le inside) e;
        };
      }
