-- When the order of a class is known, and that it holds the merge of C3.
use Rattle.std.proofs.Common.{◌≡◌, ℕ, zero, suc, ◌==◌, ◌||◌, Bool, true, false, not, cond, List, [], ◌∷◌, ◌++◌, map, unwrap_or, option_map, Option, None, Some, inl, inr, refl, sym, ap, ap₂, subst, ◌∙◌}
use Rattle.std.specs.List.{All, list_any, list_all, slice_get, slice_index_or}
use Rattle.std.specs.Option.{option_or}
use Rattle.std.proofs.lemmas.Bool.{and_from, and_parts, or_cases, or_left, or_right, not-true, not_from_false, eqb-true, eq-eqb, false≢true, false_from_ne_true}
use Rattle.std.proofs.lemmas.List.Elements.{All-append, All-cons, All-head, All-map, All-nil, All-tail}
use Rattle.std.proofs.lemmas.Option.{none-some, cond_some, same_Some}
use Rattle.pyc_class_ids.specs.declared.order.UnknownMro.TheVariants as unknown
use Rattle.pyc_class_ids.specs.Class.{Id, same_class}
use Rattle.pyc_class_ids.specs.ClassEquality.{same_class_equiv}
use Rattle.pyc_class_ids.specs.Mro.{MroTable, leads}
use Rattle.pyc_mro.specs.Merge as numbers
use Rattle.pyc_mro.specs.Merge.{first_free, is_empty, merge_from, merge_within, entry_count, merge}
use Rattle.pyc_mro.specs.MroLaws as numbered
use Rattle.pyc_mro.specs.MroTable.{known as known_order, order_of}
use Rattle.pyc_mro.specs.Tables.{Table, parents, reaches}
use Rattle.pyc_mro.proofs.DepthLemmas.{cycles_are_reported}
use Rattle.pyc_mro.proofs.LawLemmas.{known_are_of_the_table}
use Rattle.pyc_mro.proofs.TableLemmas.{any-found, reaches-base, reaches-through}
use Rattle.pyc_class_table.specs.ClassMros.{order_at, orders_of}
use Rattle.pyc_class_table.specs.Entries.{Entry, all_entries}
use Rattle.pyc_class_table.specs.MroLaws.{IsKnown, Sublist, ended, kept, left_out, is_distinct}
use Rattle.pyc_class_table.specs.Numbers.{number_in, id_at, table_of}
use Rattle.pyc_class_table.proofs.BuiltinLemmas.{same_class-is}
use Rattle.pyc_class_table.proofs.LawLemmas.{classes_begin, classes_once, orders_kept}
use Rattle.pyc_class_laws.specs.ClassLaws.{written_bases, bases_of, has_base, IsAncestor, at_once, by_base}
use Rattle.pyc_class_laws.specs.KnownMros.{contains, IsMerge, merged_rows, HasMerge, KnowsWhereBasesMerge, stands_in_tail, is_free, IsFirstFree, here, later, without, IsC3Merge, done, next, HoldsC3Merge}
use Rattle.pyc_class_laws.proofs.LawLemmas.{number-is, known-found, bases-of-known, base-known, same_orders, any-map, any-at, leads-base, written_bases_kept, written_bases_known, ancestors_held}
use Rattle.pyc_class_laws.proofs.MergeLemmas.{AreKept, no_row, one_row, merge-exists}
use Rattle.pyc_class_laws.proofs.NumberLemmas.{number_in-entry, entry_in-number, HaveKnown, have-known, rows_of, order-made, AreOwn, no_class, one_class, RowsOwn, no_rows, more_rows, rows-own, rows-ids}

-- ---- the classes of numbers

module _ (declared : List Entry) where
  abbrev all : List Entry
  all = all_entries declared

  abbrev order : MroTable
  order c = order_at all (number_in all c)

  abbrev table : Table
  table = table_of all

  abbrev ids : List ℕ → List Id
  ids = map (id_at all)

  abbrev IsOwn : ℕ → Type 0
  IsOwn j = number_in all (id_at all j) ≡ Some j

  -- numbers are one where their classes are
  same-own : (i j : ℕ) → IsOwn i → IsOwn j → same_class (id_at all i) (id_at all j) ≡ (i == j)
  same-own i j i_own j_own = by (same_class (id_at all i) (id_at all j)) refl
    where
      by : (b : Bool) → same_class (id_at all i) (id_at all j) ≡ b → b ≡ (i == j)
      by true same =
          let one = same_class-is (id_at all i) (id_at all j) same in
          sym (eq-eqb i j (same_Some i j (sym i_own ∙ ap (number_in all) one ∙ j_own)))
      by false apart =
          sym (false_from_ne_true (i == j) (λ e. false≢true (sym apart
          ∙ ap (λ x. same_class (id_at all i) (id_at all x)) (sym (eqb-true i j e)) ∙ same_class_equiv.refl (id_at all i))))

  contains-ids : (j : ℕ) {row : List ℕ} → IsOwn j → AreOwn declared row → contains (ids row) (id_at all j) ≡ numbers.contains row j
  contains-ids j j_own no_class = refl
  contains-ids j j_own (one_class {n} {row} own rest) = ap₂ (λ a b. a || b) (same-own n j own j_own) (contains-ids j j_own rest)

  tail-ids : (j : ℕ) {row : List ℕ} → IsOwn j → AreOwn declared row → stands_in_tail (id_at all j) (ids row) ≡ numbers.stands_in_tail j row
  tail-ids j j_own no_class = refl
  tail-ids j j_own (one_class {n} {row} own rest) = contains-ids j j_own rest

  tails-ids : (j : ℕ) {rows : List (List ℕ)} → IsOwn j → RowsOwn declared rows
      → list_any (stands_in_tail (id_at all j)) (map ids rows) ≡ list_any (numbers.stands_in_tail j) rows
  tails-ids j j_own no_rows = refl
  tails-ids j j_own (more_rows {row} {rows} own rest) = ap₂ (λ a b. a || b) (tail-ids j j_own own) (tails-ids j j_own rest)

  free-ids : (j : ℕ) {rows : List (List ℕ)} → IsOwn j → RowsOwn declared rows → is_free (map ids rows) (id_at all j) ≡ numbers.is_free rows j
  free-ids j j_own own = ap not (tails-ids j j_own own)

  -- ---- rows without a class

  kept-ids : (n : ℕ) (b : Bool) (left : List Id) (row : List ℕ) → left ≡ ids row → cond b (id_at all n ∷ left) left ≡ ids (cond b (n ∷ row) row)
  kept-ids n true left row is = ap (λ l. id_at all n ∷ l) is
  kept-ids n false left row is = is

  without-ids : (j : ℕ) {row : List ℕ} → IsOwn j → AreOwn declared row → without (id_at all j) (ids row) ≡ ids (numbers.without j row)
  without-ids j j_own no_class = refl
  without-ids j j_own (one_class {n} {row} own rest) =
      let left = without (id_at all j) (ids row) in
      ap (λ b. cond (not b) (id_at all n ∷ left) left) (same-own n j own j_own)
      ∙ kept-ids n (not (n == j)) left (numbers.without j row) (without-ids j j_own rest)

  rows-without-ids : (j : ℕ) {rows : List (List ℕ)} → IsOwn j → RowsOwn declared rows
      → map (without (id_at all j)) (map ids rows) ≡ map ids (map (numbers.without j) rows)
  rows-without-ids j j_own no_rows = refl
  rows-without-ids j j_own (more_rows {row} {rows} own rest) =
      let cons : List Id → List (List Id) → List (List Id) = λ l ls. l ∷ ls in
      ap₂ cons (without-ids j j_own own) (rows-without-ids j j_own rest)

  own-without : (j : ℕ) {row : List ℕ} → AreOwn declared row → AreOwn declared (numbers.without j row)
  own-without j no_class = no_class
  own-without j (one_class {n} {row} own rest) =
      elim (n == j) as (λ b. AreOwn declared (cond (not b) (n ∷ numbers.without j row) (numbers.without j row))) [
        | true ↦ own-without j rest
        | false ↦ one_class own (own-without j rest)
      ]

  rows-own-without : (j : ℕ) {rows : List (List ℕ)} → RowsOwn declared rows → RowsOwn declared (map (numbers.without j) rows)
  rows-own-without j no_rows = no_rows
  rows-own-without j (more_rows {row} {rows} own rest) = more_rows (own-without j own) (rows-own-without j rest)

  -- ---- the head that comes next

  -- it is a number of the rows, and its class comes next of theirs
  first-free : (rows : List (List ℕ)) → RowsOwn declared rows → {others : List (List ℕ)} → RowsOwn declared others → (c : ℕ)
      → first_free rows others ≡ Some c → IsOwn c × IsFirstFree (map ids rows) (map ids others) (id_at all c)
  first-free rows rows_own no_rows c found = absurd (none-some c found)
  first-free rows rows_own (more_rows {rows = others} no_class rest) c found =
      let further = first-free rows rows_own rest c found in
      (further.0, later refl further.1)
  first-free rows rows_own (more_rows {rows = others} (one_class {n = h} {row = t} h_own t_own) rest) c found =
      elim (numbers.is_free rows h) as (λ b. numbers.is_free rows h ≡ b → option_or (cond b (Some h) None) (first_free rows others) ≡ Some c
      → IsOwn c × IsFirstFree (map ids rows) (ids (h ∷ t) ∷ map ids others) (id_at all c)) [
        | true ↦ λ e this.
            let is : h ≡ c = same_Some h c this in
            subst (λ x. IsOwn x × IsFirstFree (map ids rows) (ids (h ∷ t) ∷ map ids others) (id_at all x)) is
            (h_own, here (free-ids h h_own rows_own ∙ e))
        | false ↦ λ e onward.
            let further = first-free rows rows_own rest c onward in
            (further.0, later (free-ids h h_own rows_own ∙ e) further.1)
      ] refl found

  empty-ids : (rows : List (List ℕ)) → list_all is_empty rows ≡ true → All (λ row. row ≡ []) (map ids rows)
  empty-ids [] empty = All-nil (λ row. row ≡ [])
  empty-ids ([] ∷ rows) empty = All-cons (λ row. row ≡ []) [] (map ids rows) refl (empty-ids rows empty)
  empty-ids ((n ∷ row) ∷ rows) empty = absurd (false≢true empty)

  -- ---- the merge of numbers is that of C3

  c3-within : (n : ℕ) (rows : List (List ℕ)) (merged : List ℕ) → RowsOwn declared rows → merge_within n rows ≡ Some merged
      → IsC3Merge (map ids rows) (ids merged)
  c3-within zero rows merged own is = absurd (none-some merged is)
  c3-within (suc n) rows merged own is = by (first_free rows rows) refl is (λ left rest left_own made. c3-within n left rest left_own made)
    where
      onward : (c : ℕ) → first_free rows rows ≡ Some c → (o : Option (List ℕ)) → merge_within n (map (numbers.without c) rows) ≡ o
          → option_map (λ classes. c ∷ classes) o ≡ Some merged
          → ((left : List (List ℕ)) (rest : List ℕ) → RowsOwn declared left → merge_within n left ≡ Some rest → IsC3Merge (map ids left) (ids rest))
          → IsC3Merge (map ids rows) (ids merged)
      onward c e None f is further = absurd (none-some merged is)
      onward c e (Some rest) f is further =
          let first = first-free rows own own c e in
          let inner = further (map (numbers.without c) rows) rest (rows-own-without c own) f in
          let left : IsC3Merge (map (without (id_at all c)) (map ids rows)) (ids rest) =
          subst (λ rs. IsC3Merge rs (ids rest)) (sym (rows-without-ids c first.0 own)) inner in
          subst (λ l. IsC3Merge (map ids rows) (ids l)) (same_Some (c ∷ rest) merged is) (next first.1 left)

      by : (o : Option ℕ) → first_free rows rows ≡ o → merge_from (merge_within n) rows o ≡ Some merged
          → ((left : List (List ℕ)) (rest : List ℕ) → RowsOwn declared left → merge_within n left ≡ Some rest → IsC3Merge (map ids left) (ids rest))
          → IsC3Merge (map ids rows) (ids merged)
      by None e is further =
          let parts = cond_some (list_all is_empty rows) [] merged is in
          subst (λ l. IsC3Merge (map ids rows) (ids l)) parts.1 (done (empty-ids rows parts.0))
      by (Some c) e is further = onward c e (merge_within n (map (numbers.without c) rows)) refl is further

  c3-merge : (rows : List (List ℕ)) (merged : List ℕ) → RowsOwn declared rows → merge rows ≡ Some merged → IsC3Merge (map ids rows) (ids merged)
  unfolding merge
  c3-merge rows merged own is = c3-within (suc (entry_count rows)) rows merged own is

  -- ---- the numbers of classes

  abbrev number : Id → ℕ
  number c = unwrap_or (number_in all c) 0

  -- classes that have a number
  data AreNumbered : List Id → Type 0 where
    no_id : AreNumbered []
    one_id : {c : Id} {classes : List Id} → number_in all c ≡ Some (number c) → AreNumbered classes → AreNumbered (c ∷ classes)

  numbered-by : (c : Id) (n : ℕ) → number_in all c ≡ Some n → number_in all c ≡ Some (number c)
  numbered-by c n found = found ∙ ap Some (sym (ap (λ o. unwrap_or o 0) found))

  -- a class of rows of own numbers has one
  found-in : (c : Id) {row : List ℕ} → AreOwn declared row → contains (ids row) c ≡ true → number_in all c ≡ Some (number c)
  found-in c no_class among = absurd (false≢true among)
  found-in c (one_class {n} {row} own rest) among = elim (or_cases (same_class (id_at all n) c) (contains (ids row) c) among) [
    | inl this ↦ numbered-by c n (ap (number_in all) (sym (same_class-is (id_at all n) c this)) ∙ own)
    | inr further ↦ found-in c rest further
  ]

  found-among : (c : Id) {rows : List (List ℕ)} → RowsOwn declared rows → list_any (λ row. contains row c) (map ids rows) ≡ true
      → number_in all c ≡ Some (number c)
  found-among c no_rows among = absurd (false≢true among)
  found-among c (more_rows {row} {rows} own rest) among =
      elim (or_cases (contains (ids row) c) (list_any (λ other. contains other c) (map ids rows)) among) [
        | inl this ↦ found-in c own this
        | inr further ↦ found-among c rest further
      ]

  are-numbered : (classes : List Id) → ((c : Id) → contains classes c ≡ true → number_in all c ≡ Some (number c)) → AreNumbered classes
  are-numbered [] found = no_id
  are-numbered (c ∷ classes) found =
      one_id (found c (or_left (same_class c c) (contains classes c) (same_class_equiv.refl c)))
      (are-numbered classes (λ d among. found d (or_right (same_class c d) (contains classes d) among)))

  contains-numbers : (c : Id) {classes : List Id} → number_in all c ≡ Some (number c) → AreNumbered classes
      → numbers.contains (map number classes) (number c) ≡ true → contains classes c ≡ true
  contains-numbers c found no_id among = absurd (false≢true among)
  contains-numbers c found (one_id {c = d} {classes} d_found rest) among =
      elim (or_cases (number d == number c) (numbers.contains (map number classes) (number c)) among) [
        | inl this ↦
            let is : number d ≡ number c = eqb-true (number d) (number c) this in
            let one : d ≡ c = sym (number-is declared (number d) d d_found) ∙ ap (id_at all) is ∙ number-is declared (number c) c found in
            or_left (same_class d c) (contains classes c) (ap (λ x. same_class x c) one ∙ same_class_equiv.refl c)
        | inr further ↦ or_right (same_class d c) (contains classes c) (contains-numbers c found rest further)
      ]

  distinct-numbers : {classes : List Id} → AreNumbered classes → is_distinct classes ≡ true → numbered.is_distinct (map number classes) ≡ true
  distinct-numbers no_id once = refl
  distinct-numbers (one_id {c} {classes} found rest) once =
      let parts = and_parts (not (contains classes c)) (is_distinct classes) once in
      let absent : contains classes c ≡ false = not-true (contains classes c) parts.0 in
      let gone : numbers.contains (map number classes) (number c) ≡ false =
      false_from_ne_true (numbers.contains (map number classes) (number c))
      (λ among. false≢true (sym absent ∙ contains-numbers c found rest among)) in
      and_from (not (numbers.contains (map number classes) (number c))) (numbered.is_distinct (map number classes))
      (not_from_false (numbers.contains (map number classes) (number c)) gone) (distinct-numbers rest parts.1)

  numbers-ids : {row : List ℕ} → AreOwn declared row → map number (ids row) ≡ row
  numbers-ids no_class = refl
  numbers-ids (one_class {n} {row} own rest) = ap₂ (λ x l. x ∷ l) (ap (λ o. unwrap_or o 0) own) (numbers-ids rest)

  Sublist-numbers : {part whole : List Id} → Sublist part whole → numbered.Sublist (map number part) (map number whole)
  Sublist-numbers ended = numbered.ended
  Sublist-numbers (kept s) = numbered.kept (Sublist-numbers s)
  Sublist-numbers (left_out s) = numbered.left_out (Sublist-numbers s)

  kept-numbers : (merged : List Id) {rows : List (List ℕ)} → RowsOwn declared rows → All (λ row. Sublist row merged) (map ids rows)
      → AreKept (map number merged) rows
  kept-numbers merged no_rows each = no_row
  kept-numbers merged (more_rows {row} {rows} own rest) each =
      let P : List Id → Type 0 = λ row. Sublist row merged in
      one_row
      (subst (λ l. numbered.Sublist l (map number merged)) (numbers-ids own) (Sublist-numbers (All-head P (ids row) (map ids rows) each)))
      (kept-numbers merged rest (All-tail P (ids row) (map ids rows) each))

  -- ---- a class with a merge

  -- its order by number
  record Built (c : Id) : Type 0 where
    at : ℕ
    found : number_in all c ≡ Some at
    row : List ℕ
    bases : HaveKnown declared (written_bases declared c) row
    merged : List ℕ
    merges : merge (rows_of declared row) ≡ Some merged
    is : order_of table at ≡ known_order (at ∷ merged)

  build : (c : Id) → HasMerge order declared c → Built c
  build c has =
      let number = number_in-entry all c has.declares in
      let bases = have-known declared (written_bases declared c) has.bases in
      let rows = rows_of declared bases.0 in
      let own = rows-own declared bases.1 in
      let merge_of : IsMerge (map ids rows) has.merged = subst (λ rs. IsMerge rs has.merged) (rows-ids declared bases.1) has.merges in
      let classes = are-numbered has.merged (λ d among. found-among d own (merge_of.from_rows d among)) in
      let made =
      merge-exists (map (λ x. unwrap_or (number_in all x) 0) has.merged) (distinct-numbers classes merge_of.once) rows
      (kept-numbers has.merged own merge_of.kept) in
      record {
        at = number.0;
        found = number.1;
        row = bases.0;
        bases = bases.1;
        merged = made.0;
        merges = made.1;
        is = order-made declared number.0 c bases.0 made.0 (written_bases declared c) number.1 refl bases.1 made.1;
      }

  known-where : (c : Id) → HasMerge order declared c → IsKnown order c
  known-where c has =
      let b = build c has in
      ap (λ o. (order_at all o).unknown) b.found ∙ ap (λ o. o.unknown) b.is

  c3-where : (c : Id) → HasMerge order declared c
      → (merged : List Id) × ((order c).classes ≡ c ∷ merged) × IsC3Merge (merged_rows order declared c) merged
  c3-where c has =
      let b = build c has in (
        ids b.merged,
        ap (λ o. (order_at all o).classes) b.found ∙ ap (λ o. ids o.classes) b.is ∙ ap (λ x. x ∷ ids b.merged) (number-is declared b.at c b.found),
        subst (λ rs. IsC3Merge rs (ids b.merged)) (sym (rows-ids declared b.bases)) (c3-merge (rows_of declared b.row) b.merged (rows-own declared b.bases) b.merges),
      )

  -- ---- no class of known order is its own ancestor

  -- a written base of a class whose order is known, by number
  base-number : (c b : Id) (k : ℕ) → number_in all c ≡ Some k → numbered.IsKnown table k → has_base declared c b ≡ true
      → (j : ℕ) × (numbers.contains (parents table k) j ≡ true) × (number_in all b ≡ Some j)
  base-number c b k found known base =
      let is_b : Id → Bool = λ other. same_class other b in
      let bases = bases-of-known declared k c found known in
      let there = sym (any-map is_b (id_at all) (parents table k)) ∙ ap (list_any is_b) bases.classes ∙ base in
      let j = any-found (λ n. is_b (id_at all n)) (parents table k) there in
      (j.0, j.1, ap (number_in all) (sym (same_class-is (id_at all j.0) b j.2)) ∙ bases.own j.0 j.1)

  -- an ancestor is reached by number
  record Reached (c d : Id) : Type 0 where
    from : ℕ
    from_found : number_in all c ≡ Some from
    to : ℕ
    to_found : number_in all d ≡ Some to
    steps : ℕ
    there : reaches table steps from to ≡ true

  reached-number : (c d : Id) → IsKnown order c → IsAncestor declared c d → Reached c d
  reached-number c d known (at_once base) =
      let f = known-found declared c known in
      let b = base-number c d f.number f.found f.known base in
      record {
        from = f.number;
        from_found = f.found;
        to = b.0;
        to_found = b.2;
        steps = 1;
        there = reaches-base table 0 f.number b.0 b.1;
      }
  reached-number c d known (by_base {base = x} base further) =
      let f = known-found declared c known in
      let b = base-number c x f.number f.found f.known base in
      let x_known : IsKnown order x = ap (λ o. (order_at all o).unknown) b.2 ∙ base-known declared f.number b.0 f.known b.1 in
      let rest = reached-number x d x_known further in
      let same : rest.from ≡ b.0 = same_Some rest.from b.0 (sym rest.from_found ∙ b.2) in
      record {
        from = f.number;
        from_found = f.found;
        to = rest.to;
        to_found = rest.to_found;
        steps = suc rest.steps;
        there = reaches-through table rest.steps f.number b.0 rest.to b.1
            (subst (λ n. reaches table rest.steps n rest.to ≡ true) same rest.there);
      }

  no-cycle : (c : Id) → IsKnown order c → IsAncestor declared c c → ⊥
  no-cycle c known ring =
      let r = reached-number c c known ring in
      let same : r.to ≡ r.from = same_Some r.to r.from (sym r.to_found ∙ r.from_found) in
      let is_known : numbered.IsKnown table r.from = sym (ap (λ o. (order_at all o).unknown) r.from_found) ∙ known in
      let there = subst (λ n. reaches table r.steps r.from n ≡ true) same r.there in
      none-some unknown.Cycle (sym is_known ∙ (cycles_are_reported table r.from).1 (known_are_of_the_table table r.from is_known, (r.steps, there)))

  -- ---- a known order has a merge

  begins : (classes : List Id) (c : Id) → slice_get classes 0 ≡ Some c → (rest : List Id) × (classes ≡ c ∷ rest)
  begins [] c first = absurd (none-some c first)
  begins (x ∷ rest) c first = (rest, ap (λ y. y ∷ rest) (same_Some x c first))

  -- what does not hold the first class of a row stands in the rest of it
  in-rest : (part : List Id) (c : Id) (rest : List Id) → Sublist part (c ∷ rest) → (contains part c ≡ true → ⊥) → Sublist part rest
  in-rest part c rest (left_out s) absent = s
  in-rest part c rest (kept {part = others} s) absent =
      absurd (absent (or_left (same_class c c) (contains others c) (same_class_equiv.refl c)))

  any-last : (p : List Id → Bool) (rows : List (List Id)) (row : List Id) → p row ≡ true → list_any p (rows ++ row ∷ []) ≡ true
  any-last p [] row is = or_left (p row) false is
  any-last p (first ∷ rows) row is = or_right (p first) (list_any p (rows ++ row ∷ [])) (any-last p rows row is)

  any-before : (p : List Id → Bool) (row_of : Id → List Id) (classes : List Id) (others : List (List Id)) (b : Id)
      → contains classes b ≡ true → p (row_of b) ≡ true → list_any p (map row_of classes ++ others) ≡ true
  any-before p row_of [] others b among is = absurd (false≢true among)
  any-before p row_of (x ∷ classes) others b among is = elim (or_cases (same_class x b) (contains classes b) among) [
    | inl this ↦
        or_left (p (row_of x)) (list_any p (map row_of classes ++ others))
        (ap (λ y. p (row_of y)) (same_class-is x b this) ∙ is)
    | inr further ↦ or_right (p (row_of x)) (list_any p (map row_of classes ++ others)) (any-before p row_of classes others b further is)
  ]

  abbrev orders : MroTable
  orders = orders_of declared

  module _ (c : Id) (known : IsKnown orders c) (apart : IsAncestor declared c c → ⊥) (rest : List Id) (is : (orders c).classes ≡ c ∷ rest) where
    -- no written base has the class in its order
    base-apart : (b : Id) → has_base declared c b ≡ true → IsKnown orders b → contains (orders b).classes c ≡ true → ⊥
    base-apart b base b_known among = elim ((ancestors_held declared b c b_known).0 among) [
      | inl same ↦ apart (at_once (subst (λ x. has_base declared c x ≡ true) (same_class-is b c same) base))
      | inr ancestor ↦ apart (by_base base ancestor)
    ]

    order-kept : (b : Id) → has_base declared c b ≡ true → Sublist (orders b).classes rest
    order-kept b base =
        let b_kept = orders_kept declared c b known (leads-base declared c b known base) in
        in-rest (orders b).classes c rest (subst (λ l. Sublist (orders b).classes l) is b_kept.1) (base-apart b base b_kept.0)

    bases-kept : Sublist (bases_of declared c) rest
    bases-kept =
        in-rest (bases_of declared c) c rest (subst (λ l. Sublist (bases_of declared c) l) is (written_bases_kept declared c known))
        (λ among. apart (at_once among))

    rows-kept : All (λ row. Sublist row rest) (merged_rows orders declared c)
    rows-kept =
        let P : List Id → Type 0 = λ row. Sublist row rest in
        let row_of : Id → List Id = λ b. (orders b).classes in
        let each : All (λ b. P (row_of b)) (bases_of declared c) =
        λ k d below. order-kept (slice_index_or (bases_of declared c) k d) (any-at (bases_of declared c) k d below) in
        All-append P (map row_of (bases_of declared c)) (bases_of declared c ∷ []) (All-map P row_of (bases_of declared c) each)
        (All-cons P (bases_of declared c) [] bases-kept (All-nil P))

    ancestor-row : (d : Id) → IsAncestor declared c d → list_any (λ row. contains row d) (merged_rows orders declared c) ≡ true
    ancestor-row d ancestor = by c known d ancestor
      where
        by : (c : Id) → IsKnown orders c → (d : Id) → IsAncestor declared c d → list_any (λ row. contains row d) (merged_rows orders declared c) ≡ true
        by c known d (at_once base) =
            any-last (λ row. contains row d) (map (λ b. (orders b).classes) (bases_of declared c)) (bases_of declared c) base
        by c known d (by_base {base = b} base further) =
            let b_known = (orders_kept declared c b known (leads-base declared c b known base)).0 in
            any-before (λ row. contains row d) (λ b. (orders b).classes) (bases_of declared c) (bases_of declared c ∷ []) b base
            ((ancestors_held declared b d b_known).1 (inr further))

    rest-once : (contains rest c ≡ false) × (is_distinct rest ≡ true)
    rest-once =
        let parts = and_parts (not (contains rest c)) (is_distinct rest) (sym (ap is_distinct is) ∙ classes_once declared c known) in
        (not-true (contains rest c) parts.0, parts.1)

    from-rows : (d : Id) → contains rest d ≡ true → list_any (λ row. contains row d) (merged_rows orders declared c) ≡ true
    from-rows d among =
        let led : leads orders c d ≡ true = ap (λ l. contains l d) is ∙ or_right (same_class c d) (contains rest d) among in
        elim ((ancestors_held declared c d known).0 led) [
          | inl same ↦
              let back : contains rest c ≡ true = ap (contains rest) (same_class-is c d same) ∙ among in
              absurd (false≢true (sym rest-once.0 ∙ back))
          | inr ancestor ↦ ancestor-row d ancestor
        ]

    merge-of-rest : IsMerge (merged_rows orders declared c) rest
    merge-of-rest = record { once = rest-once.1; kept = rows-kept; from_rows = from-rows }

  has-merge : (c : Id) → IsKnown orders c → HasMerge orders declared c
  has-merge c known =
      let by_rule : IsKnown order c = subst (λ os. IsKnown os c) (same_orders declared) known in
      let f = known-found declared c by_rule in
      let apart = no-cycle c by_rule in
      let first = begins (orders c).classes c (classes_begin declared c known) in
      record {
        declares = entry_in-number all c f.number f.found;
        no_cycle = apart;
        bases = written_bases_known declared c known;
        merged = first.0;
        merges = merge-of-rest c known apart first.0 first.1;
      }

-- ---- the laws

pub known_where_merged : KnowsWhereBasesMerge
known_where_merged declared c = (
  has-merge declared c,
  λ has.
      subst (λ os. IsKnown os c) (sym (same_orders declared))
      (known-where declared c (subst (λ os. HasMerge os declared c) (same_orders declared) has)),
)

pub c3_merge_held : HoldsC3Merge
c3_merge_held declared c known =
    subst (λ (os : MroTable). (merged : List Id) × ((os c).classes ≡ c ∷ merged) × IsC3Merge (merged_rows os declared c) merged) (sym (same_orders declared))
    (c3-where declared c (subst (λ os. HasMerge os declared c) (same_orders declared) (has-merge declared c known)))
