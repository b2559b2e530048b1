-- What the known orders hold.
use Rattle.std.proofs.Common.{◌≡◌, ℕ, zero, suc, ◌<◌, ◌==◌, ◌⊎◌, Bool, true, false, not, cond, nat_lt, is_some, List, [], ◌∷◌, length, map, Option, None, Some, inl, inr, refl, sym, ap, subst, ◌∙◌}
use Rattle.std.specs.List.{list_any, slice_get}
use Rattle.std.proofs.lemmas.Bool.{cases_lt, and_from, or_cases, or_parts, or_left, or_right, eqb-true, eq-eqb, lt-ltb, le-ltb, cond-true, cond-false, true≢false, false≢true, false_from_ne_true, not_from_false}
use Rattle.std.proofs.lemmas.Option.{none-some, same_Some}
use Rattle.pyc_class_ids.specs.declared.order.UnknownMro.TheVariants as unknown
use Rattle.pyc_mro.specs.declared.table.Base.{Base}
use Rattle.pyc_mro.specs.declared.table.Base.TheVariants as base
use Rattle.pyc_mro.specs.Merge.{contains, merge}
use Rattle.pyc_mro.specs.MroTable.{Mro, is_unknown, known, unknown_of, no_order, base_order, base_orders, merged_rows, merged_order, linear_order, order_within, order_below, class_order, order_of}
use Rattle.pyc_mro.specs.MroLaws.{IsKnown, classes_of, is_distinct, Sublist, left_out, KnownAreOfTheTable, BeginsWithItself, HoldsAncestors, HoldsEachOnce, KeepsMros, KeepsWrittenBases, HoldsItself, HoldsMros}
use Rattle.pyc_mro.specs.Tables.{Table, classes_among, bases_of, parents, reaches, is_own_ancestor}
use Rattle.pyc_mro.proofs.MroLemmas.{with_order-parts, bases-made, order_within-more, made-apart, settled-is, order_of-within, order_of-past}
use Rattle.pyc_mro.proofs.RowLemmas.{Sublist-itself, Sublist-trans, Sublist-contains, Row, here, later, Row-before, Row-last, Row-cases, merge-keeps, merge-row, merge-once}
use Rattle.pyc_mro.proofs.TableLemmas.{reaches-base, reaches-through, reaches-parts}

-- ---- known orders

none_from : {X : Type 0} (o : Option X) → is_some o ≡ false → o ≡ None
none_from None e = refl
none_from (Some x) e = absurd (true≢false e)

-- an order that is known
known-is : (order : Mro) → order.unknown ≡ None → order ≡ known order.classes
known-is order e = ap (λ u. record { classes = order.classes; unknown = u }) e

known-classes : (a b : List ℕ) → known a ≡ known b → a ≡ b
known-classes a b e = ap (λ order. order.classes) e

-- ---- bases whose orders are known

-- bases are classes of the table, and these are their orders, which are known
data AreKnown (count : ℕ) (f : ℕ → Option Mro) : List Base → List Mro → Type 0 where
  no_base : AreKnown count f [] []
  one_base : {c : ℕ} {row : List ℕ} {bases : List Base} {orders : List Mro} → c < count → f c ≡ Some (known row) → AreKnown count f bases orders
      → AreKnown count f (base.Class c ∷ bases) (known row ∷ orders)

module _ (count : ℕ) (f : ℕ → Option Mro) where
  are-known : (bases : List Base) (orders : List Mro) → base_orders count f bases ≡ Some orders → list_any is_unknown orders ≡ false → AreKnown count f bases orders
  are-known [] orders is all = subst (AreKnown count f []) (same_Some [] orders is) no_base
  are-known (base.Unknown ∷ bases) orders is all =
      let parts = with_order-parts (Some no_order) (base_orders count f bases) orders is in
      let whole : parts.0 ∷ parts.1 ≡ orders = same_Some (parts.0 ∷ parts.1) orders parts.4 in
      let first : no_order ≡ parts.0 = same_Some no_order parts.0 parts.2 in
      let unknown_first : is_unknown parts.0 ≡ false = (or_parts (is_unknown parts.0) (list_any is_unknown parts.1) (ap (list_any is_unknown) whole ∙ all)).0 in
      absurd (true≢false (ap is_unknown first ∙ unknown_first))
  are-known (base.Class c ∷ bases) orders is all =
      let parts = with_order-parts (base_order count f (base.Class c)) (base_orders count f bases) orders is in
      let whole : parts.0 ∷ parts.1 ≡ orders = same_Some (parts.0 ∷ parts.1) orders parts.4 in
      let tests = or_parts (is_unknown parts.0) (list_any is_unknown parts.1) (ap (list_any is_unknown) whole ∙ all) in
      let rest = are-known bases parts.1 parts.3 tests.1 in
      let first : parts.0 ≡ known parts.0.classes = known-is parts.0 (none_from parts.0.unknown tests.0) in
      elim (cases_lt c count) [
        | inl below ↦
            let made : f c ≡ Some (known parts.0.classes) =
            sym (cond-true (nat_lt c count) (f c) (Some no_order) (lt-ltb c count below)) ∙ parts.2 ∙ ap Some first in
            subst (AreKnown count f (base.Class c ∷ bases)) (ap (λ o. o ∷ parts.1) (sym first) ∙ whole) (one_base below made rest)
        | inr past ↦
            let absent : Some no_order ≡ Some parts.0 = sym (cond-false (nat_lt c count) (f c) (Some no_order) (le-ltb c count past)) ∙ parts.2 in
            absurd (true≢false (ap is_unknown (same_Some no_order parts.0 absent) ∙ tests.0))
      ]

  -- a base has an order, which is one of the rows
  base-row : {bases : List Base} {orders : List Mro} → AreKnown count f bases orders → (b : ℕ) → contains (classes_among bases) b ≡ true
      → (row : List ℕ) × Row row (map (λ order. order.classes) orders) × (f b ≡ Some (known row)) × (b < count)
  base-row no_base b in' = absurd (false≢true in')
  base-row (one_base {c = c} {row = row} {bases = bases} below made rest) b in' = elim (or_cases (c == b) (contains (classes_among bases) b) in') [
    | inl same ↦
        let is : c ≡ b = eqb-true c b same in
        (row, here, ap f (sym is) ∙ made, subst (λ x. x < count) is below)
    | inr among ↦ let found = base-row rest b among in (found.0, later found.1, found.2, found.3)
  ]

  -- each row is the order of a base
  row-base : {bases : List Base} {orders : List Mro} → AreKnown count f bases orders → (row : List ℕ) → Row row (map (λ order. order.classes) orders)
      → (b : ℕ) × (contains (classes_among bases) b ≡ true) × (f b ≡ Some (known row)) × (b < count)
  row-base no_base row at = elim at [ ]
  row-base (one_base {c = c} {bases = bases} below made rest) row here = (c, or_left (c == c) (contains (classes_among bases) c) (eq-eqb c c refl), made, below)
  row-base (one_base {c = c} {bases = bases} below made rest) row (later at) =
      let found = row-base rest row at in (found.0, or_right (c == found.0) (contains (classes_among bases) found.0) found.1, found.2, found.3)

-- ---- how a known order is made

-- the orders of the bases, and their merge
record Made (table : Table) (depth c : ℕ) (classes : List ℕ) : Type 0 where
  orders : List Mro
  merged : List ℕ
  bases : AreKnown (length table) (order_within table depth) (bases_of table c) orders
  merges : merge (merged_rows (bases_of table c) orders) ≡ Some merged
  whole : classes ≡ c ∷ merged

module _ (table : Table) where
  -- the order of a class by going to bases at most so many times is known, and is this
  abbrev Has : ℕ → ℕ → List ℕ → Type 0
  Has depth c classes = order_within table depth c ≡ Some (known classes)

  how-made : (depth c : ℕ) (classes : List ℕ) → Has (suc depth) c classes → Made table depth c classes
  how-made depth c classes is =
      let bases = bases_of table c in
      let found = bases-made table depth c (known classes) is in
      by found.0 found.1 (list_any is_unknown found.0) refl found.2
    where
      merged-by : (orders : List Mro) → base_orders (length table) (order_within table depth) (bases_of table c) ≡ Some orders → list_any is_unknown orders ≡ false
          → (o : Option (List ℕ)) → merge (merged_rows (bases_of table c) orders) ≡ o → merged_order c o ≡ known classes → Made table depth c classes
      merged-by orders made all None e linear = absurd (none-some unknown.Merge (sym (ap (λ order. order.unknown) linear)))
      merged-by orders made all (Some merged) e linear = record {
        orders = orders;
        merged = merged;
        bases = are-known (length table) (order_within table depth) (bases_of table c) orders made all;
        merges = e;
        whole = sym (known-classes (c ∷ merged) classes linear);
      }

      by : (orders : List Mro) → base_orders (length table) (order_within table depth) (bases_of table c) ≡ Some orders → (b : Bool) → list_any is_unknown orders ≡ b
          → linear_order c (bases_of table c) orders ≡ known classes → Made table depth c classes
      by orders made true e linear =
          let first : unknown_of c unknown.Base ≡ known classes =
          sym (cond-true (list_any is_unknown orders) (unknown_of c unknown.Base) (merged_order c (merge (merged_rows (bases_of table c) orders))) e) ∙ linear in
          absurd (none-some unknown.Base (sym (ap (λ order. order.unknown) first)))
      by orders made false e linear =
          merged-by orders made e (merge (merged_rows (bases_of table c) orders)) refl
          (sym (cond-false (list_any is_unknown orders) (unknown_of c unknown.Base) (merged_order c (merge (merged_rows (bases_of table c) orders))) e) ∙ linear)

  -- ---- what it holds

  module _ (depth c : ℕ) (classes : List ℕ) (made : Made table depth c classes) where
    -- the bases stand in the merge as they are written
    bases-kept : Sublist (parents table c) made.merged
    bases-kept = merge-keeps (merged_rows (bases_of table c) made.orders) made.merged made.merges (parents table c) (Row-last (map (λ order. order.classes) made.orders) (parents table c))

    -- the order of each base stands in the merge
    order-kept : (row : List ℕ) → Row row (map (λ order. order.classes) made.orders) → Sublist row made.merged
    order-kept row at = merge-keeps (merged_rows (bases_of table c) made.orders) made.merged made.merges row (Row-before (map (λ order. order.classes) made.orders) (parents table c ∷ []) row at)

    -- each class of the merge stands in the order of a base, or is one
    merged-from : (d : ℕ) → contains made.merged d ≡ true
        → (b : ℕ) × (row : List ℕ) × (contains (parents table c) b ≡ true) × Has depth b row × (b < length table) × Row row (map (λ order. order.classes) made.orders) × ((b ≡ d) ⊎ (contains row d ≡ true))
    merged-from d in' =
        let found = merge-row (merged_rows (bases_of table c) made.orders) made.merged made.merges d in' in
        elim (Row-cases (map (λ order. order.classes) made.orders) (parents table c) found.0 found.1) [
          | inl at ↦
              let from = row-base (length table) (order_within table depth) made.bases found.0 at in
              (from.0, found.0, from.1, from.2, from.3, at, inr found.2)
          | inr last ↦
              let among : contains (parents table c) d ≡ true = ap (λ l. contains l d) (sym last) ∙ found.2 in
              let from = base-row (length table) (order_within table depth) made.bases d among in
              (d, from.0, among, from.2, from.3, from.1, inl refl)
        ]

  -- each class of a known order has a known order, which stands in it
  order-in : (depth c : ℕ) (classes : List ℕ) (d : ℕ) → c < length table → Has depth c classes → contains classes d ≡ true
      → (row : List ℕ) × Has depth d row × (d < length table) × Sublist row classes
  order-in zero c classes d below is in' = absurd (none-some (known classes) is)
  order-in (suc depth) c classes d below is in' =
      let made = how-made depth c classes is in
      elim (or_cases (c == d) (contains made.merged d) (sym (ap (λ l. contains l d) made.whole) ∙ in')) [
        | inl same ↦
            let e : c ≡ d = eqb-true c d same in
            (classes, subst (λ x. Has (suc depth) x classes) e is, subst (λ x. x < length table) e below, Sublist-itself classes)
        | inr among ↦
            let from = merged-from depth c classes made d among in
            let base_kept = order-kept depth c classes made from.1 from.5 in
            let inner : (row : List ℕ) × Has depth d row × (d < length table) × Sublist row from.1 = elim (from.6) [
              | inl e ↦ (from.1, subst (λ x. Has depth x from.1) e from.3, subst (λ x. x < length table) e from.4, Sublist-itself from.1)
              | inr within ↦ order-in depth from.0 from.1 d from.4 from.3 within
            ] in (
              inner.0,
              order_within-more table depth d (known inner.0) inner.1,
              inner.2,
              subst (λ l. Sublist inner.0 l) (sym made.whole) (left_out (Sublist-trans inner.3 base_kept)),
            )
      ]

  -- each class of a known order is its own, or is reached
  reached-in : (depth c : ℕ) (classes : List ℕ) (d : ℕ) → Has depth c classes → contains classes d ≡ true → (c ≡ d) ⊎ ((n : ℕ) × (reaches table n c d ≡ true))
  reached-in zero c classes d is in' = absurd (none-some (known classes) is)
  reached-in (suc depth) c classes d is in' =
      let made = how-made depth c classes is in
      elim (or_cases (c == d) (contains made.merged d) (sym (ap (λ l. contains l d) made.whole) ∙ in')) [
        | inl same ↦ inl (eqb-true c d same)
        | inr among ↦
            let from = merged-from depth c classes made d among in
            let inner : (from.0 ≡ d) ⊎ ((n : ℕ) × (reaches table n from.0 d ≡ true)) = elim (from.6) [
              | inl e ↦ inl e
              | inr within ↦ reached-in depth from.0 from.1 d from.3 within
            ] in
            elim inner [
              | inl e ↦ inr (1, reaches-base table 0 c d (ap (contains (parents table c)) (sym e) ∙ from.2))
              | inr (n, there) ↦ inr (suc n, reaches-through table n c from.0 d from.2 there)
            ]
      ]

  -- the merge holds only what is reached
  merged-reached : (depth c : ℕ) (classes : List ℕ) (made : Made table depth c classes) (d : ℕ) → contains made.merged d ≡ true → (n : ℕ) × (reaches table n c d ≡ true)
  merged-reached depth c classes made d among =
      let from = merged-from depth c classes made d among in
      let inner : (from.0 ≡ d) ⊎ ((n : ℕ) × (reaches table n from.0 d ≡ true)) = elim (from.6) [
        | inl e ↦ inl e
        | inr within ↦ reached-in depth from.0 from.1 d from.3 within
      ] in
      elim inner [
        | inl e ↦ (1, reaches-base table 0 c d (ap (contains (parents table c)) (sym e) ∙ from.2))
        | inr (n, there) ↦ (suc n, reaches-through table n c from.0 d from.2 there)
      ]

  -- what is reached stands in a known order
  in-reached : (n depth c : ℕ) (classes : List ℕ) (d : ℕ) → Has depth c classes → reaches table n c d ≡ true → contains classes d ≡ true
  in-reached zero depth c classes d is there = absurd (false≢true there)
  in-reached (suc n) zero c classes d is there = absurd (none-some (known classes) is)
  in-reached (suc n) (suc depth) c classes d is there =
      let made = how-made depth c classes is in
      let parts = reaches-parts table n c d there in
      let among : contains made.merged d ≡ true = elim (parts.2) [
        | inl e ↦ Sublist-contains (bases-kept depth c classes made) d (ap (contains (parents table c)) (sym e) ∙ parts.1)
        | inr onward ↦
            let from = base-row (length table) (order_within table depth) made.bases parts.0 parts.1 in
            Sublist-contains (order-kept depth c classes made from.0 from.1) d (in-reached n depth parts.0 from.0 d from.2 onward)
      ] in
      ap (λ l. contains l d) made.whole ∙ or_right (c == d) (contains made.merged d) among

  -- a known order holds each class once
  once-in : (depth c : ℕ) (classes : List ℕ) → c < length table → Has depth c classes → is_distinct classes ≡ true
  once-in zero c classes below is = absurd (none-some (known classes) is)
  once-in (suc depth) c classes below is =
      let made = how-made depth c classes is in
      let apart : contains made.merged c ≡ false = false_from_ne_true (contains made.merged c) (λ among.
      let back = merged-reached depth c classes made c among in
      made-apart table (suc depth) c back.0 (known classes) below is back.1) in
      ap is_distinct made.whole
      ∙ and_from (not (contains made.merged c)) (is_distinct made.merged) (not_from_false (contains made.merged c) apart) (merge-once (merged_rows (bases_of table c) made.orders) made.merged made.merges)

  -- ---- the order of each class

  -- a class of a known order, and the order
  pub record Known (c : ℕ) : Type 0 where
    within : c < length table
    has : Has (suc (length table)) c (classes_of table c)

  class-known : (c : ℕ) (b : Bool) (made : Option Mro) (order : Mro) → order ≡ cond b (unknown_of c unknown.Cycle) (order_below c made) → order.unknown ≡ None → made ≡ Some (known order.classes)
  class-known c true made order e is = absurd (none-some unknown.Cycle (sym (sym (ap (λ o. o.unknown) e) ∙ is)))
  class-known c false None order e is = absurd (none-some unknown.Base (sym (sym (ap (λ o. o.unknown) e) ∙ is)))
  class-known c false (Some made) order e is = ap Some (sym e ∙ known-is order is)

  known-order : (c : ℕ) → IsKnown table c → Known c
  known-order c is = elim (cases_lt c (length table)) [
    | inl below ↦ record {
      within = below;
      has = class-known c (is_own_ancestor table c) (order_within table (suc (length table)) c) (order_of table c) (order_of-within table c below) is;
    }
    | inr past ↦ absurd (none-some unknown.Base (sym (ap (λ o. o.unknown) (order_of-past table c past) ∙ is)))
  ]

  -- and the other way round
  order-known : (c : ℕ) (classes : List ℕ) → c < length table → Has (suc (length table)) c classes → order_of table c ≡ known classes
  order-known c classes below is = sym (settled-is table c (Some (known classes)) below (sym is))

  -- a known order holds its class
  holds-own : (c : ℕ) → IsKnown table c → contains (classes_of table c) c ≡ true
  holds-own c is =
      let own = known-order c is in
      let made = how-made (length table) c (classes_of table c) own.has in
      ap (λ l. contains l c) made.whole ∙ or_left (c == c) (contains made.merged c) (eq-eqb c c refl)

  -- an order begins with its class
  linear-first : (c : ℕ) (bases : List Base) (orders : List Mro) → slice_get (linear_order c bases orders).classes 0 ≡ Some c
  linear-first c bases orders = by (list_any is_unknown orders) (merge (merged_rows bases orders))
    where
      by : (b : Bool) (o : Option (List ℕ)) → slice_get (cond b (unknown_of c unknown.Base) (merged_order c o)).classes 0 ≡ Some c
      by true o = refl
      by false None = refl
      by false (Some merged) = refl

  class-first : (c : ℕ) → slice_get (class_order table c).classes 0 ≡ Some c
  class-first c = by (is_own_ancestor table c) (order_within table (suc (length table)) c) refl
    where
      by : (b : Bool) (o : Option Mro) → order_within table (suc (length table)) c ≡ o → slice_get (cond b (unknown_of c unknown.Cycle) (order_below c o)).classes 0 ≡ Some c
      by true o e = refl
      by false None e = refl
      by false (Some order) e =
          let found = bases-made table (length table) c order e in
          ap (λ o. slice_get o.classes 0) (sym found.2) ∙ linear-first c (bases_of table c) found.0

-- ---- the laws

pub known_are_of_the_table : KnownAreOfTheTable
known_are_of_the_table table c is = (known-order table c is).within

pub begins_with_itself : BeginsWithItself
begins_with_itself table c below = ap (λ o. slice_get o.classes 0) (order_of-within table c below) ∙ class-first table c

pub holds_ancestors : HoldsAncestors
holds_ancestors table c d is = (
  λ in'. reached-in table (suc (length table)) c (classes_of table c) d (known-order table c is).has in',
  λ held. elim held [
    | inl same ↦ ap (contains (classes_of table c)) (sym same) ∙ holds-own table c is
    | inr (n, there) ↦ in-reached table n (suc (length table)) c (classes_of table c) d (known-order table c is).has there
  ],
)

pub holds_each_once : HoldsEachOnce
holds_each_once table c is = let own = known-order table c is in once-in table (suc (length table)) c (classes_of table c) own.within own.has

pub keeps_orders : KeepsMros
keeps_orders table c d is in' =
    let own = known-order table c is in
    let found = order-in table (suc (length table)) c (classes_of table c) d own.within own.has in' in
    let order : order_of table d ≡ known found.0 = order-known table d found.0 found.2 found.1 in
    (ap (λ o. o.unknown) order, subst (λ l. Sublist l (classes_of table c)) (sym (ap (λ o. o.classes) order)) found.3)

pub keeps_written_bases : KeepsWrittenBases
keeps_written_bases table c is =
    let own = known-order table c is in
    let made = how-made table (length table) c (classes_of table c) own.has in
    subst (λ l. Sublist (parents table c) l) (sym made.whole) (left_out (bases-kept table (length table) c (classes_of table c) made))

pub holds_itself : HoldsItself
holds_itself table c is = holds-own table c is

pub holds_orders : HoldsMros
holds_orders table c d e is in' among = Sublist-contains (keeps_orders table c d is in').1 e among
