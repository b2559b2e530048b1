-- Why an order is not known: a class is on a ring, or no depth gives it an order.
use Rattle.std.proofs.Common.{◌≡◌, ℕ, zero, suc, ◌+◌, ◌-◌, ◌<◌, ◌≤◌, ◌⊎◌, Bool, true, false, cond, List, length, Option, None, Some, inl, inr, refl, sym, ap, ◌∙◌, arith}
use Rattle.std.specs.List.{list_any}
use Rattle.std.proofs.lemmas.Bool.{cases_eq, cases_lt, cond-true}
use Rattle.pyc_class_ids.specs.declared.order.UnknownMro.{UnknownMro}
use Rattle.pyc_class_ids.specs.declared.order.UnknownMro.TheVariants as unknown
use Rattle.pyc_mro.specs.declared.table.Base.{Base}
use Rattle.pyc_mro.specs.Merge.{merge}
use Rattle.pyc_mro.specs.MroTable.{Mro, is_unknown, unknown_of, merged_rows, merged_order, linear_order, order_within, order_below, class_order, order_of}
use Rattle.pyc_mro.specs.MroLaws.{CyclesAreReported, HasEnoughDepth}
use Rattle.pyc_mro.specs.Tables.{Table, bases_of, reaches, is_own_ancestor}
use Rattle.pyc_mro.proofs.MroLemmas.{bases-made, order_within-more, order_within-stays, settled-is, order_of-within, order_of-past}
use Rattle.pyc_mro.proofs.SearchLemmas.{own_ancestor-reported}

module _ (table : Table) where
  abbrev within : ℕ → ℕ → Option Mro
  within depth c = order_within table depth c

  -- ---- how many classes have an order

  one : Option Mro → ℕ
  one None = 0
  one (Some order) = 1

  -- how many of the first classes have an order at a depth
  made_count : ℕ → ℕ → ℕ
  made_count depth zero = 0
  made_count depth (suc c) = one (within depth c) + made_count depth c

  made_count-le : (depth count : ℕ) → made_count depth count ≤ count
  unfolding made_count one
  made_count-le depth zero = omega arith
  made_count-le depth (suc c) = elim (within depth c) as (λ o. one o + made_count depth c ≤ suc c) [
    | None ↦ omega (arith, made_count-le depth c)
    | Some order ↦ omega (arith, made_count-le depth c)
  ]

  -- one depth more: the same order, or one where there was none
  deeper : (depth c : ℕ) → (within (suc depth) c ≡ within depth c) ⊎ (one (within depth c) < one (within (suc depth) c))
  unfolding one
  deeper depth c = by (within depth c) refl (within (suc depth) c) refl
    where
      by : (o : Option Mro) → within depth c ≡ o → (p : Option Mro) → within (suc depth) c ≡ p → (p ≡ o) ⊎ (one o < one p)
      by None e None f = inl refl
      by None e (Some order) f = inr (omega arith)
      by (Some order) e p f = inl (sym f ∙ order_within-more table depth c order e)

  -- at one depth more either all stays or more classes have an order
  all-deeper : (depth count : ℕ) → ((c : ℕ) → c < count → within (suc depth) c ≡ within depth c) ⊎ (made_count depth count < made_count (suc depth) count)
  unfolding made_count
  all-deeper depth zero = inl (λ c below. absurd (omega arith))
  all-deeper depth (suc count) = elim (deeper depth count) [
    | inl same ↦ elim (all-deeper depth count) [
      | inl before ↦ inl (λ c below. elim (cases_eq c count) [
        | inl e ↦ ap (within (suc depth)) e ∙ same ∙ ap (within depth) (sym e)
        | inr other ↦ before c (omega arith)
      ])
      | inr more ↦ let e = ap one same in inr (omega arith)
    ]
    | inr new ↦ elim (all-deeper depth count) [
      | inl before ↦ let e = made_count-same depth count before in inr (omega arith)
      | inr more ↦ inr (omega arith)
    ]
  ]
    where
      made_count-same : (depth count : ℕ) → ((c : ℕ) → c < count → within (suc depth) c ≡ within depth c) → made_count (suc depth) count ≡ made_count depth count
      made_count-same depth zero before = refl
      made_count-same depth (suc count) before =
          let here = ap one (before count (omega arith)) in
          let rest = made_count-same depth count (λ c below. before c (omega arith)) in
          omega arith

  -- nothing is new at some depth, or each depth has a class more
  stays-or-grows : (depth : ℕ) → ((d : ℕ) × (d ≤ depth) × ((c : ℕ) → c < length table → within (suc d) c ≡ within d c)) ⊎ (depth ≤ made_count depth (length table))
  stays-or-grows zero = inr (omega arith)
  stays-or-grows (suc depth) = elim (stays-or-grows depth) [
    | inl (d, le, same) ↦ inl (d, omega arith, same)
    | inr grows ↦ elim (all-deeper depth (length table)) [
      | inl same ↦ inl (depth, omega arith, same)
      | inr more ↦ inr (omega arith)
    ]
  ]

  stays : (d : ℕ) × (d ≤ suc (length table)) × ((c : ℕ) → c < length table → within (suc d) c ≡ within d c)
  stays = elim (stays-or-grows (suc (length table))) [
    | inl found ↦ found
    | inr grows ↦ absurd (omega (arith, made_count-le (suc (length table)) (length table)))
  ]

  -- an order stays at any greater depth
  order_within-up : (more depth c : ℕ) (order : Mro) → within depth c ≡ Some order → within (more + depth) c ≡ Some order
  order_within-up zero depth c order is = let e : zero + depth ≡ depth = omega arith in ap (λ n. within n c) e ∙ is
  order_within-up (suc more) depth c order is =
      let e : suc more + depth ≡ suc (more + depth) = omega arith in
      ap (λ n. within n c) e ∙ order_within-more table (more + depth) c order (order_within-up more depth c order is)

  -- an order at any depth is the one at as many as there are classes, and one more
  order_within-enough : (depth c : ℕ) (order : Mro) → c < length table → within depth c ≡ Some order → within (suc (length table)) c ≡ Some order
  order_within-enough depth c order below is =
      let found = stays in
      let d : ℕ = found.0 in
      let le : d ≤ suc (length table) = found.1 in
      let turned : depth + d ≡ d + depth = omega arith in
      let whole : (suc (length table) - d) + d ≡ suc (length table) = omega arith in
      let at : within d c ≡ Some order = sym (order_within-stays table d found.2 depth c below) ∙ ap (λ n. within n c) turned ∙ order_within-up d depth c order is in
      sym (ap (λ n. within n c) whole) ∙ order_within-stays table d found.2 (suc (length table) - d) c below ∙ at

  -- ---- cycles

  -- no order that is made of those of the bases is reported as a cycle
  linear-no_cycle : (c : ℕ) (bases : List Base) (orders : List Mro) → (linear_order c bases orders).unknown ≡ Some unknown.Cycle → ⊥
  linear-no_cycle c bases orders is = by (list_any is_unknown orders) (merge (merged_rows bases orders)) is
    where
      by : (b : Bool) (o : Option (List ℕ)) → (cond b (unknown_of c unknown.Base) (merged_order c o)).unknown ≡ Some unknown.Cycle → ⊥
      by true o e = cc
      by false None e = cc
      by false (Some merged) e = cc

  class-cycle : (c : ℕ) → (class_order table c).unknown ≡ Some unknown.Cycle → is_own_ancestor table c ≡ true
  class-cycle c is = by (is_own_ancestor table c) (within (suc (length table)) c) refl is
    where
      by : (b : Bool) (o : Option Mro) → within (suc (length table)) c ≡ o → (cond b (unknown_of c unknown.Cycle) (order_below c o)).unknown ≡ Some unknown.Cycle → b ≡ true
      by true o e is = refl
      by false None e is = absurd (cc)
      by false (Some order) e is =
          let found = bases-made table (length table) c order e in
          absurd (linear-no_cycle c (bases_of table c) found.0 (ap (λ o. o.unknown) found.2 ∙ is))

  cycle-reported : (c : ℕ) → (order_of table c).unknown ≡ Some unknown.Cycle → (c < length table) × ((n : ℕ) × (reaches table n c c ≡ true))
  cycle-reported c is = elim (cases_lt c (length table)) [
    | inl below ↦ (below, (length table, class-cycle c (sym (ap (λ o. o.unknown) (order_of-within table c below)) ∙ is)))
    | inr past ↦ absurd (apart (ap (λ o. o.unknown) (order_of-past table c past) ∙ is))
  ]
    where
      apart : ◌≡◌ {A = Option UnknownMro} (Some unknown.Base) (Some unknown.Cycle) → ⊥
      apart e = cc

  reported-cycle : (c n : ℕ) → c < length table → reaches table n c c ≡ true → (order_of table c).unknown ≡ Some unknown.Cycle
  reported-cycle c n below there =
      let own = own_ancestor-reported table c n below there in
      ap (λ o. o.unknown)
      (order_of-within table c below ∙ cond-true (is_own_ancestor table c) (unknown_of c unknown.Cycle) (order_below c (within (suc (length table)) c)) own)

-- ---- the laws

pub cycles_are_reported : CyclesAreReported
cycles_are_reported table c = (cycle-reported table c, λ ring. reported-cycle table c ring.1.0 ring.0 ring.1.1)

pub has_enough_depth : HasEnoughDepth
has_enough_depth table depth c order below is = sym (settled-is table c (Some order) below (sym (order_within-enough table depth c order below is)))
