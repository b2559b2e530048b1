-- Orders that are made of those of the bases.
use Rattle.std.proofs.Common.{◌≡◌, ℕ, zero, suc, ◌+◌, ◌<◌, ◌≤◌, ◌==◌, Bool, true, false, cond, nat_lt, List, [], ◌∷◌, ◌++◌, length, Option, None, Some, option_map, inl, inr, refl, sym, ap, ap₂, ◌∙◌, arith}
use Rattle.std.specs.Option.{option_or}
use Rattle.std.proofs.lemmas.Bool.{ltb-true, lt-ltb, le-ltb, or_cases, eqb-true, false≢true, false_from_ne_true, cond-true, cond-false}
use Rattle.std.proofs.lemmas.Option.{none-some, same_Some}
use Rattle.pyc_mro.specs.declared.table.Base.{Base}
use Rattle.pyc_mro.specs.declared.table.Base.TheVariants as base
use Rattle.pyc_mro.specs.Merge.{contains}
use Rattle.pyc_class_ids.specs.declared.order.UnknownMro.TheVariants as unknown
use Rattle.pyc_mro.specs.MroTable.{Mro, unknown_of, no_order, base_order, with_order, base_orders, linear_order, order_within, order_below, class_order, order_of}
use Rattle.pyc_mro.specs.Passes.{settled_order}
use Rattle.pyc_mro.specs.Tables.{Table, classes_among, bases_of, parents, reaches, is_own_ancestor}
use Rattle.pyc_mro.proofs.TableLemmas.{reaches-within, reaches-parts}

-- orders before others, if there are these
abbrev pub after_orders : List Mro → Option (List Mro) → Option (List Mro)
after_orders found None = None
after_orders found (Some orders) = Some (found ++ orders)

-- where there is an order before others, there are both
pub with_order-parts : (o : Option Mro) (later : Option (List Mro)) (os : List Mro) → with_order o later ≡ Some os
    → (x : Mro) × (xs : List Mro) × (o ≡ Some x) × (later ≡ Some xs) × (Some (x ∷ xs) ≡ Some os)
with_order-parts None later os is = absurd (none-some os is)
with_order-parts (Some x) None os is = absurd (none-some os is)
with_order-parts (Some x) (Some xs) os is = (x, xs, refl, refl, is)

-- ---- the orders of bases

module _ (count : ℕ) (f g : ℕ → Option Mro) where
  -- what gives each class the same order gives each base the same
  base_order-same : ((c : ℕ) → c < count → f c ≡ g c) → (b : Base) → base_order count f b ≡ base_order count g b
  base_order-same same base.Unknown = refl
  base_order-same same (base.Class c) = elim (nat_lt c count) as (λ b. nat_lt c count ≡ b → cond b (f c) (Some no_order) ≡ cond b (g c) (Some no_order)) [
    | true ↦ λ within. same c (ltb-true c count within)
    | false ↦ λ past. refl
  ] refl

  pub base_orders-same : ((c : ℕ) → c < count → f c ≡ g c) → (bases : List Base) → base_orders count f bases ≡ base_orders count g bases
  base_orders-same same [] = refl
  base_orders-same same (b ∷ bases) = ap₂ with_order (base_order-same same b) (base_orders-same same bases)

  -- what gives more classes an order gives more bases one
  base_order-more : ((c : ℕ) (o : Mro) → f c ≡ Some o → g c ≡ Some o) → (b : Base) (o : Mro) → base_order count f b ≡ Some o → base_order count g b ≡ Some o
  base_order-more more base.Unknown o is = is
  base_order-more more (base.Class c) o is = elim (nat_lt c count) as (λ b. cond b (f c) (Some no_order) ≡ Some o → cond b (g c) (Some no_order) ≡ Some o) [
    | true ↦ λ is. more c o is
    | false ↦ λ is. is
  ] is

  pub base_orders-more : ((c : ℕ) (o : Mro) → f c ≡ Some o → g c ≡ Some o) → (bases : List Base) (os : List Mro) → base_orders count f bases ≡ Some os → base_orders count g bases ≡ Some os
  base_orders-more more [] os is = is
  base_orders-more more (b ∷ bases) os is =
      let parts = with_order-parts (base_order count f b) (base_orders count f bases) os is in
      ap₂ with_order (base_order-more more b parts.0 parts.2) (base_orders-more more bases parts.1 parts.3) ∙ parts.4

-- ---- the order by going to bases more often

module _ (table : Table) where
  abbrev within : ℕ → ℕ → Option Mro
  within depth c = order_within table depth c

  -- the orders of the bases, where a class has an order
  pub bases-made : (depth c : ℕ) (o : Mro) → within (suc depth) c ≡ Some o
      → (os : List Mro) × (base_orders (length table) (within depth) (bases_of table c) ≡ Some os) × (linear_order c (bases_of table c) os ≡ o)
  bases-made depth c o is = parts (base_orders (length table) (within depth) (bases_of table c)) is
    where
      parts : (later : Option (List Mro)) → option_map (linear_order c (bases_of table c)) later ≡ Some o → (os : List Mro) × (later ≡ Some os) × (linear_order c (bases_of table c) os ≡ o)
      parts None is = absurd (none-some o is)
      parts (Some os) is = (os, refl, same_Some _ o is)

  -- an order stays where bases are gone to more often
  pub order_within-more : (depth c : ℕ) (o : Mro) → within depth c ≡ Some o → within (suc depth) c ≡ Some o
  order_within-more zero c o is = absurd (none-some o is)
  order_within-more (suc depth) c o is =
      let made = bases-made depth c o is in
      ap (option_map (linear_order c (bases_of table c))) (base_orders-more (length table) (within depth) (within (suc depth)) (order_within-more depth) (bases_of table c) made.0 made.1) ∙ ap Some made.2

  -- an order is kept, or is the next
  pub kept_or_within : (depth c : ℕ) → option_or (within depth c) (within (suc depth) c) ≡ within (suc depth) c
  kept_or_within depth c = elim (within depth c) as (λ o. within depth c ≡ o → option_or o (within (suc depth) c) ≡ within (suc depth) c) [
    | None ↦ λ e. refl
    | Some o ↦ λ e. sym (order_within-more depth c o e)
  ] refl

  -- where nothing is new once, nothing is new after that
  pub order_within-stays : (depth : ℕ) → ((c : ℕ) → c < length table → within (suc depth) c ≡ within depth c)
      → (more c : ℕ) → c < length table → within (more + depth) c ≡ within depth c
  order_within-stays depth same zero c in' = let e : zero + depth ≡ depth = omega arith in ap (λ n. within n c) e
  order_within-stays depth same (suc more) c in' =
      let e : suc more + depth ≡ suc (more + depth) = omega arith in
      ap (λ n. within n c) e
      ∙ ap (option_map (linear_order c (bases_of table c))) (base_orders-same (length table) (within (more + depth)) (within depth) (order_within-stays depth same more) (bases_of table c))
      ∙ same c in'

  -- ---- no class that has an order by its bases is its own ancestor

  -- each base of a class that has an order has one
  base-made : (f : ℕ → Option Mro) (bases : List Base) (os : List Mro) (b : ℕ) → base_orders (length table) f bases ≡ Some os → contains (classes_among bases) b ≡ true → b < length table → (o : Mro) × (f b ≡ Some o)
  base-made f [] os b is in' below = absurd (false≢true in')
  base-made f (base.Unknown ∷ bases) os b is in' below =
      let parts = with_order-parts (Some no_order) (base_orders (length table) f bases) os is in
      base-made f bases parts.1 b parts.3 in' below
  base-made f (base.Class c ∷ bases) os b is in' below =
      let parts = with_order-parts (base_order (length table) f (base.Class c)) (base_orders (length table) f bases) os is in
      elim (or_cases (c == b) (contains (classes_among bases) b) in') [
        | inl here ↦
            let same : c ≡ b = eqb-true c b here in
            (parts.0, sym (cond-true (nat_lt b (length table)) (f b) (Some no_order) (lt-ltb b (length table) below)) ∙ ap (λ x. base_order (length table) f (base.Class x)) (sym same) ∙ parts.2)
        | inr later ↦ base-made f bases parts.1 b parts.3 later below
      ]

  -- what a class that has an order reaches has one, by going to bases once less
  reached-made : (n depth c d : ℕ) (o : Mro) → d < length table → within (suc depth) c ≡ Some o → reaches table n c d ≡ true → (x : Mro) × (within depth d ≡ Some x)
  reached-made zero depth c d o below is none = absurd (false≢true none)
  reached-made (suc n) depth c d o below is there =
      let made = bases-made depth c o is in
      let parts = reaches-parts table n c d there in
      elim (parts.2) [
        | inl here ↦ base-made (within depth) (bases_of table c) made.0 d made.1 (ap (contains (parents table c)) (sym here) ∙ parts.1) below
        | inr later ↦
            let base = base-made (within depth) (bases_of table c) made.0 parts.0 made.1 parts.1 (reaches-within table n parts.0 d later) in
            further depth parts.0 base.0 (λ less. reached-made n less parts.0 d base.0 below) base.1 later
      ]
    where
      further : (depth b : ℕ) (ob : Mro) → ((less : ℕ) → within (suc less) b ≡ Some ob → reaches table n b d ≡ true → (x : Mro) × (within less d ≡ Some x))
          → within depth b ≡ Some ob → reaches table n b d ≡ true → (x : Mro) × (within depth d ≡ Some x)
      further zero b ob onward is later = absurd (none-some ob is)
      further (suc less) b ob onward is later = let found = onward less is later in (found.0, order_within-more less d found.0 found.1)

  -- so it does not reach itself
  pub made-apart : (depth c n : ℕ) (o : Mro) → c < length table → within depth c ≡ Some o → reaches table n c c ≡ true → ⊥
  made-apart zero c n o below is there = none-some o is
  made-apart (suc depth) c n o below is there = let found = reached-made n depth c c o below is there in made-apart depth c n found.0 below found.1 there

  pub made-no_ring : (depth c : ℕ) (o : Mro) → c < length table → within depth c ≡ Some o → is_own_ancestor table c ≡ false
  made-no_ring depth c o below is = false_from_ne_true (is_own_ancestor table c) (made-apart depth c (length table) o below is)

  -- ---- the order of each class

  -- the order of a class, by the one that it has by its bases, if it has one
  pub settled-is : (c : ℕ) (made : Option Mro) → c < length table → made ≡ within (suc (length table)) c → settled_order table c made ≡ order_of table c
  unfolding order_of
  settled-is c made below is =
      settled made is ∙ sym (cond-true (nat_lt c (length table)) (class_order table c) no_order (lt-ltb c (length table) below))
    where
      ring : (b : Bool) → unknown_of c (cond b unknown.Cycle unknown.Base) ≡ cond b (unknown_of c unknown.Cycle) (unknown_of c unknown.Base)
      ring true = refl
      ring false = refl

      settled : (made : Option Mro) → made ≡ within (suc (length table)) c → settled_order table c made ≡ class_order table c
      settled None is =
          ring (is_own_ancestor table c) ∙ ap (λ o. cond (is_own_ancestor table c) (unknown_of c unknown.Cycle) (order_below c o)) is
      settled (Some o) is =
          ap (order_below c) is
          ∙ sym (cond-false (is_own_ancestor table c) (unknown_of c unknown.Cycle) (order_below c (within (suc (length table)) c)) (made-no_ring (suc (length table)) c o below (sym is)))

  -- what is no class of the table
  pub order_of-past : (c : ℕ) → length table ≤ c → no_order ≡ order_of table c
  unfolding order_of
  order_of-past c past = sym (cond-false (nat_lt c (length table)) (class_order table c) no_order (le-ltb c (length table) past))

  -- a class of the table
  pub order_of-within : (c : ℕ) → c < length table → order_of table c ≡ class_order table c
  unfolding order_of
  order_of-within c below = cond-true (nat_lt c (length table)) (class_order table c) no_order (lt-ltb c (length table) below)
