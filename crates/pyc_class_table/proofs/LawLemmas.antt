-- What the known orders hold.
use Rattle.std.proofs.Common.{◌≡◌, ℕ, zero, suc, ◌+◌, ◌==◌, Bool, true, false, not, ◌||◌, cond, is_some, List, [], ◌∷◌, map, unwrap_or, option_map, Option, None, Some, IsTrue, inl, inr, refl, sym, ap, subst, subst₂, ◌∙◌, arith}
use Rattle.std.specs.List.{list_any, slice_get}
use Rattle.std.proofs.lemmas.Bool.{and_from, and_parts, or_cases, or_left, or_right, eqb-true, eq-eqb, false≢true, false_from_ne_true, not_from_false}
use Rattle.pyc_class_ids.specs.declared.class_id.InstanceForm.{InstanceForm}
use Rattle.pyc_class_ids.specs.declared.class_id.InstanceForm.TheVariants as form
use Rattle.pyc_class_ids.specs.declared.order.UnknownMro.{UnknownMro}
use Rattle.pyc_class_ids.specs.Class.{Id, same_class, form_of}
use Rattle.pyc_class_ids.specs.ClassEquality.{same_class_equiv}
use Rattle.pyc_class_ids.specs.Mro.{MroTable, leads}
use Rattle.pyc_mro.specs.declared.table.Base.{Base}
use Rattle.pyc_mro.specs.declared.table.Base.TheVariants as base
use Rattle.pyc_mro.specs.Merge.{contains}
use Rattle.pyc_mro.specs.MroLaws.{classes_of}
use Rattle.pyc_mro.specs.MroLaws as numbered
use Rattle.pyc_mro.specs.Tables.{Table, classes_among, parents, reaches}
use Rattle.pyc_mro.proofs.LawLemmas.{known_are_of_the_table, begins_with_itself, holds_ancestors, holds_each_once, keeps_orders, holds_itself}
use Rattle.pyc_mro.proofs.TableLemmas.{any-found, any-from}
use Rattle.pyc_class_table.specs.declared.class_entry.WrittenBase.{WrittenBase}
use Rattle.pyc_class_table.specs.declared.class_entry.WrittenBase.TheVariants as written
use Rattle.pyc_class_table.specs.ClassMros.{order_at, orders_of}
use Rattle.pyc_class_table.specs.Entries.{Entry, all_entries}
use Rattle.pyc_class_table.specs.Numbers.{number_in, id_at, base_by, numbered_base, table_of}
use Rattle.pyc_class_table.specs.MroLaws.{IsKnown, is_distinct, Sublist, ended, kept, left_out, BeginsWithItself, HoldsEachOnce, KeepsMros, HoldsItself, MrosAreOrderly}
use Rattle.pyc_class_table.proofs.BuiltinLemmas.{same_class-is, builtins_follow_the_rule}
use Rattle.pyc_class_table.proofs.NumberLemmas.{number_from}

-- ---- rows

any-map : {X Y : Type 0} (p : Y → Bool) (f : X → Y) (xs : List X) → list_any p (map f xs) ≡ list_any (λ x. p (f x)) xs
any-map p f [] = refl
any-map p f (x ∷ xs) = ap (λ b. p (f x) || b) (any-map p f xs)

first-map : {X Y : Type 0} (f : X → Y) (xs : List X) (x : X) → slice_get xs 0 ≡ Some x → slice_get (map f xs) 0 ≡ Some (f x)
first-map f [] x found = cc
first-map f (y ∷ xs) x found = ap (option_map f) found

Sublist-map : (f : ℕ → Id) {part whole : List ℕ} → numbered.Sublist part whole → Sublist (map f part) (map f whole)
Sublist-map f numbered.ended = ended
Sublist-map f (numbered.kept s) = kept (Sublist-map f s)
Sublist-map f (numbered.left_out s) = left_out (Sublist-map f s)

Sublist-any : (p : Id → Bool) {part whole : List Id} → Sublist part whole → list_any p part ≡ true → list_any p whole ≡ true
Sublist-any p ended some = some
Sublist-any p (kept {c} {part} {whole} s) some = elim (or_cases (p c) (list_any p part) some) [
  | inl here ↦ or_left (p c) (list_any p whole) here
  | inr later ↦ or_right (p c) (list_any p whole) (Sublist-any p s later)
]
Sublist-any p (left_out {c} {part} {whole} s) some = or_right (p c) (list_any p whole) (Sublist-any p s some)

-- what is reached is a base of some class
reaches-last : (table : Table) (n from to : ℕ) → reaches table n from to ≡ true → (x : ℕ) × (contains (parents table x) to ≡ true)
reaches-last table zero from to there = absurd (false≢true there)
reaches-last table (suc n) from to there =
    let found = any-found (λ parent. parent == to || reaches table n parent to) (parents table from) there in
    elim (or_cases (found.0 == to) (reaches table n found.0 to) found.2) [
      | inl here ↦ (from, subst (λ k. contains (parents table from) k ≡ true) (eqb-true found.0 to here) found.1)
      | inr later ↦ reaches-last table n found.0 to later
    ]

-- ---- numbers

at_here : (e : Entry) (entries : List Entry) (c : Id) (n k : ℕ) (b : Bool) → same_class e.id c ≡ b
    → (number_from (n + 1) entries c ≡ Some k → (i : ℕ) × (k ≡ (n + 1) + i) × (id_at entries i ≡ c))
    → cond b (Some n) (number_from (n + 1) entries c) ≡ Some k → (i : ℕ) × (k ≡ n + i) × (id_at (e ∷ entries) i ≡ c)
at_here e entries c n k true same later found = let is : n ≡ k = cc in (0, omega arith, same_class-is e.id c same)
at_here e entries c n k false same later found =
    let at = later found in
    let is : k ≡ (n + 1) + at.0 = at.1 in
    (suc at.0, omega arith, at.2)

-- a class stands at its number
number_from-at : (n k : ℕ) (entries : List Entry) (c : Id) → number_from n entries c ≡ Some k
    → (i : ℕ) × (k ≡ n + i) × (id_at entries i ≡ c)
number_from-at n k [] c found = absurd (cc)
number_from-at n k (e ∷ entries) c found =
    at_here e entries c n k (same_class e.id c) refl (number_from-at (n + 1) k entries c) found

base_by-is : (f : InstanceForm) (number : Option ℕ) (j : ℕ) → base_by f number ≡ base.Class j → number ≡ Some j
base_by-is form.Plain (Some n) j is = cc
base_by-is form.Plain None j is = cc
base_by-is form.List number j is = cc
base_by-is form.Dict number j is = cc
base_by-is form.Tuple number j is = cc

module _ (all : List Entry) where
  -- the order of each class by one rule
  abbrev order : MroTable
  order c = order_at all (number_in all c)

  abbrev table : Table
  table = table_of all

  number-is : (k : ℕ) (c : Id) → number_in all c ≡ Some k → id_at all k ≡ c
  number-is k c found =
      let at = number_from-at 0 k all c found in
      let is : k ≡ at.0 = omega (arith, at.1) in
      ap (id_at all) is ∙ at.2

  -- a number is that of the class that stands at it
  abbrev IsOwn : ℕ → Type 0
  IsOwn j = number_in all (id_at all j) ≡ Some j

  own-number : (k : ℕ) (c : Id) → number_in all c ≡ Some k → IsOwn k
  own-number k c found = ap (number_in all) (number-is k c found) ∙ found

  -- a class has this number
  abbrev HasClass : ℕ → Type 0
  HasClass j = (c : Id) × (number_in all c ≡ Some j)

  base-number : (b : WrittenBase) (j : ℕ) → numbered_base (number_in all) b ≡ base.Class j → HasClass j
  base-number (written.Class c) j is = (c, base_by-is (form_of c) (number_in all c) j is)
  base-number written.Unknown j is = absurd (cc)

  among_here : (b : WrittenBase) (j : ℕ) (rest : List Base) (found : Base) → numbered_base (number_in all) b ≡ found
      → (contains (classes_among rest) j ≡ true → HasClass j) → contains (classes_among (found ∷ rest)) j ≡ true → HasClass j
  among_here b j rest (base.Class k) is later among = elim (or_cases (k == j) (contains (classes_among rest) j) among) [
    | inl here ↦ base-number b j (is ∙ ap base.Class (eqb-true k j here))
    | inr more ↦ later more
  ]
  among_here b j rest base.Unknown is later among = later among

  among-number : (bases : List WrittenBase) (j : ℕ) → contains (classes_among (map (numbered_base (number_in all)) bases)) j ≡ true → HasClass j
  among-number [] j among = absurd (false≢true among)
  among-number (b ∷ bases) j among =
      among_here b j (map (numbered_base (number_in all)) bases) (numbered_base (number_in all) b) refl (among-number bases j) among

  rows-number : (entries : List Entry) (x j : ℕ)
      → contains (classes_among (unwrap_or (slice_get (map (λ (e : Entry). map (numbered_base (number_in all)) e.bases) entries) x) [])) j ≡ true
      → HasClass j
  rows-number [] x j among = absurd (false≢true among)
  rows-number (e ∷ entries) zero j among = among-number e.bases j among
  rows-number (e ∷ entries) (suc x) j among = rows-number entries x j among

  -- so it is with each class of a known order
  order-own : (k j : ℕ) → IsOwn k → numbered.IsKnown table k → contains (classes_of table k) j ≡ true → IsOwn j
  order-own k j own known among = elim ((holds_ancestors table k j known).0 among) [
    | inl same ↦ subst IsOwn same own
    | inr (n, there) ↦
        let last = reaches-last table n k j there in
        let found = rows-number all last.0 j last.1 in
        own-number j found.0 found.1
  ]

  -- ---- known orders

  -- a class whose order is known has a number
  record Found (c : Id) : Type 0 where
    number : ℕ
    found : number_in all c ≡ Some number
    known : numbered.IsKnown table number

  found_by : (c : Id) (o : Option ℕ) → number_in all c ≡ o → (order_at all o).unknown ≡ None → Found c
  found_by c None is known = absurd (cc)
  found_by c (Some k) is known = record { number = k; found = is; known = known }

  known-found : (c : Id) → IsKnown order c → Found c
  known-found c known = found_by c (number_in all c) refl known

  classes-found : (c : Id) (f : Found c) → (order c).classes ≡ map (id_at all) (classes_of table f.number)
  classes-found c f = ap (λ o. (order_at all o).classes) f.found

  leads-number : (c d : Id) (f : Found c) → leads order c d ≡ true
      → (j : ℕ) × (contains (classes_of table f.number) j ≡ true) × (number_in all d ≡ Some j)
  leads-number c d f led =
      let row = classes_of table f.number in
      let is_d : Id → Bool = λ other. same_class other d in
      let there = sym (any-map is_d (id_at all) row) ∙ sym (ap (list_any is_d) (classes-found c f)) ∙ led in
      let found = any-found (λ j. is_d (id_at all j)) row there in
      let own = order-own f.number found.0 (own-number f.number c f.found) f.known found.1 in
      (found.0, found.1, sym (ap (number_in all) (same_class-is (id_at all found.0) d found.2)) ∙ own)

  keeps : (c d : Id) → IsKnown order c → leads order c d ≡ true → IsKnown order d × Sublist (order d).classes (order c).classes
  keeps c d known led =
      let f = known-found c known in
      let l = leads-number c d f led in
      let keeps_it = keeps_orders table f.number l.0 f.known l.1 in (
        ap (λ o. (order_at all o).unknown) l.2 ∙ keeps_it.0,
        subst₂ Sublist (sym (ap (λ o. (order_at all o).classes) l.2)) (sym (classes-found c f)) (Sublist-map (id_at all) keeps_it.1),
      )

  itself : (c : Id) → IsKnown order c → leads order c c ≡ true
  itself c known =
      let f = known-found c known in
      let row = classes_of table f.number in
      let is_c : Id → Bool = λ other. same_class other c in
      let same = ap is_c (number-is f.number c f.found) ∙ same_class_equiv.refl c in
      ap (list_any is_c) (classes-found c f) ∙ any-map is_c (id_at all) row
      ∙ any-from (λ j. is_c (id_at all j)) row f.number (holds_itself table f.number f.known) same

  first : (c : Id) → IsKnown order c → slice_get (order c).classes 0 ≡ Some c
  first c known =
      let f = known-found c known in
      let row = classes_of table f.number in
      let begins = begins_with_itself table f.number (known_are_of_the_table table f.number f.known) in
      ap (λ l. slice_get l 0) (classes-found c f) ∙ first-map (id_at all) row f.number begins
      ∙ ap Some (number-is f.number c f.found)

  -- where each number is that of its class, classes are as distinct as their numbers
  distinct-ids : (row : List ℕ) → ((j : ℕ) → contains row j ≡ true → IsOwn j) → numbered.is_distinct row ≡ true
      → is_distinct (map (id_at all) row) ≡ true
  distinct-ids [] own distinct = refl
  distinct-ids (j ∷ row) own distinct =
      let parts = and_parts (not (contains row j)) (numbered.is_distinct row) distinct in
      let is_j : Id → Bool = λ other. same_class other (id_at all j) in
      let others = map (id_at all) row in
      let own_others = λ (i : ℕ) (among : contains row i ≡ true). own i (or_right (j == i) (contains row i) among) in
      let again = λ (some : list_any is_j others ≡ true).
      let found = any-found (λ i. is_j (id_at all i)) row (sym (any-map is_j (id_at all) row) ∙ some) in
      let numbers : Some found.0 ≡ Some j =
      sym (own_others found.0 found.1) ∙ ap (number_in all) (same_class-is (id_at all found.0) (id_at all j) found.2)
      ∙ own j (or_left (j == j) (contains row j) (eq-eqb j j refl)) in
      let same : found.0 ≡ j = cc in
      let among = subst (λ k. contains row k ≡ true) same found.1 in
      false≢true (ap not (sym among) ∙ parts.0) in
      and_from (not (list_any is_j others)) (is_distinct others)
      (not_from_false (list_any is_j others) (false_from_ne_true (list_any is_j others) again))
      (distinct-ids row own_others parts.1)

  once : (c : Id) → IsKnown order c → is_distinct (order c).classes ≡ true
  once c known =
      let f = known-found c known in
      let row = classes_of table f.number in
      ap is_distinct (classes-found c f)
      ∙ distinct-ids row (λ j. order-own f.number j (own-number f.number c f.found) f.known) (holds_each_once table f.number f.known)

-- ---- the laws

unless_unknown : (o : Option UnknownMro) (b : Bool) → (o ≡ None → b ≡ true) → (is_some o || b) ≡ true
unless_unknown None b known = known refl
unless_unknown (Some why) b known = refl

known-from : (o : Option UnknownMro) → not (is_some o) ≡ true → o ≡ None
known-from None known = refl
known-from (Some why) known = absurd (false≢true known)

-- the orders of declared classes are those of the one rule
same_orders : (declared : List Entry) → orders_of declared ≡ order (all_entries declared)
same_orders declared i c = builtins_follow_the_rule declared c i

-- what holds of the orders of the one rule holds of those of declared classes
by_rule : (P : MroTable → Type 0) (declared : List Entry) → P (order (all_entries declared)) → P (orders_of declared)
by_rule P declared = subst P (sym (same_orders declared))

pub classes_begin : BeginsWithItself
classes_begin declared =
    by_rule (λ orders. (c : Id) → IsKnown orders c → slice_get (orders c).classes 0 ≡ Some c) declared (first (all_entries declared))

pub classes_once : HoldsEachOnce
classes_once declared =
    by_rule (λ orders. (c : Id) → IsKnown orders c → IsTrue (is_distinct (orders c).classes)) declared (once (all_entries declared))

-- the orders of classes stand in the orders that hold them
abbrev AreKept : MroTable → Type 0
AreKept orders =
    (c d : Id) → IsKnown orders c → IsTrue (leads orders c d) → IsKnown orders d × Sublist (orders d).classes (orders c).classes

pub orders_kept : KeepsMros
orders_kept declared = by_rule AreKept declared (keeps (all_entries declared))

pub orders_orderly : MrosAreOrderly
orders_orderly declared = (
  by_rule HoldsItself declared (λ c. unless_unknown (order all c).unknown (leads (order all) c c) (itself all c)),
  (
    λ c d e known led further.
        Sublist-any (λ other. same_class other e) (orders_kept declared c d (known-from (orders_of declared c).unknown known) led).1 further,
    λ b. refl,
  ),
)
  where
    all : List Entry
    all = all_entries declared
