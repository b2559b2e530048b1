-- What the known orders hold of the written bases.
use Rattle.std.proofs.Common.{◌≡◌, ℕ, zero, suc, ◌+◌, ◌<◌, ◌==◌, ◌⊎◌, Bool, true, false, ◌||◌, cond, is_some, List, [], ◌∷◌, length, map, unwrap_or, option_map, Option, None, Some, inl, inr, refl, sym, ap, subst, subst₂, ◌∙◌, arith}
use Rattle.std.specs.List.{All, find, list_any, slice_get, slice_index_or}
use Rattle.std.specs.Option.{option_map_or}
use Rattle.std.proofs.lemmas.Bool.{or_cases, or_left, or_right, eqb-true, false≢true}
use Rattle.std.proofs.lemmas.List.Elements.{All-cons, All-map, All-nil}
use Rattle.std.proofs.lemmas.Option.{slice_get-map}
use Rattle.pyc_class_ids.specs.declared.class_id.InstanceForm.TheVariants as form
use Rattle.pyc_class_ids.specs.Class.{Id, same_class, form_of}
use Rattle.pyc_class_ids.specs.ClassEquality.{same_class_equiv}
use Rattle.pyc_class_ids.specs.Mro.{MroTable, is_unknown, leads}
use Rattle.pyc_mro.specs.Merge.{contains}
use Rattle.pyc_mro.specs.MroLaws.{classes_of}
use Rattle.pyc_mro.specs.MroLaws as numbered
use Rattle.pyc_mro.specs.Tables.{Table, classes_among as numbers_among, bases_of as numbered_bases, parents, reaches}
use Rattle.pyc_mro.proofs.LawLemmas.{holds_ancestors, keeps_orders, keeps_written_bases}
use Rattle.pyc_mro.proofs.TableLemmas.{any-found, any-from, reaches-base, reaches-parts}
use Rattle.pyc_class_table.specs.declared.class_entry.WrittenBase.TheVariants as written
use Rattle.pyc_class_table.specs.ClassMros.{order_at, orders_of}
use Rattle.pyc_class_table.specs.Entries.{Entry, all_entries}
use Rattle.pyc_class_table.specs.Numbers.{number_in, id_at, numbered_base, table_of}
use Rattle.pyc_class_table.specs.MroLaws.{IsKnown, Sublist, ended, kept, left_out}
use Rattle.pyc_class_table.proofs.BuiltinLemmas.{same_class-is, builtins_follow_the_rule}
use Rattle.pyc_class_table.proofs.LawLemmas.{orders_kept, orders_orderly}
use Rattle.pyc_class_table.proofs.NumberLemmas.{number_from}
use Rattle.pyc_class_laws.specs.ClassLaws.{written_bases, classes_among, bases_of, has_base, IsAncestor, at_once, by_base, IsKnownBase, KeepsWrittenBases, KnowsWrittenBases, HoldsAncestors}
use Rattle.pyc_class_laws.proofs.BaseLemmas.{numbers_among-classes, known_bases, HaveNumbers, none, one_more, written-numbers, among-classes}

-- the instances of a class have the plain form
abbrev IsPlain : Id → Type 0
IsPlain class = form_of class ≡ form.Plain

-- ---- rows

pub any-map : {X Y : Type 0} (p : Y → Bool) (f : X → Y) (xs : List X) → list_any p (map f xs) ≡ list_any (λ x. p (f x)) xs
any-map p f [] = refl
any-map p f (x ∷ xs) = ap (λ b. p (f x) || b) (any-map p f xs)

Sublist-map : (f : ℕ → Id) {part whole : List ℕ} → numbered.Sublist part whole → Sublist (map f part) (map f whole)
Sublist-map f numbered.ended = ended
Sublist-map f (numbered.kept s) = kept (Sublist-map f s)
Sublist-map f (numbered.left_out s) = left_out (Sublist-map f s)

Sublist-any : (p : Id → Bool) {part whole : List Id} → Sublist part whole → list_any p part ≡ true → list_any p whole ≡ true
Sublist-any p ended some = some
Sublist-any p (kept {c} {part} {whole} s) some = elim (or_cases (p c) (list_any p part) some) [
  | inl here ↦ or_left (p c) (list_any p whole) here
  | inr later ↦ or_right (p c) (list_any p whole) (Sublist-any p s later)
]
Sublist-any p (left_out {c} {part} {whole} s) some = or_right (p c) (list_any p whole) (Sublist-any p s some)

-- each class of a row is among them
pub any-at : (classes : List Id) (k : ℕ) (d : Id) → k < length classes → list_any (λ other. same_class other (slice_index_or classes k d)) classes ≡ true
any-at [] k d below = absurd (omega arith)
any-at (c ∷ classes) zero d below = or_left (same_class c c) (list_any (λ other. same_class other c) classes) (same_class_equiv.refl c)
any-at (c ∷ classes) (suc k) d below =
    let x = slice_index_or classes k d in
    or_right (same_class c x) (list_any (λ other. same_class other x) classes) (any-at classes k d (omega arith))

-- ---- entries

-- at the number of a class stands its entry
abbrev IsAt : List Entry → Id → ℕ → Type 0
IsAt entries c i =
    (find (λ entry. same_class entry.id c) entries ≡ slice_get entries i) × (id_at entries i ≡ c)

at_here : (e : Entry) (entries : List Entry) (c : Id) (n k : ℕ) (b : Bool) → same_class e.id c ≡ b
    → (number_from (n + 1) entries c ≡ Some k → (i : ℕ) × (k ≡ (n + 1) + i) × IsAt entries c i)
    → cond b (Some n) (number_from (n + 1) entries c) ≡ Some k → (i : ℕ) × (k ≡ n + i) × IsAt (e ∷ entries) c i
at_here e entries c n k true same later found =
    let is : n ≡ k = cc in
    (0, omega arith, (ap (λ b. cond b (Some e) (find (λ entry. same_class entry.id c) entries)) same, same_class-is e.id c same))
at_here e entries c n k false same later found =
    let at = later found in
    let is : k ≡ (n + 1) + at.0 = at.1 in (
      suc at.0,
      omega arith,
      (ap (λ b. cond b (Some e) (find (λ entry. same_class entry.id c) entries)) same ∙ at.2.0, at.2.1),
    )

number_from-at : (n k : ℕ) (entries : List Entry) (c : Id) → number_from n entries c ≡ Some k
    → (i : ℕ) × (k ≡ n + i) × IsAt entries c i
number_from-at n k [] c found = absurd (cc)
number_from-at n k (e ∷ entries) c found =
    at_here e entries c n k (same_class e.id c) refl (number_from-at (n + 1) k entries c) found

number_in-at : (k : ℕ) (entries : List Entry) (c : Id) → number_in entries c ≡ Some k → IsAt entries c k
number_in-at k entries c found =
    let at = number_from-at 0 k entries c found in
    let is : at.0 ≡ k = omega (arith, at.1) in
    subst (IsAt entries c) is at.2

-- the bases of an entry by number
bases-found : (number_of : Id → Option ℕ) (e : Option Entry)
    → unwrap_or (option_map (λ (x : Entry). map (numbered_base number_of) x.bases) e) []
    ≡ map (numbered_base number_of) (option_map_or (λ (x : Entry). x.bases) e [])
bases-found number_of None = refl
bases-found number_of (Some e) = refl

module _ (declared : List Entry) where
  abbrev all : List Entry
  all = all_entries declared

  -- the order of each class by one rule
  abbrev order : MroTable
  order c = order_at all (number_in all c)

  abbrev table : Table
  table = table_of all

  pub number-is : (k : ℕ) (c : Id) → number_in all c ≡ Some k → id_at all k ≡ c
  number-is k c found = (number_in-at k all c found).1

  -- a number is that of the class that stands at it
  abbrev IsOwn : ℕ → Type 0
  IsOwn j = number_in all (id_at all j) ≡ Some j

  pub own-number : (k : ℕ) (c : Id) → number_in all c ≡ Some k → IsOwn k
  own-number k c found = ap (number_in all) (number-is k c found) ∙ found

  -- ---- written bases

  -- the bases of a class by number are its written ones
  pub bases-numbered : (k : ℕ) (c : Id) → number_in all c ≡ Some k
      → numbered_bases table k ≡ map (numbered_base (number_in all)) (written_bases declared c)
  bases-numbered k c found =
      ap (λ o. unwrap_or o []) (slice_get-map (λ (e : Entry). map (numbered_base (number_in all)) e.bases) all k)
      ∙ bases-found (number_in all) (slice_get all k)
      ∙ ap (λ e. map (numbered_base (number_in all)) (option_map_or (λ (x : Entry). x.bases) e [])) (sym (number_in-at k all c found).0)

  -- classes stand at their numbers
  numbers-ids : {classes : List Id} {row : List ℕ} → HaveNumbers (number_in all) classes row → map (id_at all) row ≡ classes
  numbers-ids none = refl
  numbers-ids (one_more {class} {n} {classes} {row} plain found rest) =
      ap (λ x. x ∷ map (id_at all) row) (number-is n class found) ∙ ap (λ l. class ∷ l) (numbers-ids rest)

  numbers-own : {classes : List Id} {row : List ℕ} → HaveNumbers (number_in all) classes row → (j : ℕ) → contains row j ≡ true → IsOwn j
  numbers-own none j among = absurd (false≢true among)
  numbers-own (one_more {class} {n} {classes} {row} plain found rest) j among = elim (or_cases (n == j) (contains row j) among) [
    | inl here ↦ subst IsOwn (eqb-true n j here) (own-number n class found)
    | inr later ↦ numbers-own rest j later
  ]

  numbers-plain : {classes : List Id} {row : List ℕ} → HaveNumbers (number_in all) classes row → All IsPlain classes
  numbers-plain none = All-nil IsPlain
  numbers-plain (one_more {class} {n} {classes} {row} plain found rest) =
      All-cons IsPlain class classes plain (numbers-plain rest)

  -- the bases of a class whose order is known, by number and as they are written
  pub record Bases (k : ℕ) (c : Id) : Type 0 where
    pub are_classes : written_bases declared c ≡ map written.Class (bases_of declared c)
    pub plain : All IsPlain (bases_of declared c)
    pub classes : map (id_at all) (parents table k) ≡ bases_of declared c
    pub own : (j : ℕ) → contains (parents table k) j ≡ true → IsOwn j

  pub bases-of-known : (k : ℕ) (c : Id) → number_in all c ≡ Some k → numbered.IsKnown table k → Bases k c
  bases-of-known k c found known =
      let is = known_bases table k known in
      let row : parents table k ≡ is.0 = ap numbers_among is.1 ∙ numbers_among-classes is.0 in
      let bases = written-numbers (number_in all) (written_bases declared c) is.0 (sym (bases-numbered k c found) ∙ is.1) in
      let among : bases.0 ≡ bases_of declared c = sym (ap classes_among bases.1 ∙ among-classes bases.0) in
      record {
        are_classes = bases.1 ∙ ap (map written.Class) among;
        plain = subst (All IsPlain) among (numbers-plain bases.2);
        classes = ap (map (id_at all)) row ∙ numbers-ids bases.2 ∙ among;
        own = λ j among. numbers-own bases.2 j (ap (λ l. contains l j) (sym row) ∙ among);
      }

  -- ---- known orders

  -- a class whose order is known has a number
  pub record Found (c : Id) : Type 0 where
    pub number : ℕ
    pub found : number_in all c ≡ Some number
    pub known : numbered.IsKnown table number

  found_by : (c : Id) (o : Option ℕ) → number_in all c ≡ o → (order_at all o).unknown ≡ None → Found c
  found_by c None is known = absurd (cc)
  found_by c (Some k) is known = record { number = k; found = is; known = known }

  pub known-found : (c : Id) → IsKnown order c → Found c
  known-found c known = found_by c (number_in all c) refl known

  classes-found : (c : Id) (f : Found c) → (order c).classes ≡ map (id_at all) (classes_of table f.number)
  classes-found c f = ap (λ o. (order_at all o).classes) f.found

  keeps-bases : (c : Id) → IsKnown order c → Sublist (bases_of declared c) (order c).classes
  keeps-bases c known =
      let f = known-found c known in
      let bases = bases-of-known f.number c f.found f.known in
      subst₂ Sublist bases.classes (sym (classes-found c f)) (Sublist-map (id_at all) (keeps_written_bases table f.number f.known))

  -- the written bases of a class whose order is known are classes, whose instances have the plain form
  abbrev HasPlainBases : Id → Type 0
  HasPlainBases c = (written_bases declared c ≡ map written.Class (bases_of declared c)) × All IsPlain (bases_of declared c)

  plain-bases : (c : Id) → IsKnown order c → HasPlainBases c
  plain-bases c known =
      let f = known-found c known in
      let bases = bases-of-known f.number c f.found f.known in
      (bases.are_classes, bases.plain)

  -- ---- what is reached by number is an ancestor

  -- a base by number is a written one
  base-written : (x b : ℕ) → IsOwn x → numbered.IsKnown table x → contains (parents table x) b ≡ true
      → has_base declared (id_at all x) (id_at all b) ≡ true
  base-written x b own known among =
      let is_b : Id → Bool = λ other. same_class other (id_at all b) in
      let bases = bases-of-known x (id_at all x) own known in
      ap (list_any is_b) (sym bases.classes) ∙ any-map is_b (id_at all) (parents table x)
      ∙ any-from (λ j. is_b (id_at all j)) (parents table x) b among (same_class_equiv.refl (id_at all b))

  pub base-known : (x b : ℕ) → numbered.IsKnown table x → contains (parents table x) b ≡ true → numbered.IsKnown table b
  base-known x b known among =
      (keeps_orders table x b known ((holds_ancestors table x b known).1 (inr (1, reaches-base table 0 x b among)))).0

  reached : (n x j : ℕ) → IsOwn x → numbered.IsKnown table x → reaches table n x j ≡ true → IsAncestor declared (id_at all x) (id_at all j)
  reached zero x j own known there = absurd (false≢true there)
  reached (suc n) x j own known there =
      let parts = reaches-parts table n x j there in
      let b = parts.0 in
      let first = base-written x b own known parts.1 in
      elim (parts.2) [
        | inl here ↦ at_once (ap (λ y. has_base declared (id_at all x) (id_at all y)) (sym here) ∙ first)
        | inr later ↦
            by_base {base = id_at all b} first
            (reached n b j ((bases-of-known x (id_at all x) own known).own b parts.1) (base-known x b known parts.1) later)
      ]

  -- a class of a known order is its own, or an ancestor
  held : (c d : Id) → IsKnown order c → leads order c d ≡ true → (same_class c d ≡ true) ⊎ IsAncestor declared c d
  held c d known led =
      let f = known-found c known in
      let row = classes_of table f.number in
      let is_d : Id → Bool = λ other. same_class other d in
      let there = sym (any-map is_d (id_at all) row) ∙ sym (ap (list_any is_d) (classes-found c f)) ∙ led in
      let found = any-found (λ j. is_d (id_at all j)) row there in
      let c_is : id_at all f.number ≡ c = number-is f.number c f.found in
      let d_is : id_at all found.0 ≡ d = same_class-is (id_at all found.0) d found.2 in
      elim ((holds_ancestors table f.number found.0 f.known).0 found.1) [
        | inl same ↦ inl (ap is_d (sym c_is ∙ ap (id_at all) same) ∙ found.2)
        | inr (n, there) ↦
            inr (subst₂ (IsAncestor declared) c_is d_is (reached n f.number found.0 (own-number f.number c f.found) f.known there))
      ]

  -- the orders of declared classes are those of the one rule
  pub same_orders : orders_of declared ≡ order
  same_orders i c = builtins_follow_the_rule declared c i

-- ---- the laws

pub written_bases_kept : KeepsWrittenBases
written_bases_kept declared =
    subst (λ orders. (c : Id) → IsKnown orders c → Sublist (bases_of declared c) (orders c).classes) (sym (same_orders declared))
    (keeps-bases declared)

-- where its order is known, a class leads to its bases
pub leads-base : (declared : List Entry) (c d : Id) → IsKnown (orders_of declared) c → has_base declared c d ≡ true
    → leads (orders_of declared) c d ≡ true
leads-base declared c d known base = Sublist-any (λ other. same_class other d) (written_bases_kept declared c known) base

-- classes of the plain form are known bases, where the order of each is known
known-each : (orders : MroTable) (classes : List Id) → All IsPlain classes
    → ((d : Id) → list_any (λ base. same_class base d) classes ≡ true → IsKnown orders d)
    → All (λ class. IsKnownBase orders (written.Class class)) classes
known-each orders classes plain known k d below =
    (plain k d below, known (slice_index_or classes k d) (any-at classes k d below))

pub written_bases_known : KnowsWrittenBases
written_bases_known declared c known =
    let orders = orders_of declared in
    let bases = plain-bases declared c (subst (λ os. IsKnown os c) (same_orders declared) known) in
    subst (All (IsKnownBase orders)) (sym bases.0)
    (All-map (IsKnownBase orders) written.Class (bases_of declared c)
    (known-each orders (bases_of declared c) bases.1
    (λ d base. (orders_kept declared c d known (leads-base declared c d known base)).0)))

-- and to its ancestors
leads-ancestor : (declared : List Entry) (c d : Id) → IsKnown (orders_of declared) c → IsAncestor declared c d
    → leads (orders_of declared) c d ≡ true
leads-ancestor declared c d known (at_once base) = leads-base declared c d known base
leads-ancestor declared c d known (by_base {base = b} base further) =
    let b_kept = orders_kept declared c b known (leads-base declared c b known base) in
    Sublist-any (λ other. same_class other d) b_kept.1 (leads-ancestor declared b d b_kept.0 further)

unless_unknown : (unknown : Bool) (b : Bool) → unknown ≡ false → (unknown || b) ≡ true → b ≡ true
unless_unknown true b known held = absurd (cc)
unless_unknown false b known held = held

-- and to itself
leads-itself : (declared : List Entry) (c : Id) → IsKnown (orders_of declared) c → leads (orders_of declared) c c ≡ true
leads-itself declared c known =
    unless_unknown (is_unknown (orders_of declared c)) (leads (orders_of declared) c c) (ap is_some known)
    ((orders_orderly declared).0 c)

held-in : (declared : List Entry) (c d : Id) → IsKnown (orders_of declared) c → leads (orders_of declared) c d ≡ true
    → (same_class c d ≡ true) ⊎ IsAncestor declared c d
held-in declared =
    subst (λ orders. (c d : Id) → IsKnown orders c → leads orders c d ≡ true → (same_class c d ≡ true) ⊎ IsAncestor declared c d)
    (sym (same_orders declared)) (held declared)

pub ancestors_held : HoldsAncestors
ancestors_held declared c d known = (
  held-in declared c d known,
  λ which. elim which [
    | inl same ↦ subst (λ x. leads (orders_of declared) c x ≡ true) (same_class-is c d same) (leads-itself declared c known)
    | inr ancestor ↦ leads-ancestor declared c d known ancestor
  ],
)
