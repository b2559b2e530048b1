-- The bases of a class whose order is known: each is a class that has a number and whose instances have the plain form.
use Rattle.std.proofs.Common.{◌≡◌, ℕ, suc, Bool, true, false, cond, List, [], ◌∷◌, length, map, Option, None, Some, refl, sym, ap, ap₂, ◌∙◌}
use Rattle.std.specs.List.{list_any}
use Rattle.std.proofs.lemmas.Bool.{or_parts, true≢false}
use Rattle.std.proofs.lemmas.Option.{none-some, same_Some}
use Rattle.pyc_class_ids.specs.declared.class_id.InstanceForm.{InstanceForm}
use Rattle.pyc_class_ids.specs.declared.class_id.InstanceForm.TheVariants as form
use Rattle.pyc_class_ids.specs.declared.order.UnknownMro.TheVariants as unknown
use Rattle.pyc_class_ids.specs.Class.{Id, form_of}
use Rattle.pyc_mro.specs.declared.table.Base.{Base}
use Rattle.pyc_mro.specs.declared.table.Base.TheVariants as base
use Rattle.pyc_mro.specs.Merge.{merge}
use Rattle.pyc_mro.specs.MroTable.{Mro, is_unknown, unknown_of, no_order, base_order, base_orders, merged_rows, merged_order, order_within, order_below}
use Rattle.pyc_mro.specs.MroLaws.{IsKnown}
use Rattle.pyc_mro.specs.Tables.{Table, classes_among as numbers_among, bases_of as numbered_bases, is_own_ancestor}
use Rattle.pyc_mro.proofs.LawLemmas.{known_are_of_the_table}
use Rattle.pyc_mro.proofs.MroLemmas.{with_order-parts, bases-made, order_of-within}
use Rattle.pyc_class_table.specs.declared.class_entry.WrittenBase.{WrittenBase}
use Rattle.pyc_class_table.specs.declared.class_entry.WrittenBase.TheVariants as written
use Rattle.pyc_class_table.specs.Numbers.{base_by, numbered_base}
use Rattle.pyc_class_laws.specs.ClassLaws.{classes_among}

-- ---- bases by number

-- bases that are all classes, these
abbrev pub AreClasses : List Base → List ℕ → Type 0
AreClasses bases row = bases ≡ map base.Class row

-- the classes among them are these
pub numbers_among-classes : (row : List ℕ) → numbers_among (map base.Class row) ≡ row
numbers_among-classes [] = refl
numbers_among-classes (n ∷ row) = ap (λ l. n ∷ l) (numbers_among-classes row)

-- bases whose orders are all known are classes
are_classes : (count : ℕ) (f : ℕ → Option Mro) (bases : List Base) (orders : List Mro) → base_orders count f bases ≡ Some orders
    → list_any is_unknown orders ≡ false → (row : List ℕ) × AreClasses bases row
are_classes count f [] orders is all = ([], refl)
are_classes count f (base.Unknown ∷ bases) orders is all =
    let parts = with_order-parts (Some no_order) (base_orders count f bases) orders is in
    let whole : parts.0 ∷ parts.1 ≡ orders = same_Some (parts.0 ∷ parts.1) orders parts.4 in
    let first : no_order ≡ parts.0 = same_Some no_order parts.0 parts.2 in
    let tests = or_parts (is_unknown parts.0) (list_any is_unknown parts.1) (ap (list_any is_unknown) whole ∙ all) in
    absurd (true≢false (ap is_unknown first ∙ tests.0))
are_classes count f (base.Class n ∷ bases) orders is all =
    let parts = with_order-parts (base_order count f (base.Class n)) (base_orders count f bases) orders is in
    let whole : parts.0 ∷ parts.1 ≡ orders = same_Some (parts.0 ∷ parts.1) orders parts.4 in
    let tests = or_parts (is_unknown parts.0) (list_any is_unknown parts.1) (ap (list_any is_unknown) whole ∙ all) in
    let rest = are_classes count f bases parts.1 parts.3 tests.1 in
    (n ∷ rest.0, ap (λ l. base.Class n ∷ l) rest.1)

-- the bases of a class whose order is known are classes
pub known_bases : (table : Table) (c : ℕ) → IsKnown table c → (row : List ℕ) × AreClasses (numbered_bases table c) row
known_bases table c known =
    let below = known_are_of_the_table table c known in
    by_order (is_own_ancestor table c) (order_within table (suc (length table)) c) refl
    (sym (ap (λ o. o.unknown) (order_of-within table c below)) ∙ known)
  where
    bases : List Base
    bases = numbered_bases table c

    by_bases : (orders : List Mro) → base_orders (length table) (order_within table (length table)) bases ≡ Some orders
        → (b : Bool) → list_any is_unknown orders ≡ b
        → (cond b (unknown_of c unknown.Base) (merged_order c (merge (merged_rows bases orders)))).unknown ≡ None
        → (row : List ℕ) × AreClasses bases row
    by_bases orders made true some is = absurd (none-some unknown.Base (sym is))
    by_bases orders made false all is = are_classes (length table) (order_within table (length table)) bases orders made all

    by_order : (b : Bool) (o : Option Mro) → order_within table (suc (length table)) c ≡ o
        → (cond b (unknown_of c unknown.Cycle) (order_below c o)).unknown ≡ None → (row : List ℕ) × AreClasses bases row
    by_order true o e is = absurd (none-some unknown.Cycle (sym is))
    by_order false None e is = absurd (none-some unknown.Base (sym is))
    by_order false (Some order) e is =
        let made = bases-made table (length table) c order e in
        by_bases made.0 made.1 (list_any is_unknown made.0) refl (ap (λ o. o.unknown) made.2 ∙ is)

-- ---- written bases

base_by-is : (f : InstanceForm) (number : Option ℕ) (j : ℕ) → base_by f number ≡ base.Class j → (f ≡ form.Plain) × (number ≡ Some j)
base_by-is form.Plain (Some n) j is = (refl, cc)
base_by-is form.Plain None j is = absurd (cc)
base_by-is form.List number j is = absurd (cc)
base_by-is form.Dict number j is = absurd (cc)
base_by-is form.Tuple number j is = absurd (cc)

module _ (number_of : Id → Option ℕ) where
  -- these classes, whose instances have the plain form, have these numbers
  pub data HaveNumbers : List Id → List ℕ → Type 0 where
    none : HaveNumbers [] []
    one_more : {class : Id} {n : ℕ} {classes : List Id} {row : List ℕ} → form_of class ≡ form.Plain → number_of class ≡ Some n → HaveNumbers classes row
        → HaveNumbers (class ∷ classes) (n ∷ row)

  base-number : (b : WrittenBase) (n : ℕ) → numbered_base number_of b ≡ base.Class n
      → (class : Id) × (b ≡ written.Class class) × (form_of class ≡ form.Plain) × (number_of class ≡ Some n)
  base-number (written.Class class) n is =
      let found = base_by-is (form_of class) (number_of class) n is in
      (class, refl, found.0, found.1)
  base-number written.Unknown n is = absurd (cc)

  -- written bases that by number are classes are these classes
  pub written-numbers : (bases : List WrittenBase) (row : List ℕ) → AreClasses (map (numbered_base number_of) bases) row
      → (classes : List Id) × (bases ≡ map written.Class classes) × HaveNumbers classes row
  written-numbers [] [] are = ([], refl, none)
  written-numbers [] (n ∷ row) are = absurd (cc)
  written-numbers (b ∷ bases) [] are = absurd (cc)
  written-numbers (b ∷ bases) (n ∷ row) are =
      let first : numbered_base number_of b ≡ base.Class n = cc in
      let others : AreClasses (map (numbered_base number_of) bases) row = cc in
      let here = base-number b n first in
      let rest = written-numbers bases row others in
      (here.0 ∷ rest.0, ap₂ (λ x l. x ∷ l) here.1 rest.1, one_more here.2 here.3 rest.2)

-- the classes among bases that are all classes
pub among-classes : (classes : List Id) → classes_among (map written.Class classes) ≡ classes
among-classes [] = refl
among-classes (c ∷ classes) = ap (λ l. c ∷ l) (among-classes classes)
