-- Classes that are written with at most one base.
use Rattle.std.proofs.Common.{◌≡◌, ◌≤◌, ◌⊎◌, ◌||◌, Bool, true, false, is_some, not, List, [], ◌∷◌, length, inl, inr, refl, sym, ap, ◌∙◌, subst, arith}
use Rattle.std.specs.List.{list_any}
use Rattle.std.proofs.lemmas.Bool.{false≢true, or_cases, or_left, or_right}
use Rattle.pyc_class_ids.specs.Class.{Id, same_class}
use Rattle.pyc_class_ids.specs.ClassEquality.{same_class_equiv}
use Rattle.pyc_class_ids.specs.Mro.{MroTable, is_unknown, leads}
use Rattle.pyc_class_laws.specs.ClassLaws.{bases_of, has_base, IsAncestor, at_once, by_base, HasSingleBases, SingleBasesMakeALine}
use Rattle.pyc_class_laws.proofs.LawLemmas.{ancestors_held}
use Rattle.pyc_class_table.specs.ClassMros.{orders_of}
use Rattle.pyc_class_table.specs.Entries.{Entry}
use Rattle.pyc_class_table.specs.MroLaws.{IsKnown}
use Rattle.pyc_class_table.proofs.BuiltinLemmas.{same_class-is}
use Rattle.pyc_class_table.proofs.LawLemmas.{orders_kept, orders_orderly}

-- two classes of a row of at most one are one
one_of : (row : List Id) (d e : Id) → length row ≤ 1 → list_any (λ base. same_class base d) row ≡ true → list_any (λ base. same_class base e) row ≡ true
    → d ≡ e
one_of [] d e few one other = absurd (false≢true one)
one_of (c ∷ []) d e few one other = elim (or_cases (same_class c d) false one) [
  | inl first ↦ elim (or_cases (same_class c e) false other) [
    | inl second ↦ sym (same_class-is c d first) ∙ same_class-is c e second
    | inr nothing ↦ absurd (false≢true nothing)
  ]
  | inr nothing ↦ absurd (false≢true nothing)
]
one_of (b ∷ c ∷ row) d e few one other = absurd (omega (arith, few))

module _ (declared : List Entry) where
  abbrev orders : MroTable
  orders = orders_of declared

  abbrev in_order : Id → Id → Bool
  in_order = leads orders

  itself : (c : Id) → IsKnown orders c → in_order c c ≡ true
  itself c known = (ancestors_held declared c c known).1 (inl (same_class_equiv.refl c))

  ancestor : (c d : Id) → IsKnown orders c → IsAncestor declared c d → in_order c d ≡ true
  ancestor c d known above = (ancestors_held declared c d known).1 (inr above)

  -- a base of a class, with what its order is known by
  base-known : (c b : Id) → IsKnown orders c → has_base declared c b ≡ true → IsKnown orders b
  base-known c b known based = (orders_kept declared c b known (ancestor c b known (at_once based))).0

  base-single : (c b : Id) → IsKnown orders c → HasSingleBases declared c → has_base declared c b ≡ true → HasSingleBases declared b
  base-single c b known single based d led =
      single d ((orders_orderly declared).1.0 c b d (ap (λ o. not (is_some o)) known) (ancestor c b known (at_once based)) led)

  same_base : (c d e : Id) → IsKnown orders c → HasSingleBases declared c → has_base declared c d ≡ true → has_base declared c e ≡ true → d ≡ e
  same_base c d e known single one other = one_of (bases_of declared c) d e (single c (itself c known)) one other

  -- of two ancestors of a class one is an ancestor of the other, or they are one
  two_above : (c d e : Id) → IsKnown orders c → HasSingleBases declared c → IsAncestor declared c d → IsAncestor declared c e
      → in_order d e || in_order e d ≡ true
  two_above c d e known single (at_once one) (at_once other) =
      or_left (in_order d e) (in_order e d)
      (subst (λ x. in_order d x ≡ true) (same_base c d e known single one other) (itself d (base-known c d known one)))
  two_above c d e known single (at_once one) (by_base {base = b} other above) =
      or_left (in_order d e) (in_order e d)
      (subst (λ x. in_order x e ≡ true) (sym (same_base c d b known single one other)) (ancestor b e (base-known c b known other) above))
  two_above c d e known single (by_base {base = b} one above) (at_once other) =
      or_right (in_order d e) (in_order e d)
      (subst (λ x. in_order x d ≡ true) (same_base c b e known single one other) (ancestor b d (base-known c b known one) above))
  two_above c d e known single (by_base {base = b} one above) (by_base {base = a} other beyond) =
      two_above b d e (base-known c b known one) (base-single c b known single one) above
      (subst (λ x. IsAncestor declared x e) (sym (same_base c b a known single one other)) beyond)

pub single_bases_make_a_line : SingleBasesMakeALine
single_bases_make_a_line declared c d e known single one other =
    elim ((ancestors_held declared c d known).0 one) [
      | inl same ↦ or_left (leads (orders_of declared) d e) (leads (orders_of declared) e d)
          (subst (λ x. leads (orders_of declared) x e ≡ true) (same_class-is c d same) other)
      | inr above ↦ elim ((ancestors_held declared c e known).0 other) [
        | inl same ↦ or_right (leads (orders_of declared) d e) (leads (orders_of declared) e d)
            (subst (λ x. leads (orders_of declared) x d ≡ true) (same_class-is c e same) one)
        | inr beyond ↦ two_above declared c d e known single above beyond
      ]
    ]
