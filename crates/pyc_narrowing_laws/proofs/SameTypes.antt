-- Types that are reported to be one are one.
use Rattle.std.proofs.Common.{◌≡◌, ℕ, Bool, true, false, ◌&&◌, List, bytes_eq, Option, None, Some, refl, ap, ap₂, ◌∙◌}
use Rattle.std.specs.Bool.{beq}
use Rattle.std.specs.Cmp.Lexicographic.{pointwise}
use Rattle.std.proofs.lemmas.Bool.{and_parts, false≢true}
use Rattle.std.proofs.lemmas.Slice.Eq.{bytes_eq-Decides, slice_eq-Decides}
use Rattle.pyc_class_ids.specs.Class.{Id, same_class}
use Rattle.pyc_class_table.proofs.BuiltinLemmas.{same_class-is}
use Rattle.pyc_type_forms.specs.Equality.{same_name, same_kind, same_slot, same_type, same_types, same_params, same_listed}
use Rattle.pyc_type_forms.specs.Types.{Kind, plain, star, keyword_only, double_star, Slot, Ty, Tys, Params, Listed}
use Rattle.pyc_type_forms.specs.Types.{any, none, module_type, instance, class_object, list, dict, tuple, tuple_of}
use Rattle.pyc_type_forms.specs.Types.{union, callable, nil, cons, dots, listed, no_param, param}

bytes-are : (m n : List ℕ) → bytes_eq m n ≡ true → m ≡ n
bytes-are m n same = (bytes_eq-Decides m n).0 same

-- lists of texts that are reported to be one are one
pub texts-are : (m n : List (List ℕ)) → pointwise bytes_eq m n ≡ true → m ≡ n
texts-are m n same = (slice_eq-Decides bytes_eq-Decides m n (pointwise bytes_eq m n) refl).0 same

bits-are : (a b : Bool) → beq a b ≡ true → a ≡ b
bits-are true true same = refl
bits-are true false same = absurd (false≢true same)
bits-are false true same = absurd (false≢true same)
bits-are false false same = refl

names-are : (m n : Option (List ℕ)) → same_name m n ≡ true → m ≡ n
names-are (Some m) (Some n) same = ap Some (bytes-are m n same)
names-are (Some m) None same = absurd (false≢true same)
names-are None (Some n) same = absurd (false≢true same)
names-are None None same = refl

kinds-are : (k l : Kind) → same_kind k l ≡ true → k ≡ l
kinds-are (plain m) (plain n) same = ap plain (names-are m n same)
kinds-are (plain m) _ same = absurd (false≢true same)
kinds-are star star same = refl
kinds-are star _ same = absurd (false≢true same)
kinds-are (keyword_only m) (keyword_only n) same = ap keyword_only (bytes-are m n same)
kinds-are (keyword_only m) _ same = absurd (false≢true same)
kinds-are double_star double_star same = refl
kinds-are double_star _ same = absurd (false≢true same)

abbrev slot : Kind → Bool → Slot
slot kind is_optional = record { kind = kind; is_optional = is_optional }

slots-are : (s t : Slot) → same_slot s t ≡ true → s ≡ t
slots-are s t same =
    let parts = and_parts (same_kind s.kind t.kind) (beq s.is_optional t.is_optional) same in
    ap₂ slot (kinds-are s.kind t.kind parts.0) (bits-are s.is_optional t.is_optional parts.1)

mutual
  pub types-are : (x y : Ty) → same_type x y ≡ true → x ≡ y
  types-are any any same = refl
  types-are any _ same = absurd (false≢true same)
  types-are none none same = refl
  types-are none _ same = absurd (false≢true same)
  types-are (module_type m) (module_type n) same = ap module_type (texts-are m n same)
  types-are (module_type m) _ same = absurd (false≢true same)
  types-are (instance c) (instance d) same = ap instance (same_class-is c d same)
  types-are (instance c) _ same = absurd (false≢true same)
  types-are (class_object c) (class_object d) same = ap class_object (same_class-is c d same)
  types-are (class_object c) _ same = absurd (false≢true same)
  types-are (list x) (list y) same = ap list (types-are x y same)
  types-are (list x) _ same = absurd (false≢true same)
  types-are (dict k v) (dict l w) same =
      let parts = and_parts (same_type k l) (same_type v w) same in
      ap₂ dict (types-are k l parts.0) (types-are v w parts.1)
  types-are (dict k v) _ same = absurd (false≢true same)
  types-are (tuple xs) (tuple ys) same = ap tuple (rows-are xs ys same)
  types-are (tuple xs) _ same = absurd (false≢true same)
  types-are (tuple_of x) (tuple_of y) same = ap tuple_of (types-are x y same)
  types-are (tuple_of x) _ same = absurd (false≢true same)
  types-are (union xs) (union ys) same = ap union (rows-are xs ys same)
  types-are (union xs) _ same = absurd (false≢true same)
  types-are (callable ps r) (callable qs s) same =
      let parts = and_parts (same_params ps qs) (same_type r s) same in
      ap₂ callable (params-are ps qs parts.0) (types-are r s parts.1)
  types-are (callable ps r) _ same = absurd (false≢true same)

  pub rows-are : (xs ys : Tys) → same_types xs ys ≡ true → xs ≡ ys
  rows-are nil nil same = refl
  rows-are nil (cons y ys) same = absurd (false≢true same)
  rows-are (cons x xs) nil same = absurd (false≢true same)
  rows-are (cons x xs) (cons y ys) same =
      let parts = and_parts (same_type x y) (same_types xs ys) same in
      ap₂ cons (types-are x y parts.0) (rows-are xs ys parts.1)

  params-are : (ps qs : Params) → same_params ps qs ≡ true → ps ≡ qs
  params-are dots dots same = refl
  params-are dots (listed qs) same = absurd (false≢true same)
  params-are (listed ps) dots same = absurd (false≢true same)
  params-are (listed ps) (listed qs) same = ap listed (listed-are ps qs same)

  listed-are : (ps qs : Listed) → same_listed ps qs ≡ true → ps ≡ qs
  listed-are no_param no_param same = refl
  listed-are no_param (param t y qs) same = absurd (false≢true same)
  listed-are (param s x ps) no_param same = absurd (false≢true same)
  listed-are (param s x ps) (param t y qs) same =
      let parts = and_parts (same_slot s t && same_type x y) (same_listed ps qs) same in
      let first = and_parts (same_slot s t) (same_type x y) parts.0 in
      ap₂ (λ u l. param u x l) (slots-are s t first.0) (listed-are ps qs parts.1)
      ∙ ap (λ z. param t z qs) (types-are x y first.1)
