-- Values of the items of types, and of unions.
use Rattle.std.proofs.Common.{◌≡◌, Bool, true, false, not, ◌&&◌, ◌||◌, if◌then◌else◌, List, [], ◌∷◌, ◌++◌, Option, None, Some, inl, inr, nat_lt, refl, sym, ap, ◌∙◌}
use Rattle.std.specs.List.{list_any, list_all, flat_map}
use Rattle.std.proofs.lemmas.Bool.{and_from, false≢true, not-true, or_cases, or_left, or_right, true≢false}
use Rattle.std.proofs.lemmas.List.Folds.{list_any-append, list_all-append}
use Rattle.pyc_class_ids.specs.declared.builtin_class.BuiltinClass.TheVariants as class
use Rattle.pyc_class_ids.specs.Class.{builtin, same_class, object_id}
use Rattle.pyc_class_ids.specs.Mro.{MroTable}
use Rattle.pyc_narrowing.specs.SplitStates.{may_be_none, none_of}
use Rattle.pyc_narrowing_laws.specs.TypeLaws.{is_of_left, UnionKeeps, UnionIsItsItems, WithoutNoneKeeps, NoneKeeps}
use Rattle.pyc_narrowing_laws.specs.Values.{Value, none_value, instance_value, other_value, is_none_value, is_instance, is_of, is_of_some}
use Rattle.pyc_narrowing_laws.proofs.Rows.{or_false, or_assoc, absorbed, any-more, any-alike, any-all, any-flat, any-flat_from}
use Rattle.pyc_narrowing_laws.proofs.SameTypes.{types-are, rows-are}
use Rattle.pyc_type_forms.specs.Equality.{same_type, same_types}
use Rattle.pyc_type_forms.specs.Narrowing.{remaining_type, unless, is_none, without_none}
use Rattle.pyc_type_forms.specs.Size.{size}
use Rattle.pyc_type_forms.specs.Types.{Ty, Tys, any, none, module_type, instance, class_object, list, dict, tuple, tuple_of, union, callable, nil, cons}
use Rattle.pyc_type_forms.specs.TypeView.{tys_of}
use Rattle.pyc_type_forms.specs.Unions.{items_of, row_items, is_among, with_item, with_items, joined, any_if_too_large, most_types, union_of}
use Rattle.pyc_types.specs.Assignable.{is_union}

-- ---- items

-- whether a type is no union
abbrev pub is_single : Ty → Bool
is_single ty = not (is_union ty)

mutual
  -- no item of a type is a union
  pub items_are_single : (ty : Ty) → list_all is_single (items_of ty) ≡ true
  items_are_single (union xs) = row_items_are_single xs
  items_are_single any = refl
  items_are_single none = refl
  items_are_single (module_type m) = refl
  items_are_single (instance c) = refl
  items_are_single (class_object c) = refl
  items_are_single (list x) = refl
  items_are_single (dict k w) = refl
  items_are_single (tuple xs) = refl
  items_are_single (tuple_of x) = refl
  items_are_single (callable ps r) = refl

  row_items_are_single : (xs : Tys) → list_all is_single (row_items xs) ≡ true
  row_items_are_single nil = refl
  row_items_are_single (cons x xs) =
      list_all-append is_single (items_of x) (row_items xs)
      ∙ and_from (list_all is_single (items_of x)) (list_all is_single (row_items xs)) (items_are_single x) (row_items_are_single xs)

module _ (orders : MroTable) (v : Value) where
  abbrev has : Ty → Bool
  has = is_of orders v

  one_item : (ty : Ty) → has ty ≡ list_any has (ty ∷ [])
  one_item ty = sym (or_false (has ty))

  mutual
    pub has-items : (ty : Ty) → has ty ≡ list_any has (items_of ty)
    has-items (union xs) = has-row_items xs
    has-items any = one_item any
    has-items none = one_item none
    has-items (module_type m) = one_item (module_type m)
    has-items (instance c) = one_item (instance c)
    has-items (class_object c) = one_item (class_object c)
    has-items (list x) = one_item (list x)
    has-items (dict k w) = one_item (dict k w)
    has-items (tuple xs) = one_item (tuple xs)
    has-items (tuple_of x) = one_item (tuple_of x)
    has-items (callable ps r) = one_item (callable ps r)

    has-row_items : (xs : Tys) → is_of_some orders v xs ≡ list_any has (row_items xs)
    has-row_items nil = refl
    has-row_items (cons x xs) =
        ap (λ b. b || is_of_some orders v xs) (has-items x)
        ∙ ap (λ b. list_any has (items_of x) || b) (has-row_items xs)
        ∙ sym (list_any-append has (items_of x) (row_items xs))

  -- a value of some item of a type is of an item that is no union
  pub single_items : (p : Ty → Bool) (ty : Ty) → list_any p (items_of ty) ≡ true → list_any (λ item. is_single item && p item) (items_of ty) ≡ true
  single_items p ty some = any-all p is_single (items_of ty) some (items_are_single ty)

  -- ---- unions

  row-any : (tys : List Ty) → is_of_some orders v (tys_of tys) ≡ list_any has tys
  row-any [] = refl
  row-any (ty ∷ tys) = ap (λ b. has ty || b) (row-any tys)

  among-has : (kept : List Ty) (ty : Ty) → is_among kept ty ≡ true → has ty ≡ true → list_any has kept ≡ true
  among-has [] ty among here = among
  among-has (other ∷ kept) ty among here = elim (or_cases (same_type other ty) (is_among kept ty) among) [
    | inl same ↦ or_left (has other) (list_any has kept) (ap has (types-are other ty same) ∙ here)
    | inr later ↦ or_right (has other) (list_any has kept) (among-has kept ty later here)
  ]

  with_item-has : (kept : List Ty) (ty : Ty) → list_any has (with_item kept ty) ≡ list_any has kept || has ty
  with_item-has kept ty = by_among (is_among kept ty) refl
    where
      by_among : (b : Bool) → is_among kept ty ≡ b → list_any has (if b then kept else kept ++ ty ∷ []) ≡ list_any has kept || has ty
      by_among true among = absorbed (list_any has kept) (has ty) (among-has kept ty among)
      by_among false among = list_any-append has kept (ty ∷ []) ∙ ap (λ b. list_any has kept || b) (or_false (has ty))

  with_items-has : (kept tys : List Ty) → list_any has (with_items kept tys) ≡ list_any has kept || list_any has tys
  with_items-has kept [] = sym (or_false (list_any has kept))
  with_items-has kept (ty ∷ tys) =
      with_items-has (with_item kept ty) tys
      ∙ ap (λ b. b || list_any has tys) (with_item-has kept ty)
      ∙ or_assoc (list_any has kept) (has ty) (list_any has tys)

  joined-has : (tys : List Ty) → has (joined tys) ≡ list_any has tys
  joined-has [] = refl
  joined-has (ty ∷ []) = one_item ty
  joined-has (ty ∷ other ∷ tys) = row-any (ty ∷ other ∷ tys)

  any_if_too_large-has : (ty : Ty) → has ty ≡ true → has (any_if_too_large ty) ≡ true
  any_if_too_large-has ty here = by_size (nat_lt most_types (size ty))
    where
      by_size : (b : Bool) → has (if b then any else ty) ≡ true
      by_size true = refl
      by_size false = here

  pub union-has : (tys : List Ty) → list_any has tys ≡ true → has (union_of tys) ≡ true
  union-has tys some =
      any_if_too_large-has (joined (with_items [] (flat_map items_of tys)))
      (joined-has (with_items [] (flat_map items_of tys))
      ∙ with_items-has [] (flat_map items_of tys)
      ∙ any-flat has items_of tys
      ∙ any-alike (λ ty. list_any has (items_of ty)) has (λ ty. sym (has-items ty)) tys
      ∙ some)

  -- ---- what is left

  pub left-has : (ty : Ty) (items : List Ty) → list_any has items ≡ true → is_of_left orders v (remaining_type ty items) ≡ true
  left-has ty [] some = some
  left-has ty (x ∷ xs) some = by_same (same_types (tys_of (x ∷ xs)) (tys_of (items_of ty))) refl
    where
      by_same : (b : Bool) → same_types (tys_of (x ∷ xs)) (tys_of (items_of ty)) ≡ b → has (if b then ty else union_of (x ∷ xs)) ≡ true
      by_same true same =
          has-items ty
          ∙ sym (row-any (items_of ty))
          ∙ sym (ap (is_of_some orders v) (rows-are (tys_of (x ∷ xs)) (tys_of (items_of ty)) same))
          ∙ row-any (x ∷ xs)
          ∙ some
      by_same false same = union-has (x ∷ xs) some

  -- an item that is not dropped is left
  pub kept-has : (item : Ty) (dropped : Bool) → dropped ≡ false → has item ≡ true → list_any has (unless dropped item) ≡ true
  kept-has item true is here = absurd (true≢false is)
  kept-has item false is here = or_left (has item) false here

  -- ---- None

  no_none : (item : Ty) → has item ≡ true → is_none_value v ≡ false → is_none item ≡ false
  no_none none here other = absurd (true≢false (sym here ∙ other))
  no_none any here other = refl
  no_none (module_type m) here other = refl
  no_none (instance c) here other = refl
  no_none (class_object c) here other = refl
  no_none (list x) here other = refl
  no_none (dict k w) here other = refl
  no_none (tuple xs) here other = refl
  no_none (tuple_of x) here other = refl
  no_none (union xs) here other = refl
  no_none (callable ps r) here other = refl

pub union_keeps : UnionKeeps
union_keeps = union-has

pub union_is_its_items : UnionIsItsItems
union_is_its_items = has-items

pub without_none_keeps : WithoutNoneKeeps
without_none_keeps orders v ty here other =
    left-has orders v ty (flat_map (λ item. unless (is_none item) item) (items_of ty))
    (any-flat_from (is_of orders v) (is_of orders v) (λ item. unless (is_none item) item)
    (λ item found. kept-has orders v item (is_none item) (no_none orders v item found (not-true (is_none_value v) other)) found)
    (items_of ty) (sym (has-items orders v ty) ∙ here))

none_may : (orders : MroTable) (item : Ty) → is_single item && is_of orders none_value item ≡ true → may_be_none item ≡ true
none_may orders any here = refl
none_may orders none here = refl
none_may orders (module_type m) here = absurd (false≢true here)
none_may orders (instance c) here = sym (or_false (same_class c object_id)) ∙ here
none_may orders (class_object c) here = absurd (false≢true here)
none_may orders (list x) here = absurd (false≢true here)
none_may orders (dict k w) here = absurd (false≢true here)
none_may orders (tuple xs) here = absurd (false≢true here)
none_may orders (tuple_of x) here = absurd (false≢true here)
none_may orders (union xs) here = absurd (false≢true here)
none_may orders (callable ps r) here = absurd (false≢true here)

some_none : (orders : MroTable) (b : Bool) → b ≡ true → is_of_left orders none_value (if b then Some none else None) ≡ true
some_none orders true is = refl
some_none orders false is = is

pub none_keeps : NoneKeeps
none_keeps orders none_value ty here is =
    some_none orders (list_any may_be_none (items_of ty))
    (any-more (λ item. is_single item && is_of orders none_value item) may_be_none (none_may orders) (items_of ty)
    (single_items orders none_value (is_of orders none_value) ty (sym (has-items orders none_value ty) ∙ here)))
none_keeps orders (instance_value c fits) ty here is = absurd (false≢true is)
none_keeps orders (other_value fits) ty here is = absurd (false≢true is)
