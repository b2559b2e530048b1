-- One way between two types is that of both.
use Rattle.std.proofs.Common.{◌≡◌, ℕ, zero, suc, ◌<◌, Bool, true, false, ◌&&◌, ◌||◌, List, [], ◌∷◌, length, get_or, inl, inr, refl, sym, ◌∙◌, ap, subst, arith}
use Rattle.std.proofs.Math.Bool.{or-false}
use Rattle.std.proofs.lemmas.Bool.{false≢true, or_cases, or_left, or_right}
use Rattle.pyc_class_ids.specs.Class.{Id, same_class, object_id}
use Rattle.pyc_class_ids.specs.Mro.{MroTable, is_unknown}
use Rattle.pyc_type_forms.specs.declared.types.Ty.{Ty as TyOf}
use Rattle.pyc_type_forms.specs.TypeView.{ty_of, row}
use Rattle.pyc_type_forms.specs.Types.{Ty, Tys, any, none, module_type, instance, class_object, list, dict, tuple, tuple_of, union, callable, nil, cons}
use Rattle.pyc_types.specs.declared.ways.Ways.{Ways}
use Rattle.pyc_types.specs.Cross.{goes_to_some}
use Rattle.pyc_types.specs.Going.{goes_by, goes_by_some}
use Rattle.pyc_types.specs.Ways.{is_any, is_object, is_unknown_instance, instance_goes, instance_rule, into_items, instance_ways, gathered, union_rule, ways, ways_of}
use Rattle.pyc_types.proofs.WayLemmas.{simple_there, union_there}

-- ---- unions

-- each of a row goes to Any and to object
each_simple : (o : MroTable) (xs : Tys) (b : Ty) → (is_any b || is_object b) ≡ true → (gathered (ways_of o xs) b).there ≡ true
each_simple o nil b h = refl
each_simple o (cons x xs) b h =
    let simple : (ways o x b).there ≡ true = simple_there o x b (elim (or_cases (is_any b) (is_object b) h) [
      | inl a ↦ or_left _ _ (or_right (is_any x) (is_any b) a)
      | inr d ↦ or_right (is_any x || is_any b) _ (or_right (is_unknown_instance o x) (is_object b) d)
    ]) in
    ap (λ first. first && (gathered (ways_of o xs) b).there) simple ∙ each_simple o xs b h

-- what adds nothing behind
added : (a b : Bool) → (b ≡ true → a ≡ true) → (a || b) ≡ a
added true b more = refl
added false true more = sym (more refl)
added false false more = refl

-- a union goes where each of its items does
pub union_goes : (o : MroTable) (xs : Tys) (b : Ty) → (union_rule o (ways_of o xs) b).there ≡ (gathered (ways_of o xs) b).there
union_goes o xs b = added _ (is_any b || is_object b) (each_simple o xs b)

-- a type that goes to one of a row goes to some of it
some_of : (f : Ty → Ways) (ys : List TyOf) (k : ℕ) (y : TyOf) → k < length ys → y ≡ get_or ys k y → (f (ty_of y)).there ≡ true → goes_to_some f (row ys) ≡ true
some_of f [] k y within is h = absurd (omega arith)
some_of f (z ∷ ys) zero y within is h = or_left _ _ (subst (λ v. (f (ty_of v)).there ≡ true) is h)
some_of f (z ∷ ys) (suc k) y within is h = or_right _ _ (some_of f ys k y (omega arith) is h)

-- what is so where something else is adds nothing to it
added_first : (a b : Bool) → (a ≡ true → b ≡ true) → (a || b) ≡ b
added_first true b more = sym (more refl)
added_first false b more = refl

-- an instance that goes to one item of a union goes to the union
pub found_goes : (o : MroTable) (c : Id) (ys : List TyOf) (k : ℕ) (y : TyOf) (found : Bool) → k < length ys → y ≡ get_or ys k y
    → found ≡ (instance_ways o c (ty_of y)).there
    → (found || (instance_ways o c (union (row ys))).there) ≡ (instance_ways o c (union (row ys))).there
found_goes o c ys k y found within is told =
    added_first found (instance_ways o c (union (row ys))).there
    (λ h. union_there o (instance c) (row ys) refl (some_of (ways o (instance c)) ys k y within is (sym told ∙ h)))

-- what is found is so
pub found_is : (found goes : Bool) → (found || goes) ≡ goes → found ≡ true → true ≡ goes
found_is true goes is h = is
found_is false goes is h = absurd (false≢true h)

-- ---- by a known order

module _ (o : MroTable) (c : Id) (known : is_unknown (o c) ≡ false) where
  -- the simple rules lead nowhere else
  not_simple : (is_unknown (o c) || false) ≡ false
  not_simple = or-false _ ∙ known

  mutual
    -- it goes by the order
    pub by_known : (b : Ty) → (instance_ways o c b).there ≡ goes_by (o c) b
    by_known any = refl
    by_known none = not_simple
    by_known (module_type m) = not_simple
    by_known (instance d) = ap (λ u. instance_goes o c d || (u || same_class d object_id)) known
    by_known (class_object d) = not_simple
    by_known (list b) = not_simple
    by_known (dict k v) = not_simple
    by_known (tuple bs) = not_simple
    by_known (tuple_of b) = not_simple
    by_known (union bs) =
        ap (λ u. (into_items o (instance c) (instance_rule o c) bs).there || u) not_simple ∙ or-false _ ∙ by_items bs
    by_known (callable ps r) = ap (λ u. (o c).has_call || u) not_simple ∙ or-false _

    -- to some item too
    by_items : (bs : Tys) → (into_items o (instance c) (instance_rule o c) bs).there ≡ goes_by_some (o c) bs
    by_items nil = refl
    by_items (cons b bs) =
        ap (λ first. first || (into_items o (instance c) (instance_rule o c) bs).there) (by_known b)
        ∙ ap (λ rest. goes_by (o c) b || rest) (by_items bs)

-- an instance of a class of unknown order goes everywhere
pub by_unknown : (o : MroTable) (c : Id) (b : Ty) → is_unknown (o c) ≡ true → true ≡ (instance_ways o c b).there
by_unknown o c b is = sym (simple_there o (instance c) b (or_right (is_any b) _ (or_left (is_unknown (o c)) (is_object b) is)))
