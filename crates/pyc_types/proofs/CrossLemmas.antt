-- Two unions that are crossed: what is done joined with what is left, and that the ways are those of the rule for
-- unions.
use Rattle.std.proofs.Common.{◌≡◌, ℕ, zero, suc, ◌≤◌, Bool, true, false, ◌&&◌, ◌||◌, not, nat_lt, nat_le, List, [], ◌∷◌, length, take, drop, replicate, arith, refl, sym, ◌∙◌, ap, subst}
use Rattle.std.specs.List.{list_all}
use Rattle.std.proofs.Math.Bool.{or-false, or_assoc, and-true, and_assoc}
use Rattle.std.proofs.lemmas.List.{drop_all}
use Rattle.std.proofs.lemmas.Bool.{false≢true, or_left, or_right, and_parts, leb-true}
use Rattle.pyc_class_ids.specs.Mro.{MroTable, is_unknown}
use Rattle.pyc_type_forms.specs.declared.types.Ty.{Ty as TyOf}
use Rattle.pyc_type_forms.specs.Types.{Ty, Tys, any, none, module_type, instance, class_object, list, dict, tuple, tuple_of, union, callable, nil, cons}
use Rattle.pyc_type_forms.specs.TypeView.{ty_of, row}
use Rattle.pyc_types.specs.declared.ways.Ways.{Ways}
use Rattle.pyc_types.specs.Assignable.{is_union}
use Rattle.pyc_types.specs.Cross.{count, is_flat, is_crossable, goes_to_some, each_goes, each_back, reach, reach_all, cross_ways}
use Rattle.pyc_types.specs.Pairs.{both}
use Rattle.pyc_types.specs.Ways.{is_any, is_object, into_items, none_rule, instance_rule, list_rule, dict_rule, gathered, tuple_rule, tuple_of_rule, callable_rule, class_rule, back_to, all_back_to, union_rule, ways, ways_of, params_ways_of}
use Rattle.pyc_types.proofs.WayLemmas.{items_there, simple_there, simple_back}

-- a row has as many types as its list
pub count_row : (xs : List TyOf) → count (row xs) ≡ length xs
count_row [] = refl
count_row (x ∷ xs) = ap suc (count_row xs)

-- a row is flat where its list is
pub flat_row : (xs : List TyOf) → is_flat (row xs) ≡ list_all (λ x. not (is_union (ty_of x))) xs
flat_row [] = refl
flat_row (x ∷ xs) = ap (λ rest. not (is_union (ty_of x)) && rest) (flat_row xs)

-- rows and their lists
pub ruleset rows = (count_row, flat_row)

-- ---- loops

-- as many marks as before
pub reach_length : (f : Ty → Ways) (ys : Tys) (marks : List Bool) → length (reach f ys marks) ≡ length marks
reach_length f nil marks = refl
reach_length f (cons y ys) [] = refl
reach_length f (cons y ys) (mark ∷ marks) = ap suc (reach_length f ys marks)

-- joining what is done with what is left
pub ruleset crosses = (or-false, or_assoc, and-true, and_assoc, reach_length)

-- ---- the rule for unions

-- what adds nothing
absorbed : (a b : Bool) → (b ≡ true → a ≡ true) → (a || b) ≡ a
absorbed true b more = refl
absorbed false true more = sym (more refl)
absorbed false false more = refl

not_so : (b : Bool) → not b ≡ true → b ≡ false
not_so true h = absurd (false≢true h)
not_so false h = refl

-- a type that is no union goes to a union that has an item where it goes to some item
goes_there : (o : MroTable) (a y : Ty) (ys : Tys) → is_union a ≡ false → (ways o a (union (cons y ys))).there ≡ goes_to_some (ways o a) (cons y ys)
goes_there o any y ys plain = refl
goes_there o (union xs) y ys plain = absurd (false≢true (sym plain))
goes_there o none y ys plain = or-false _ ∙ items_there o none none_rule (cons y ys)
goes_there o (module_type m) y ys plain = or-false _ ∙ items_there o (module_type m) (λ b. both false false) (cons y ys)
goes_there o (instance c) y ys plain =
    let items = into_items o (instance c) (instance_rule o c) (cons y ys) in
    let simple : (is_unknown (o c) || false) ≡ true → items.there ≡ true = λ h. or_left _ _ (simple_there o (instance c) y (or_right (is_any y) _ (or_left (is_unknown (o c)) (is_object y) (sym (or-false _) ∙ h)))) in
    absorbed items.there (is_unknown (o c) || false) simple ∙ items_there o (instance c) (instance_rule o c) (cons y ys)
goes_there o (class_object c) y ys plain = or-false _ ∙ items_there o (class_object c) (class_rule o c) (cons y ys)
goes_there o (list x) y ys plain = or-false _ ∙ items_there o (list x) (list_rule (ways o x)) (cons y ys)
goes_there o (dict k v) y ys plain = or-false _ ∙ items_there o (dict k v) (dict_rule (ways o k) (ways o v)) (cons y ys)
goes_there o (tuple xs) y ys plain = or-false _ ∙ items_there o (tuple xs) (tuple_rule (ways_of o xs)) (cons y ys)
goes_there o (tuple_of x) y ys plain = or-false _ ∙ items_there o (tuple_of x) (tuple_of_rule (ways o x)) (cons y ys)
goes_there o (callable ps r) y ys plain = or-false _ ∙ items_there o (callable ps r) (callable_rule o ps (params_ways_of o ps) (ways o r)) (cons y ys)

-- each of a row does so
each_there : (o : MroTable) (xs : Tys) (y : Ty) (ys : Tys) → is_flat xs ≡ true → (gathered (ways_of o xs) (union (cons y ys))).there ≡ each_goes (ways_of o xs) (cons y ys)
each_there o nil y ys flat = refl
each_there o (cons x xs) y ys flat =
    let parts = and_parts (not (is_union x)) (is_flat xs) flat in
    ap (λ b. b && (gathered (ways_of o xs) (union (cons y ys))).there) (goes_there o x y ys (not_so _ parts.0))
    ∙ ap (λ b. goes_to_some (ways o x) (cons y ys) && b) (each_there o xs y ys parts.1)

-- the mark of the first of a row
first_reached : (fs : List (Ty → Ways)) (y : Ty) (ys : Tys) (mark : Bool) (marks : List Bool) → reach_all fs (cons y ys) (mark ∷ marks) ≡ (mark || (gathered fs y).back) ∷ reach_all fs ys marks
first_reached [] y ys mark marks = ap (λ b. b ∷ marks) (sym (or-false mark))
first_reached (f ∷ fs) y ys mark marks =
    first_reached fs y ys (mark || (f y).back) (reach f ys marks)
    ∙ ap (λ b. b ∷ reach_all fs ys (reach f ys marks)) (or_assoc mark (f y).back (gathered fs y).back)

-- all of a row are marked where each goes to some of the types
reached_back : (fs : List (Ty → Ways)) (ys : Tys) (n : ℕ) → count ys ≤ n → list_all (λ mark. mark) (take (count ys) (reach_all fs ys (replicate n false))) ≡ each_back fs ys
reached_back fs nil n within = refl
reached_back fs (cons y ys) zero within = absurd (omega (arith, within))
reached_back fs (cons y ys) (suc n) within =
    ap (λ marks. list_all (λ mark. mark) (take (suc (count ys)) marks)) (first_reached fs y ys false (replicate n false))
    ∙ ap (λ b. (gathered fs y).back && b) (reached_back fs ys n (omega (arith, within)))

-- no item is left
pub rows_done : (o : MroTable) (xs ys : List TyOf) (i n : ℕ) (there back : Bool) (marks : List Bool) → length xs ≤ i → length ys ≤ n
    → (there && each_goes (ways_of o (row (drop i xs))) (row ys)) ≡ each_goes (ways_of o (row xs)) (row ys)
    → reach_all (ways_of o (row (drop i xs))) (row ys) marks ≡ reach_all (ways_of o (row xs)) (row ys) (replicate n false)
    → back ≡ list_all (λ mark. mark) (take (length ys) marks)
    → both there back ≡ cross_ways (ways_of o (row xs)) (row ys)
rows_done o xs ys i n there back marks past within goes reached all =
    let fs = ways_of o (row xs) in
    let left : drop i xs ≡ [] = drop_all i xs past in
    let goes-is : there ≡ each_goes fs (row ys) = sym (and-true there) ∙ subst (λ rest. (there && each_goes (ways_of o (row rest)) (row ys)) ≡ each_goes fs (row ys)) left goes in
    let marks-is : marks ≡ reach_all fs (row ys) (replicate n false) = subst (λ rest. reach_all (ways_of o (row rest)) (row ys) marks ≡ reach_all fs (row ys) (replicate n false)) left reached in
    let enough : count (row ys) ≤ n = omega (arith, count_row ys, within) in
    let back-is : back ≡ each_back fs (row ys) =
    all ∙ ap (λ m. list_all (λ mark. mark) (take (length ys) m)) marks-is
    ∙ ap (λ k. list_all (λ mark. mark) (take k (reach_all fs (row ys) (replicate n false)))) (sym (count_row ys))
    ∙ reached_back fs (row ys) n enough in
    ap (λ b. both b back) goes-is ∙ ap (λ b. both (each_goes fs (row ys)) b) back-is

-- a type that is no union goes to a union that has an item where it goes to some item, asked the other way round
back_of : (o : MroTable) (x : Ty) (xs : Tys) (y : Ty) → is_union y ≡ false → back_to o (ways_of o (cons x xs)) y ≡ (gathered (ways_of o (cons x xs)) y).back
back_of o x xs any plain = sym (or_left _ _ (simple_back o any x refl))
back_of o x xs (union ys) plain = absurd (false≢true (sym plain))
back_of o x xs (instance d) plain =
    absorbed _ (is_unknown (o d)) (λ h. or_left _ _ (simple_back o (instance d) x (or_right (is_any x) _ (or_left (is_unknown (o d)) (is_object x) h))))
back_of o x xs none plain = refl
back_of o x xs (module_type m) plain = refl
back_of o x xs (class_object d) plain = refl
back_of o x xs (list y) plain = refl
back_of o x xs (dict l w) plain = refl
back_of o x xs (tuple ys) plain = refl
back_of o x xs (tuple_of y) plain = refl
back_of o x xs (callable qs s) plain = refl

-- each of a row does so
each_back_of : (o : MroTable) (x : Ty) (xs ys : Tys) → is_flat ys ≡ true → all_back_to o (ways_of o (cons x xs)) ys ≡ each_back (ways_of o (cons x xs)) ys
each_back_of o x xs nil flat = refl
each_back_of o x xs (cons y ys) flat =
    let parts = and_parts (not (is_union y)) (is_flat ys) flat in
    ap (λ b. b && all_back_to o (ways_of o (cons x xs)) ys) (back_of o x xs y (not_so _ parts.0))
    ∙ ap (λ b. (gathered (ways_of o (cons x xs)) y).back && b) (each_back_of o x xs ys parts.1)

-- the parts of a test whether unions can be crossed
crossable_parts : (xs ys : Tys) → is_crossable xs ys ≡ true → (nat_lt 0 (count ys) ≡ true) × (count ys ≤ 1000) × (is_flat xs ≡ true) × (is_flat ys ≡ true)
crossable_parts xs ys h =
    let some = and_parts (nat_lt 0 (count xs)) _ h in
    let others = and_parts (nat_lt 0 (count ys)) _ some.1 in
    let few = and_parts (nat_le (count ys) 1000) _ others.1 in
    let flat = and_parts (is_flat xs) (is_flat ys) few.1 in
    (others.0, leb-true (count ys) 1000 few.0, flat.0, flat.1)

-- there are marks enough
pub enough_marks : (xs ys : List TyOf) → is_crossable (row xs) (row ys) ≡ true → length ys ≤ 1000
enough_marks xs ys h =
    let few : count (row ys) ≤ 1000 = (crossable_parts (row xs) (row ys) h).1 in
    omega (arith, few, count_row ys)

-- crossing is the rule for unions
pub crossed : (o : MroTable) (xs ys : Tys) → is_crossable xs ys ≡ true → cross_ways (ways_of o xs) ys ≡ union_rule o (ways_of o xs) (union ys)
crossed o nil ys h = absurd (false≢true h)
crossed o (cons x xs) nil h = absurd (false≢true (crossable_parts (cons x xs) nil h).0)
crossed o (cons x xs) (cons y ys) h =
    let fs = ways_of o (cons x xs) in
    let others = cons y ys in
    let parts = crossable_parts (cons x xs) others h in
    let there : each_goes fs others ≡ ((gathered fs (union others)).there || false) = sym (or-false _ ∙ each_there o (cons x xs) y ys parts.2) in
    let back : each_back fs others ≡ all_back_to o fs others = sym (each_back_of o x xs others parts.3) in
    ap (λ b. both b (each_back fs others)) there ∙ ap (λ b. both ((gathered fs (union others)).there || false) b) back
