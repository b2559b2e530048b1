-- Each regular type goes to itself.
use Rattle.std.proofs.Common.{◌≡◌, ℕ, zero, suc, Some, IsTrue, inl, inr, refl, sym, ◌∙◌, subst}
use Rattle.std.proofs.lemmas.Bool.{false≢true, or_cases, or_left, or_right}
use Rattle.pyc_class_ids.specs.Class.{Id, same_class, object_id}
use Rattle.pyc_class_ids.specs.Mro.{MroTable, leads, is_unknown}
use Rattle.pyc_type_forms.specs.Types.{Ty, Tys, Params, Listed, any, none, module_type, instance, class_object, list, dict, tuple, tuple_of, union, callable, nil, cons, dots, listed, no_param, param}
use Rattle.pyc_types.specs.Assignable.{Assignable, Every, ToSome, Places, from_any, to_any, of_unknown, each_item, some_item, nothing, to_object, along, lists, dicts, by_places, any_length, class_objects, any_arguments, callables, no_more, and_more, this_item, later_item, no_place, and_place, slots_of, type_at}
use Rattle.pyc_types.specs.MroLaws.{IsRegular, IsRegularRow, IsRegularCall, HasRegularTypes, HoldsItself, IsReflexive}
use Rattle.pyc_types.proofs.PairLemmas.{some_is, none≢some}
use Rattle.pyc_types.proofs.RegularLemmas.{own_alone, fits_itself, slot_at}
use Rattle.pyc_types.proofs.Rules.{meets_the_rules}

-- ---- unions

all_to_any : {o : MroTable} (xs : Tys) → Every o xs any
all_to_any nil = no_more
all_to_any (cons x xs) = and_more to_any (all_to_any xs)

all_to_object : {o : MroTable} {d : Id} (xs : Tys) → IsTrue (same_class d object_id) → Every o xs (instance d)
all_to_object nil is = no_more
all_to_object (cons x xs) is = and_more (to_object is) (all_to_object xs is)

-- a union goes where each of its items does
pub each_of : {o : MroTable} (xs : Tys) {b : Ty} → Assignable o (union xs) b → Every o xs b
each_of xs to_any = all_to_any xs
each_of xs (each_item every) = every
each_of xs (some_item plain some) = absurd (false≢true (sym plain))
each_of xs (to_object is) = all_to_object xs is

module _ (o : MroTable) (x : Ty) (ys : Tys) (among : (a : Ty) → Assignable o a x → ToSome o a ys) where
  mutual
    -- what goes to an item of a union goes to the union
    widen : (a : Ty) → Assignable o a x → Assignable o a (union ys)
    widen any p = some_item refl (among any p)
    widen none p = some_item refl (among none p)
    widen (module_type m) p = some_item refl (among (module_type m) p)
    widen (instance c) p = some_item refl (among (instance c) p)
    widen (class_object c) p = some_item refl (among (class_object c) p)
    widen (list t) p = some_item refl (among (list t) p)
    widen (dict k v) p = some_item refl (among (dict k v) p)
    widen (tuple ts) p = some_item refl (among (tuple ts) p)
    widen (tuple_of t) p = some_item refl (among (tuple_of t) p)
    widen (union ts) p = each_item (widen_every ts (each_of ts p))
    widen (callable ps r) p = some_item refl (among (callable ps r) p)

    widen_every : (xs : Tys) → Every o xs x → Every o xs (union ys)
    widen_every nil every = no_more
    widen_every (cons a xs) (and_more p every) = and_more (widen a p) (widen_every xs every)

-- ---- all types

module _ (o : MroTable) (holds : HoldsItself o) where
  itself_instance : (c : Id) → Assignable o (instance c) (instance c)
  itself_instance c = elim (or_cases (is_unknown (o c)) (leads o c c) (holds c)) [ inl unknown ↦ of_unknown unknown | inr led ↦ along led ]

  itself_class : (c : Id) → Assignable o (class_object c) (class_object c)
  itself_class c =
      elim (or_cases (is_unknown (o c)) (leads o c c) (holds c)) [
        | inl unknown ↦ class_objects (or_right (leads o c c) (is_unknown (o c)) unknown)
        | inr led ↦ class_objects (or_left (leads o c c) (is_unknown (o c)) led)
      ]

  mutual
    itself : (t : Ty) → IsRegular t → Assignable o t t
    itself any h = from_any
    itself none h = nothing
    itself (module_type m) h = absurd h
    itself (instance c) h = itself_instance c
    itself (class_object c) h = itself_class c
    itself (list x) h = lists (itself x h) (itself x h)
    itself (dict k v) h = dicts (itself k h.0) (itself k h.0) (itself v h.1) (itself v h.1)
    itself (tuple xs) h = by_places (itself_places xs h)
    itself (tuple_of x) h = any_length (itself x h)
    itself (union xs) h = each_item (itself_every xs h xs (λ a some. some))
    itself (callable ps r) h = itself_call ps h.0 r (itself r h.1)

    itself_places : (xs : Tys) → IsRegularRow xs → Places o xs xs
    itself_places nil h = no_place
    itself_places (cons x xs) h = and_place (itself x h.0) (itself_places xs h.1)

    itself_every : (xs : Tys) → IsRegularRow xs → (ys : Tys) → ((a : Ty) → ToSome o a xs → ToSome o a ys) → Every o xs (union ys)
    itself_every nil h ys among = no_more
    itself_every (cons x xs) h ys among =
        and_more (widen o x ys (λ a p. among a (this_item p)) x (itself x h.0)) (itself_every xs h.1 ys (λ a some. among a (later_item some)))

    itself_call : (ps : Params) → IsRegularCall ps → (r : Ty) → Assignable o r r → Assignable o (callable ps r) (callable ps r)
    itself_call dots h r result_goes = any_arguments refl result_goes
    itself_call (listed ps) h r result_goes =
        callables (fits_itself (slots_of ps) h.0)
        (λ i j p q at at' serving.
        let slot = slot_at ps j q at' in
        let same = own_alone (slots_of ps) h.0 i j slot.0 slot.1 serving in
        let here : type_at ps j ≡ Some p = subst (λ k. type_at ps k ≡ Some p) (sym same) at in
        subst (λ t. Assignable o q t) (some_is (sym at' ∙ here)) (itself_at ps h.1 j q at'))
        result_goes

    itself_at : (ps : Listed) → HasRegularTypes ps → (j : ℕ) (t : Ty) → type_at ps j ≡ Some t → Assignable o t t
    itself_at no_param h j t at = absurd (none≢some at)
    itself_at (param slot u ps) h zero t at = subst (λ v. Assignable o v v) (some_is at) (itself u h.0)
    itself_at (param slot u ps) h (suc j) t at = itself_at ps h.1 j t at

pub is_reflexive : IsReflexive
is_reflexive o holds t regular = (meets_the_rules o t t).1 (itself o holds t regular)
