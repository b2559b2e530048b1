-- Orders that agree on the classes written in two types answer alike.
use Rattle.std.proofs.Common.{◌≡◌, ℕ, zero, suc, ◌||◌, Some, IsTrue, sym, subst}
use Rattle.pyc_class_ids.specs.declared.class_id.InstanceForm.{InstanceForm}
use Rattle.pyc_class_ids.specs.declared.class_id.InstanceForm.TheVariants as form
use Rattle.pyc_class_ids.specs.Class.{Id, form_of, int_id}
use Rattle.pyc_class_ids.specs.Mro.{MroTable, order_contains, is_unknown}
use Rattle.pyc_type_forms.specs.Types.{Ty, Tys, Params, Listed, any, none, module_type, instance, class_object, list, dict, tuple, tuple_of, union, callable, nil, cons, dots, listed, no_param, param}
use Rattle.pyc_type_forms.specs.Instances.{instance_in}
use Rattle.pyc_types.specs.Assignable.{Assignable, Every, ToSome, Places, from_any, to_any, of_unknown, each_item, some_item, nothing, to_object, along, to_float, lists, dicts, by_places, each_place, any_length, class_objects, any_arguments, callables, with_call, makes, no_more, and_more, this_item, later_item, no_place, and_place, type_at}
use Rattle.pyc_types.specs.Laws.{AgreeOn, AgreeOnRow, AgreeOnParams, AgreeOnListed, AgreeingMrosAnswerAlike}
use Rattle.pyc_types.proofs.PairLemmas.{some_is, none≢some}
use Rattle.pyc_types.proofs.Rules.{meets_the_rules, same_tests}

mutual
  turned_on : (o p : MroTable) (t : Ty) → AgreeOn o p t → AgreeOn p o t
  turned_on o p any h = tt
  turned_on o p none h = tt
  turned_on o p (module_type m) h = tt
  turned_on o p (instance c) h = sym h
  turned_on o p (class_object c) h = sym h
  turned_on o p (list x) h = turned_on o p x h
  turned_on o p (dict k v) h = (turned_on o p k h.0, turned_on o p v h.1)
  turned_on o p (tuple xs) h = turned_row o p xs h
  turned_on o p (tuple_of x) h = turned_on o p x h
  turned_on o p (union xs) h = turned_row o p xs h
  turned_on o p (callable ps r) h = (turned_params o p ps h.0, turned_on o p r h.1)

  turned_row : (o p : MroTable) (xs : Tys) → AgreeOnRow o p xs → AgreeOnRow p o xs
  turned_row o p nil h = tt
  turned_row o p (cons x xs) h = (turned_on o p x h.0, turned_row o p xs h.1)

  turned_params : (o p : MroTable) (ps : Params) → AgreeOnParams o p ps → AgreeOnParams p o ps
  turned_params o p dots h = tt
  turned_params o p (listed ps) h = turned_listed o p ps h

  turned_listed : (o p : MroTable) (ps : Listed) → AgreeOnListed o p ps → AgreeOnListed p o ps
  turned_listed o p no_param h = tt
  turned_listed o p (param slot t ps) h = (turned_on o p t h.0, turned_listed o p ps h.1)

-- they agree on the type at each place
agree_at : (o p : MroTable) (ps : Listed) → AgreeOnListed o p ps → (i : ℕ) (t : Ty) → type_at ps i ≡ Some t → AgreeOn o p t
agree_at o p no_param h i t at = absurd (none≢some at)
agree_at o p (param slot t' ps) h zero t at = subst (AgreeOn o p) (some_is at) h.0
agree_at o p (param slot t' ps) h (suc i) t at = agree_at o p ps h.1 i t at

-- they agree on the instances of a class
agree_made : (o p : MroTable) (f : InstanceForm) (c : Id) → o c ≡ p c → AgreeOn o p (instance_in f c)
agree_made o p form.List c h = tt
agree_made o p form.Dict c h = (tt, tt)
agree_made o p form.Tuple c h = tt
agree_made o p form.Plain c h = h

mutual
  alike : {o p : MroTable} {a b : Ty} → Assignable o a b → AgreeOn o p a → AgreeOn o p b → Assignable p a b
  alike from_any g h = from_any
  alike to_any g h = to_any
  alike (of_unknown u) g h = of_unknown (subst (λ r. IsTrue (is_unknown r)) g u)
  alike (each_item every) g h = each_item (alike_every every g h)
  alike (some_item plain some) g h = some_item plain (alike_some some g h)
  alike nothing g h = nothing
  alike (to_object is) g h = to_object is
  alike (along {d = d} led) g h = along (subst (λ r. IsTrue (order_contains r d)) g led)
  alike (to_float led is) g h = to_float (subst (λ r. IsTrue (order_contains r int_id)) g led) is
  alike (lists x y) g h = lists (alike x g h) (alike y h g)
  alike (dicts x y z w) g h = dicts (alike x g.0 h.0) (alike y h.0 g.0) (alike z g.1 h.1) (alike w h.1 g.1)
  alike (by_places places) g h = by_places (alike_places places g h)
  alike (each_place every) g h = each_place (alike_every every g h)
  alike (any_length x) g h = any_length (alike x g h)
  alike (class_objects {d = d} led) g h = class_objects (subst (λ r. IsTrue (order_contains r d || is_unknown r)) g led)
  alike (any_arguments is x) g h = any_arguments is (alike x g.1 h.1)
  alike {o} {p} (callables {ps = ps} {qs = qs} fit pairs x) g h =
      callables fit (λ i j t u at at' serving. alike (pairs i j t u at at' serving) (agree_at o p qs h.0 j u at') (agree_at o p ps g.0 i t at)) (alike x g.1 h.1)
  alike (with_call called) g h = with_call (subst (λ r. IsTrue r.has_call) g called)
  alike {o} {p} (makes {c = c} x) g h = makes (alike x (agree_made o p (form_of c) c g) h.1)

  alike_every : {o p : MroTable} {xs : Tys} {b : Ty} → Every o xs b → AgreeOnRow o p xs → AgreeOn o p b → Every p xs b
  alike_every no_more g h = no_more
  alike_every (and_more x every) g h = and_more (alike x g.0 h) (alike_every every g.1 h)

  alike_some : {o p : MroTable} {a : Ty} {ys : Tys} → ToSome o a ys → AgreeOn o p a → AgreeOnRow o p ys → ToSome p a ys
  alike_some (this_item x) g h = this_item (alike x g h.0)
  alike_some (later_item some) g h = later_item (alike_some some g h.1)

  alike_places : {o p : MroTable} {xs ys : Tys} → Places o xs ys → AgreeOnRow o p xs → AgreeOnRow o p ys → Places p xs ys
  alike_places no_place g h = no_place
  alike_places (and_place x places) g h = and_place (alike x g.0 h.0) (alike_places places g.1 h.1)

pub agreeing_orders : AgreeingMrosAnswerAlike
agreeing_orders o p a b g h =
    same_tests _ _
    (λ answer. (meets_the_rules p a b).1 (alike ((meets_the_rules o a b).0 answer) g h))
    (λ answer. (meets_the_rules o a b).1 (alike ((meets_the_rules p a b).0 answer) (turned_on o p a g) (turned_on o p b h)))
