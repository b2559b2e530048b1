-- Where the rules lead, the test answers yes, both ways.
use Rattle.std.proofs.Common.{◌≡◌, true, false, ◌&&◌, ◌||◌, IsTrue, refl, ◌∙◌, ap}
use Rattle.std.proofs.lemmas.Bool.{false≢true, or_left, or_right, and_from}
use Rattle.pyc_class_ids.specs.Class.{same_class, object_id, int_id, float_id, form_of}
use Rattle.pyc_class_ids.specs.Mro.{MroTable, leads, is_unknown}
use Rattle.pyc_type_forms.specs.Types.{Ty, Tys, Params, any, instance, dots, listed}
use Rattle.pyc_types.specs.Assignable.{Assignable, Every, ToSome, Places, from_any, to_any, of_unknown, each_item, some_item, nothing, to_object, along, to_float, lists, dicts, by_places, each_place, any_length, class_objects, any_arguments, callables, with_call, makes, no_more, and_more, this_item, later_item, no_place, and_place, is_dots}
use Rattle.pyc_types.specs.Cross.{goes_to_some}
use Rattle.pyc_types.specs.Ways.{is_any, is_unknown_instance, is_object, is_simple, instance_goes, place_ways, gathered, all_back, params_ways, ways, ways_of, params_ways_of}
use Rattle.pyc_types.proofs.PairLemmas.{rows_there, rows_back}
use Rattle.pyc_types.proofs.WayLemmas.{simple_there, simple_back, union_there, union_back, some_back, made_by_form}

-- the test answers yes there, and yes back where it is asked the other way round
abbrev pub Yes : MroTable → Ty → Ty → Type 0
Yes o a b = ((ways o a b).there ≡ true) × ((ways o b a).back ≡ true)

simple_yes : (o : MroTable) (a b : Ty) → is_simple o a b ≡ true → Yes o a b
simple_yes o a b h = (simple_there o a b h, simple_back o a b h)

-- any arguments on a side are taken
dots_there : (o : MroTable) (ps qs : Params) → IsTrue (is_dots ps || is_dots qs) → (params_ways ps (params_ways_of o ps) qs).there ≡ true
dots_there o dots qs h = refl
dots_there o (listed ps) dots h = refl
dots_there o (listed ps) (listed qs) h = absurd (false≢true h)

dots_back : (o : MroTable) (ps qs : Params) → IsTrue (is_dots ps || is_dots qs) → (params_ways qs (params_ways_of o qs) ps).back ≡ true
dots_back o ps dots h = refl
dots_back o dots (listed qs) h = refl
dots_back o (listed ps) (listed qs) h = absurd (false≢true h)

mutual
  pub complete : {o : MroTable} {a b : Ty} → Assignable o a b → Yes o a b
  complete {o} {a} {b} from_any = simple_yes o any b refl
  complete {o} {a} {b} to_any = simple_yes o a any (or_left _ _ (or_right (is_any a) true refl))
  complete {o} {a} {b} (of_unknown {c = c} u) = simple_yes o (instance c) b (or_right (is_any b) (is_unknown (o c) || is_object b) (or_left (is_unknown (o c)) (is_object b) u))
  complete {o} {a} {b} (each_item {items = xs} every) =
      let yes = complete_every every in
      (or_left _ _ yes.0, union_back o b xs yes.1)
  complete {o} {a} {b} (some_item {items = ys} plain some) =
      let yes = complete_some some in
      (union_there o a ys plain yes.0, some_back o a ys plain yes.1)
  complete nothing = (refl, refl)
  complete {o} {a} {b} (to_object {d = d} h) = simple_yes o a (instance d) (or_right (is_any a || false) (is_unknown_instance o a || same_class d object_id) (or_right (is_unknown_instance o a) (same_class d object_id) h))
  complete {o} (along {c = c} {d = d} led) =
      let goes : instance_goes o c d ≡ true = or_left (leads o c d) (leads o c int_id && same_class d float_id) led in
      (or_left _ _ goes, or_left _ _ goes)
  complete {o} (to_float {c = c} {d = d} led is) =
      let goes : instance_goes o c d ≡ true = or_right (leads o c d) (leads o c int_id && same_class d float_id) (and_from (leads o c int_id) (same_class d float_id) led is) in
      (or_left _ _ goes, or_left _ _ goes)
  complete (lists p q) =
      let f = complete p in
      let g = complete q in
      (or_left _ _ (and_from _ _ f.0 g.1), or_left _ _ (and_from _ _ g.0 f.1))
  complete (dicts p q r t) =
      let f = complete p in
      let g = complete q in
      let h = complete r in
      let i = complete t in
      (or_left _ _ (and_from _ _ (and_from _ _ f.0 g.1) (and_from _ _ h.0 i.1)), or_left _ _ (and_from _ _ (and_from _ _ g.0 f.1) (and_from _ _ i.0 h.1)))
  complete (by_places places) =
      let yes = complete_places places in
      (or_left _ _ yes.0, or_left _ _ yes.1)
  complete (each_place every) =
      let yes = complete_every every in
      (or_left _ _ yes.0, or_left _ _ yes.1)
  complete (any_length p) =
      let yes = complete p in
      (or_left _ _ yes.0, or_left _ _ yes.1)
  complete (class_objects h) = (or_left _ _ h, or_left _ _ h)
  complete {o} (any_arguments {ps = ps} {qs = qs} h p) =
      let yes = complete p in
      (or_left _ _ (and_from _ _ (dots_there o ps qs h) yes.0), or_left _ _ (and_from _ _ (dots_back o ps qs h) yes.1))
  complete {o} (callables {ps = ps} {qs = qs} fit pairs p) =
      let yes = complete p in
      let there = rows_there o ps qs (λ i j x y a b s. (complete (pairs i j x y a b s)).1) in
      let back = rows_back o ps qs (λ i j x y a b s. (complete (pairs i j x y a b s)).0) in
      (or_left _ _ (and_from _ _ (and_from _ _ fit there) yes.0), or_left _ _ (and_from _ _ (and_from _ _ fit back) yes.1))
  complete (with_call h) = (or_left _ _ h, or_left _ _ h)
  complete {o} (makes {c = c} {s = s} p) =
      let yes = complete p in
      (or_left _ _ (ap (λ w. w.there) (made_by_form o (form_of c) c s) ∙ yes.0), or_left _ _ yes.1)

  complete_every : {o : MroTable} {xs : Tys} {b : Ty} → Every o xs b → ((gathered (ways_of o xs) b).there ≡ true) × (all_back (ways o b) xs ≡ true)
  complete_every no_more = (refl, refl)
  complete_every (and_more p every) =
      let yes = complete p in
      let rest = complete_every every in
      (and_from _ _ yes.0 rest.0, and_from _ _ yes.1 rest.1)

  complete_some : {o : MroTable} {a : Ty} {ys : Tys} → ToSome o a ys → (goes_to_some (ways o a) ys ≡ true) × ((gathered (ways_of o ys) a).back ≡ true)
  complete_some (this_item p) =
      let yes = complete p in
      (or_left _ _ yes.0, or_left _ _ yes.1)
  complete_some (later_item some) =
      let yes = complete_some some in
      (or_right _ _ yes.0, or_right _ _ yes.1)

  complete_places : {o : MroTable} {xs ys : Tys} → Places o xs ys → ((place_ways (ways_of o xs) ys).there ≡ true) × ((place_ways (ways_of o ys) xs).back ≡ true)
  complete_places no_place = (refl, refl)
  complete_places (and_place p places) =
      let yes = complete p in
      let rest = complete_places places in
      (and_from _ _ yes.0 rest.0, and_from _ _ yes.1 rest.1)
