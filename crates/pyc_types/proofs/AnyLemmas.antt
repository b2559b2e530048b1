-- Replacing parts of types by Any keeps what is assignable.
use Rattle.std.proofs.Common.{◌≡◌, ℕ, zero, suc, false, ◌∷◌, Some, refl, sym, ap, subst}
use Rattle.std.proofs.lemmas.Bool.{false≢true}
use Rattle.pyc_class_ids.specs.declared.class_id.InstanceForm.{InstanceForm}
use Rattle.pyc_class_ids.specs.declared.class_id.InstanceForm.TheVariants as form
use Rattle.pyc_class_ids.specs.Class.{Id, form_of}
use Rattle.pyc_class_ids.specs.Mro.{MroTable}
use Rattle.pyc_type_forms.specs.Types.{Ty, Tys, Params, Listed}
use Rattle.pyc_type_forms.specs.Instances.{instance_in}
use Rattle.pyc_types.specs.Assignable.{Assignable, Every, ToSome, Places, from_any, to_any, of_unknown, each_item, some_item, nothing, to_object, along, to_float, lists, dicts, by_places, each_place, any_length, class_objects, any_arguments, callables, with_call, makes, no_more, and_more, this_item, later_item, no_place, and_place, is_union, is_dots, slots_of, type_at}
use Rattle.pyc_types.specs.Laws.{WithAny, RowWithAny, ParamsWithAny, ListedWithAny, replaced, same_none, same_module, same_instance, same_class_object, in_list, in_dict, in_tuple, in_tuple_of, in_union, in_callable, no_type, another_type, same_dots, in_listed, no_parameter, another_parameter, AnyPartHolds}
use Rattle.pyc_types.proofs.PairLemmas.{some_is, none≢some}
use Rattle.pyc_types.proofs.Rules.{meets_the_rules}

-- the instances of a class are themselves with no part replaced
made_kept : (f : InstanceForm) (c : Id) → WithAny (instance_in f c) (instance_in f c)
made_kept form.List c = in_list replaced
made_kept form.Dict c = in_dict replaced replaced
made_kept form.Tuple c = in_tuple_of replaced
made_kept form.Plain c = same_instance

-- a type that is no union becomes none
plain_kept : {t t' : Ty} → WithAny t t' → is_union t ≡ false → is_union t' ≡ false
plain_kept replaced plain = refl
plain_kept same_none plain = refl
plain_kept same_module plain = refl
plain_kept same_instance plain = refl
plain_kept same_class_object plain = refl
plain_kept (in_list w) plain = refl
plain_kept (in_dict w v) plain = refl
plain_kept (in_tuple ws) plain = refl
plain_kept (in_tuple_of w) plain = refl
plain_kept (in_union ws) plain = absurd (false≢true (sym plain))
plain_kept (in_callable ws w) plain = refl

-- dots stay dots
dots_kept : {ps ps' : Params} → ParamsWithAny ps ps' → is_dots ps ≡ is_dots ps'
dots_kept same_dots = refl
dots_kept (in_listed ws) = refl

-- parameters stay the same apart from their types
slots_kept : {ps ps' : Listed} → ListedWithAny ps ps' → slots_of ps ≡ slots_of ps'
slots_kept no_parameter = refl
slots_kept (another_parameter {slot = slot} w ws) = ap (λ rest. slot ∷ rest) (slots_kept ws)

-- the type at a place comes of the one that stood there
at_kept : {ps ps' : Listed} → ListedWithAny ps ps' → (i : ℕ) (p' : Ty) → type_at ps' i ≡ Some p' → (p : Ty) × ((type_at ps i ≡ Some p) × WithAny p p')
at_kept no_parameter i p' at = absurd (none≢some at)
at_kept (another_parameter {t = t} w ws) zero p' at = (t, (refl, subst (λ x. WithAny t x) (some_is at) w))
at_kept (another_parameter w ws) (suc i) p' at = at_kept ws i p' at

mutual
  holds : {o : MroTable} {a b : Ty} → Assignable o a b → {a' b' : Ty} → WithAny a a' → WithAny b b' → Assignable o a' b'
  holds from_any replaced wb = from_any
  holds to_any wa replaced = to_any
  holds (of_unknown u) replaced wb = from_any
  holds (of_unknown u) same_instance wb = of_unknown u
  holds (each_item every) replaced wb = from_any
  holds (each_item every) (in_union ws) wb = each_item (holds_every every ws wb)
  holds (some_item plain some) wa replaced = to_any
  holds (some_item plain some) wa (in_union ws) = some_item (plain_kept wa plain) (holds_some some wa ws)
  holds nothing replaced wb = from_any
  holds nothing same_none replaced = to_any
  holds nothing same_none same_none = nothing
  holds (to_object h) wa replaced = to_any
  holds (to_object h) wa same_instance = to_object h
  holds (along h) replaced wb = from_any
  holds (along h) same_instance replaced = to_any
  holds (along h) same_instance same_instance = along h
  holds (to_float h k) replaced wb = from_any
  holds (to_float h k) same_instance replaced = to_any
  holds (to_float h k) same_instance same_instance = to_float h k
  holds (lists p q) replaced wb = from_any
  holds (lists p q) (in_list w) replaced = to_any
  holds (lists p q) (in_list w) (in_list v) = lists (holds p w v) (holds q v w)
  holds (dicts p q r t) replaced wb = from_any
  holds (dicts p q r t) (in_dict w v) replaced = to_any
  holds (dicts p q r t) (in_dict w v) (in_dict y z) = dicts (holds p w y) (holds q y w) (holds r v z) (holds t z v)
  holds (by_places places) replaced wb = from_any
  holds (by_places places) (in_tuple ws) replaced = to_any
  holds (by_places places) (in_tuple ws) (in_tuple vs) = by_places (holds_places places ws vs)
  holds (each_place every) replaced wb = from_any
  holds (each_place every) (in_tuple ws) replaced = to_any
  holds (each_place every) (in_tuple ws) (in_tuple_of v) = each_place (holds_every every ws v)
  holds (any_length p) replaced wb = from_any
  holds (any_length p) (in_tuple_of w) replaced = to_any
  holds (any_length p) (in_tuple_of w) (in_tuple_of v) = any_length (holds p w v)
  holds (class_objects h) replaced wb = from_any
  holds (class_objects h) same_class_object replaced = to_any
  holds (class_objects h) same_class_object same_class_object = class_objects h
  holds (any_arguments h p) replaced wb = from_any
  holds (any_arguments h p) (in_callable ws w) replaced = to_any
  holds (any_arguments h p) (in_callable ws w) (in_callable vs v) =
      any_arguments (rw (← dots_kept ws, ← dots_kept vs) h) (holds p w v)
  holds (callables fit pairs p) replaced wb = from_any
  holds (callables fit pairs p) (in_callable ws w) replaced = to_any
  holds (callables fit pairs p) (in_callable (in_listed ws) w) (in_callable (in_listed vs) v) =
      callables (rw (← slots_kept ws, ← slots_kept vs) fit)
      (λ i j x' y' at at' serving.
      let x = at_kept ws i x' at in
      let y = at_kept vs j y' at' in
      holds (pairs i j x.0 y.0 x.1.0 y.1.0 (rw (slots_kept ws, slots_kept vs) serving)) y.1.1 x.1.1)
      (holds p w v)
  holds (with_call h) replaced wb = from_any
  holds (with_call h) same_instance replaced = to_any
  holds (with_call h) same_instance (in_callable vs v) = with_call h
  holds (makes p) replaced wb = from_any
  holds (makes p) same_class_object replaced = to_any
  holds (makes {c = c} p) same_class_object (in_callable vs v) = makes (holds p (made_kept (form_of c) c) v)

  holds_every : {o : MroTable} {xs : Tys} {b : Ty} → Every o xs b → {xs' : Tys} {b' : Ty} → RowWithAny xs xs' → WithAny b b' → Every o xs' b'
  holds_every no_more no_type wb = no_more
  holds_every (and_more p every) (another_type w ws) wb = and_more (holds p w wb) (holds_every every ws wb)

  holds_some : {o : MroTable} {a : Ty} {ys : Tys} → ToSome o a ys → {a' : Ty} {ys' : Tys} → WithAny a a' → RowWithAny ys ys' → ToSome o a' ys'
  holds_some (this_item p) wa (another_type w ws) = this_item (holds p wa w)
  holds_some (later_item some) wa (another_type w ws) = later_item (holds_some some wa ws)

  holds_places : {o : MroTable} {xs ys : Tys} → Places o xs ys → {xs' ys' : Tys} → RowWithAny xs xs' → RowWithAny ys ys' → Places o xs' ys'
  holds_places no_place no_type no_type = no_place
  holds_places (and_place p places) (another_type w ws) (another_type v vs) = and_place (holds p w v) (holds_places places ws vs)

pub any_part_holds : AnyPartHolds
any_part_holds o a a' b b' wa wb answer = (meets_the_rules o a' b').1 (holds ((meets_the_rules o a b).0 answer) wa wb)
