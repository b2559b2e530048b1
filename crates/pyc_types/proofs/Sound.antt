-- Where the test answers yes, both ways, the rules lead.
use Rattle.std.proofs.Common.{◌≡◌, ℕ, List, zero, suc, true, false, ◌&&◌, ◌||◌, Some, inl, inr, refl, subst}
use Rattle.std.proofs.lemmas.Bool.{false≢true, or_cases, or_right, and_parts}
use Rattle.pyc_class_ids.specs.declared.class_id.InstanceForm.{InstanceForm}
use Rattle.pyc_class_ids.specs.declared.class_id.InstanceForm.TheVariants as form
use Rattle.pyc_class_ids.specs.Class.{Id, same_class, int_id, float_id, form_of}
use Rattle.pyc_class_ids.specs.Mro.{MroTable, leads, is_unknown}
use Rattle.pyc_type_forms.specs.Types.{Ty, Tys, Params, Listed, any, none, module_type, instance, class_object, list, dict, tuple, tuple_of, union, callable, nil, cons, dots, listed, no_param, param}
use Rattle.pyc_type_forms.specs.Instances.{instance_of, instance_in}
use Rattle.pyc_types.specs.declared.ways.Ways.{Ways}
use Rattle.pyc_types.specs.Parameters.{fits}
use Rattle.pyc_types.specs.Assignable.{Assignable, Every, ToSome, Places, from_any, to_any, of_unknown, each_item, some_item, nothing, to_object, along, to_float, lists, dicts, by_places, each_place, any_length, class_objects, any_arguments, callables, with_call, makes, no_more, and_more, this_item, later_item, no_place, and_place, is_union, is_dots, slots_of, type_at}
use Rattle.pyc_types.specs.Pairs.{both, meet, listed_ways}
use Rattle.pyc_types.specs.Ways.{is_any, is_unknown_instance, is_object, is_simple, with_simple, instance_goes, none_rule, instance_rule, list_rule, dict_rule, place_ways, gathered, all_back, tuple_rule, tuple_of_rule, params_ways, callable_rule, into, into_items, any_ways, form_ways, class_rule, back_to, all_back_to, union_rule, ways, ways_of, params_ways_of, listed_ways_of}
use Rattle.pyc_types.proofs.PairLemmas.{some_is, none≢some, served_there, served_back}

-- what the ways between two types show
abbrev pub Shows : MroTable → Ty → Ty → Ways → Type 0
Shows o a b w = (w.there ≡ true → Assignable o a b) × (w.back ≡ true → Assignable o b a)

-- what the test shows of a type against every other
abbrev pub IsSound : MroTable → Ty → Type 0
IsSound o a = (b : Ty) → Shows o a b (ways o a b)

-- ---- simple rules

any_source : (o : MroTable) (a b : Ty) → is_any a ≡ true → Assignable o a b
any_source o any b h = from_any
any_source o none b h = absurd (false≢true h)
any_source o (module_type m) b h = absurd (false≢true h)
any_source o (instance c) b h = absurd (false≢true h)
any_source o (class_object c) b h = absurd (false≢true h)
any_source o (list x) b h = absurd (false≢true h)
any_source o (dict k v) b h = absurd (false≢true h)
any_source o (tuple xs) b h = absurd (false≢true h)
any_source o (tuple_of x) b h = absurd (false≢true h)
any_source o (union xs) b h = absurd (false≢true h)
any_source o (callable ps r) b h = absurd (false≢true h)

any_target : (o : MroTable) (a b : Ty) → is_any b ≡ true → Assignable o a b
any_target o a any h = to_any
any_target o a none h = absurd (false≢true h)
any_target o a (module_type m) h = absurd (false≢true h)
any_target o a (instance d) h = absurd (false≢true h)
any_target o a (class_object d) h = absurd (false≢true h)
any_target o a (list y) h = absurd (false≢true h)
any_target o a (dict l w) h = absurd (false≢true h)
any_target o a (tuple ys) h = absurd (false≢true h)
any_target o a (tuple_of y) h = absurd (false≢true h)
any_target o a (union ys) h = absurd (false≢true h)
any_target o a (callable qs s) h = absurd (false≢true h)

unknown_source : (o : MroTable) (a b : Ty) → is_unknown_instance o a ≡ true → Assignable o a b
unknown_source o any b h = absurd (false≢true h)
unknown_source o none b h = absurd (false≢true h)
unknown_source o (module_type m) b h = absurd (false≢true h)
unknown_source o (instance c) b h = of_unknown h
unknown_source o (class_object c) b h = absurd (false≢true h)
unknown_source o (list x) b h = absurd (false≢true h)
unknown_source o (dict k v) b h = absurd (false≢true h)
unknown_source o (tuple xs) b h = absurd (false≢true h)
unknown_source o (tuple_of x) b h = absurd (false≢true h)
unknown_source o (union xs) b h = absurd (false≢true h)
unknown_source o (callable ps r) b h = absurd (false≢true h)

object_target : (o : MroTable) (a b : Ty) → is_object b ≡ true → Assignable o a b
object_target o a any h = absurd (false≢true h)
object_target o a none h = absurd (false≢true h)
object_target o a (module_type m) h = absurd (false≢true h)
object_target o a (instance d) h = to_object h
object_target o a (class_object d) h = absurd (false≢true h)
object_target o a (list y) h = absurd (false≢true h)
object_target o a (dict l w) h = absurd (false≢true h)
object_target o a (tuple ys) h = absurd (false≢true h)
object_target o a (tuple_of y) h = absurd (false≢true h)
object_target o a (union ys) h = absurd (false≢true h)
object_target o a (callable qs s) h = absurd (false≢true h)

pub simple_sound : (o : MroTable) (a b : Ty) → is_simple o a b ≡ true → Assignable o a b
simple_sound o a b h =
    elim (or_cases (is_any a || is_any b) (is_unknown_instance o a || is_object b) h) [
      | inl anys ↦ elim (or_cases (is_any a) (is_any b) anys) [ inl source ↦ any_source o a b source | inr target ↦ any_target o a b target ]
      | inr others ↦ elim (or_cases (is_unknown_instance o a) (is_object b) others) [ inl source ↦ unknown_source o a b source | inr target ↦ object_target o a b target ]
    ]

-- with the simple rules
with_sound : (o : MroTable) (a b : Ty) (w : Ways) → Shows o a b w → Shows o a b (with_simple o a b w)
with_sound o a b w shows = (
  λ h. elim (or_cases w.there (is_simple o a b) h) [ inl own ↦ shows.0 own | inr simple ↦ simple_sound o a b simple ],
  λ h. elim (or_cases w.back (is_simple o b a) h) [ inl own ↦ shows.1 own | inr simple ↦ simple_sound o b a simple ],
)

-- ---- into unions

module _ (o : MroTable) (a : Ty) (plain : is_union a ≡ false) (rule : Ty → Ways) (sound_rule : (b : Ty) → Shows o a b (rule b)) where
  mutual
    pub into_sound : (b : Ty) → Shows o a b (into o a rule b)
    into_sound any = with_sound o a any (rule any) (sound_rule any)
    into_sound none = with_sound o a none (rule none) (sound_rule none)
    into_sound (module_type m) = with_sound o a (module_type m) (rule (module_type m)) (sound_rule (module_type m))
    into_sound (instance d) = with_sound o a (instance d) (rule (instance d)) (sound_rule (instance d))
    into_sound (class_object d) = with_sound o a (class_object d) (rule (class_object d)) (sound_rule (class_object d))
    into_sound (list y) = with_sound o a (list y) (rule (list y)) (sound_rule (list y))
    into_sound (dict l w) = with_sound o a (dict l w) (rule (dict l w)) (sound_rule (dict l w))
    into_sound (tuple ys) = with_sound o a (tuple ys) (rule (tuple ys)) (sound_rule (tuple ys))
    into_sound (tuple_of y) = with_sound o a (tuple_of y) (rule (tuple_of y)) (sound_rule (tuple_of y))
    into_sound (union ys) =
        with_sound o a (union ys) (into_items o a rule ys)
        (λ h. some_item plain (some_sound ys h), λ h. each_item (every_sound ys h))
    into_sound (callable qs s) = with_sound o a (callable qs s) (rule (callable qs s)) (sound_rule (callable qs s))

    some_sound : (ys : Tys) → (into_items o a rule ys).there ≡ true → ToSome o a ys
    some_sound nil h = absurd (false≢true h)
    some_sound (cons y ys) h =
        elim (or_cases (into o a rule y).there (into_items o a rule ys).there h) [
          | inl this ↦ this_item ((into_sound y).0 this)
          | inr later ↦ later_item (some_sound ys later)
        ]

    every_sound : (ys : Tys) → (into_items o a rule ys).back ≡ true → Every o ys a
    every_sound nil h = no_more
    every_sound (cons y ys) h =
        let parts = and_parts (into o a rule y).back (into_items o a rule ys).back h in
        and_more ((into_sound y).1 parts.0) (every_sound ys parts.1)

-- ---- the rule of each form

none_sound : (o : MroTable) (b : Ty) → Shows o none b (none_rule b)
none_sound o any = (λ e. absurd (false≢true e), λ e. absurd (false≢true e))
none_sound o none = (λ h. nothing, λ h. nothing)
none_sound o (module_type m) = (λ e. absurd (false≢true e), λ e. absurd (false≢true e))
none_sound o (instance d) = (λ e. absurd (false≢true e), λ e. absurd (false≢true e))
none_sound o (class_object d) = (λ e. absurd (false≢true e), λ e. absurd (false≢true e))
none_sound o (list y) = (λ e. absurd (false≢true e), λ e. absurd (false≢true e))
none_sound o (dict l w) = (λ e. absurd (false≢true e), λ e. absurd (false≢true e))
none_sound o (tuple ys) = (λ e. absurd (false≢true e), λ e. absurd (false≢true e))
none_sound o (tuple_of y) = (λ e. absurd (false≢true e), λ e. absurd (false≢true e))
none_sound o (union ys) = (λ e. absurd (false≢true e), λ e. absurd (false≢true e))
none_sound o (callable qs s) = (λ e. absurd (false≢true e), λ e. absurd (false≢true e))

module_sound : {m : List (List ℕ)} (o : MroTable) (b : Ty) → Shows o (module_type m) b (both false false)
module_sound o b = (λ e. absurd (false≢true e), λ e. absurd (false≢true e))

goes_sound : (o : MroTable) (c d : Id) → instance_goes o c d ≡ true → Assignable o (instance c) (instance d)
goes_sound o c d h =
    elim (or_cases (leads o c d) (leads o c int_id && same_class d float_id) h) [
      | inl led ↦ along led
      | inr promoted ↦
          let parts = and_parts (leads o c int_id) (same_class d float_id) promoted in
          to_float parts.0 parts.1
    ]

instance_sound : (o : MroTable) (c : Id) (b : Ty) → Shows o (instance c) b (instance_rule o c b)
instance_sound o c any = (λ e. absurd (false≢true e), λ e. absurd (false≢true e))
instance_sound o c none = (λ e. absurd (false≢true e), λ e. absurd (false≢true e))
instance_sound o c (module_type m) = (λ e. absurd (false≢true e), λ e. absurd (false≢true e))
instance_sound o c (instance d) = (goes_sound o c d, goes_sound o d c)
instance_sound o c (class_object d) = (λ e. absurd (false≢true e), λ e. absurd (false≢true e))
instance_sound o c (list y) = (λ e. absurd (false≢true e), λ e. absurd (false≢true e))
instance_sound o c (dict l w) = (λ e. absurd (false≢true e), λ e. absurd (false≢true e))
instance_sound o c (tuple ys) = (λ e. absurd (false≢true e), λ e. absurd (false≢true e))
instance_sound o c (tuple_of y) = (λ e. absurd (false≢true e), λ e. absurd (false≢true e))
instance_sound o c (union ys) = (λ e. absurd (false≢true e), λ e. absurd (false≢true e))
instance_sound o c (callable qs s) = (λ h. with_call h, λ h. absurd (false≢true h))

-- both of an invariant pair
invariant_parts : (w : Ways) → (w.there && w.back) ≡ true → (w.there ≡ true) × (w.back ≡ true)
invariant_parts w h = and_parts w.there w.back h

list_sound : (o : MroTable) (x : Ty) → IsSound o x → (b : Ty) → Shows o (list x) b (list_rule (ways o x) b)
list_sound o x sx any = (λ e. absurd (false≢true e), λ e. absurd (false≢true e))
list_sound o x sx none = (λ e. absurd (false≢true e), λ e. absurd (false≢true e))
list_sound o x sx (module_type m) = (λ e. absurd (false≢true e), λ e. absurd (false≢true e))
list_sound o x sx (instance d) = (λ e. absurd (false≢true e), λ e. absurd (false≢true e))
list_sound o x sx (class_object d) = (λ e. absurd (false≢true e), λ e. absurd (false≢true e))
list_sound o x sx (list y) = (
  λ h. let p = invariant_parts (ways o x y) h in lists ((sx y).0 p.0) ((sx y).1 p.1),
  λ h. let p = invariant_parts (ways o x y) h in lists ((sx y).1 p.1) ((sx y).0 p.0),
)
list_sound o x sx (dict l w) = (λ e. absurd (false≢true e), λ e. absurd (false≢true e))
list_sound o x sx (tuple ys) = (λ e. absurd (false≢true e), λ e. absurd (false≢true e))
list_sound o x sx (tuple_of y) = (λ e. absurd (false≢true e), λ e. absurd (false≢true e))
list_sound o x sx (union ys) = (λ e. absurd (false≢true e), λ e. absurd (false≢true e))
list_sound o x sx (callable qs s) = (λ e. absurd (false≢true e), λ e. absurd (false≢true e))

dict_sound : (o : MroTable) (k v : Ty) → IsSound o k → IsSound o v → (b : Ty) → Shows o (dict k v) b (dict_rule (ways o k) (ways o v) b)
dict_sound o k v sk sv any = (λ e. absurd (false≢true e), λ e. absurd (false≢true e))
dict_sound o k v sk sv none = (λ e. absurd (false≢true e), λ e. absurd (false≢true e))
dict_sound o k v sk sv (module_type m) = (λ e. absurd (false≢true e), λ e. absurd (false≢true e))
dict_sound o k v sk sv (instance d) = (λ e. absurd (false≢true e), λ e. absurd (false≢true e))
dict_sound o k v sk sv (class_object d) = (λ e. absurd (false≢true e), λ e. absurd (false≢true e))
dict_sound o k v sk sv (list y) = (λ e. absurd (false≢true e), λ e. absurd (false≢true e))
dict_sound o k v sk sv (dict l w) = (
  λ h.
      let p = and_parts _ _ h in
      let q = invariant_parts (ways o k l) p.0 in
      let r = invariant_parts (ways o v w) p.1 in
      dicts ((sk l).0 q.0) ((sk l).1 q.1) ((sv w).0 r.0) ((sv w).1 r.1),
  λ h.
      let p = and_parts _ _ h in
      let q = invariant_parts (ways o k l) p.0 in
      let r = invariant_parts (ways o v w) p.1 in
      dicts ((sk l).1 q.1) ((sk l).0 q.0) ((sv w).1 r.1) ((sv w).0 r.0),
)
dict_sound o k v sk sv (tuple ys) = (λ e. absurd (false≢true e), λ e. absurd (false≢true e))
dict_sound o k v sk sv (tuple_of y) = (λ e. absurd (false≢true e), λ e. absurd (false≢true e))
dict_sound o k v sk sv (union ys) = (λ e. absurd (false≢true e), λ e. absurd (false≢true e))
dict_sound o k v sk sv (callable qs s) = (λ e. absurd (false≢true e), λ e. absurd (false≢true e))

-- what the test shows of each type of a row
abbrev AreSound : MroTable → Tys → Type 0
AreSound o nil = Unit
AreSound o (cons x xs) = IsSound o x × AreSound o xs

gathered_every : (o : MroTable) (xs : Tys) → AreSound o xs → (b : Ty) → (gathered (ways_of o xs) b).there ≡ true → Every o xs b
gathered_every o nil sxs b h = no_more
gathered_every o (cons x xs) sxs b h =
    let p = and_parts (ways o x b).there (gathered (ways_of o xs) b).there h in
    and_more ((sxs.0 b).0 p.0) (gathered_every o xs sxs.1 b p.1)

gathered_some : (o : MroTable) (xs : Tys) → AreSound o xs → (b : Ty) → (gathered (ways_of o xs) b).back ≡ true → ToSome o b xs
gathered_some o nil sxs b h = absurd (false≢true h)
gathered_some o (cons x xs) sxs b h =
    elim (or_cases (ways o x b).back (gathered (ways_of o xs) b).back h) [
      | inl this ↦ this_item ((sxs.0 b).1 this)
      | inr later ↦ later_item (gathered_some o xs sxs.1 b later)
    ]

all_back_every : (o : MroTable) (x : Ty) → IsSound o x → (ys : Tys) → all_back (ways o x) ys ≡ true → Every o ys x
all_back_every o x sx nil h = no_more
all_back_every o x sx (cons y ys) h =
    let p = and_parts (ways o x y).back (all_back (ways o x) ys) h in
    and_more ((sx y).1 p.0) (all_back_every o x sx ys p.1)

places_there : (o : MroTable) (xs : Tys) → AreSound o xs → (ys : Tys) → (place_ways (ways_of o xs) ys).there ≡ true → Places o xs ys
places_there o nil sxs nil h = no_place
places_there o nil sxs (cons y ys) h = absurd (false≢true h)
places_there o (cons x xs) sxs nil h = absurd (false≢true h)
places_there o (cons x xs) sxs (cons y ys) h =
    let p = and_parts (ways o x y).there (place_ways (ways_of o xs) ys).there h in
    and_place ((sxs.0 y).0 p.0) (places_there o xs sxs.1 ys p.1)

places_back : (o : MroTable) (xs : Tys) → AreSound o xs → (ys : Tys) → (place_ways (ways_of o xs) ys).back ≡ true → Places o ys xs
places_back o nil sxs nil h = no_place
places_back o nil sxs (cons y ys) h = absurd (false≢true h)
places_back o (cons x xs) sxs nil h = absurd (false≢true h)
places_back o (cons x xs) sxs (cons y ys) h =
    let p = and_parts (ways o x y).back (place_ways (ways_of o xs) ys).back h in
    and_place ((sxs.0 y).1 p.0) (places_back o xs sxs.1 ys p.1)

tuple_sound : (o : MroTable) (xs : Tys) → AreSound o xs → (b : Ty) → Shows o (tuple xs) b (tuple_rule (ways_of o xs) b)
tuple_sound o xs sxs any = (λ e. absurd (false≢true e), λ e. absurd (false≢true e))
tuple_sound o xs sxs none = (λ e. absurd (false≢true e), λ e. absurd (false≢true e))
tuple_sound o xs sxs (module_type m) = (λ e. absurd (false≢true e), λ e. absurd (false≢true e))
tuple_sound o xs sxs (instance d) = (λ e. absurd (false≢true e), λ e. absurd (false≢true e))
tuple_sound o xs sxs (class_object d) = (λ e. absurd (false≢true e), λ e. absurd (false≢true e))
tuple_sound o xs sxs (list y) = (λ e. absurd (false≢true e), λ e. absurd (false≢true e))
tuple_sound o xs sxs (dict l w) = (λ e. absurd (false≢true e), λ e. absurd (false≢true e))
tuple_sound o xs sxs (tuple ys) = (λ h. by_places (places_there o xs sxs ys h), λ h. by_places (places_back o xs sxs ys h))
tuple_sound o xs sxs (tuple_of y) = (λ h. each_place (gathered_every o xs sxs y h), λ h. absurd (false≢true h))
tuple_sound o xs sxs (union ys) = (λ e. absurd (false≢true e), λ e. absurd (false≢true e))
tuple_sound o xs sxs (callable qs s) = (λ e. absurd (false≢true e), λ e. absurd (false≢true e))

tuple_of_sound : (o : MroTable) (x : Ty) → IsSound o x → (b : Ty) → Shows o (tuple_of x) b (tuple_of_rule (ways o x) b)
tuple_of_sound o x sx any = (λ e. absurd (false≢true e), λ e. absurd (false≢true e))
tuple_of_sound o x sx none = (λ e. absurd (false≢true e), λ e. absurd (false≢true e))
tuple_of_sound o x sx (module_type m) = (λ e. absurd (false≢true e), λ e. absurd (false≢true e))
tuple_of_sound o x sx (instance d) = (λ e. absurd (false≢true e), λ e. absurd (false≢true e))
tuple_of_sound o x sx (class_object d) = (λ e. absurd (false≢true e), λ e. absurd (false≢true e))
tuple_of_sound o x sx (list y) = (λ e. absurd (false≢true e), λ e. absurd (false≢true e))
tuple_of_sound o x sx (dict l w) = (λ e. absurd (false≢true e), λ e. absurd (false≢true e))
tuple_of_sound o x sx (tuple ys) = (λ h. absurd (false≢true h), λ h. each_place (all_back_every o x sx ys h))
tuple_of_sound o x sx (tuple_of y) = (λ h. any_length ((sx y).0 h), λ h. any_length ((sx y).1 h))
tuple_of_sound o x sx (union ys) = (λ e. absurd (false≢true e), λ e. absurd (false≢true e))
tuple_of_sound o x sx (callable qs s) = (λ e. absurd (false≢true e), λ e. absurd (false≢true e))

any_sound : (o : MroTable) → IsSound o any
any_sound o b = (λ h. from_any, λ h. to_any)

-- the instances of a class, by its form
made_sound : (o : MroTable) (f : InstanceForm) (c : Id) (b : Ty) → (form_ways o f c b).there ≡ true → Assignable o (instance_in f c) b
made_sound o form.List c b h = (into_sound o (list any) refl (list_rule any_ways) (list_sound o any (any_sound o)) b).0 h
made_sound o form.Dict c b h = (into_sound o (dict any any) refl (dict_rule any_ways any_ways) (dict_sound o any any (any_sound o) (any_sound o)) b).0 h
made_sound o form.Tuple c b h = (into_sound o (tuple_of any) refl (tuple_of_rule any_ways) (tuple_of_sound o any (any_sound o)) b).0 h
made_sound o form.Plain c b h = (into_sound o (instance c) refl (instance_rule o c) (instance_sound o c) b).0 h

class_sound : (o : MroTable) (c : Id) (b : Ty) → Shows o (class_object c) b (class_rule o c b)
class_sound o c any = (λ e. absurd (false≢true e), λ e. absurd (false≢true e))
class_sound o c none = (λ e. absurd (false≢true e), λ e. absurd (false≢true e))
class_sound o c (module_type m) = (λ e. absurd (false≢true e), λ e. absurd (false≢true e))
class_sound o c (instance d) = (λ e. absurd (false≢true e), λ e. absurd (false≢true e))
class_sound o c (class_object d) = (λ h. class_objects h, λ h. class_objects h)
class_sound o c (list y) = (λ e. absurd (false≢true e), λ e. absurd (false≢true e))
class_sound o c (dict l w) = (λ e. absurd (false≢true e), λ e. absurd (false≢true e))
class_sound o c (tuple ys) = (λ e. absurd (false≢true e), λ e. absurd (false≢true e))
class_sound o c (tuple_of y) = (λ e. absurd (false≢true e), λ e. absurd (false≢true e))
class_sound o c (union ys) = (λ e. absurd (false≢true e), λ e. absurd (false≢true e))
class_sound o c (callable qs s) = (λ h. makes (made_sound o (form_of c) c s h), λ h. absurd (false≢true h))

-- what the test shows of the type of each parameter
abbrev ListedSound : MroTable → Listed → Type 0
ListedSound o ps = (i : ℕ) (p : Ty) → type_at ps i ≡ Some p → IsSound o p

abbrev ParamsSound : MroTable → Params → Type 0
ParamsSound o dots = Unit
ParamsSound o (listed ps) = ListedSound o ps

callables_sound : (o : MroTable) (ps : Params) → ParamsSound o ps → (r : Ty) → IsSound o r → (qs : Params) (s : Ty) → Shows o (callable ps r) (callable qs s) (meet (params_ways ps (params_ways_of o ps) qs) (ways o r s))
callables_sound o dots sps r sr qs s = (
  λ h. any_arguments refl ((sr s).0 (and_parts true (ways o r s).there h).1),
  λ h. any_arguments (or_right (is_dots qs) true refl) ((sr s).1 (and_parts true (ways o r s).back h).1),
)
callables_sound o (listed ps) sps r sr dots s = (
  λ h. any_arguments refl ((sr s).0 (and_parts true (ways o r s).there h).1),
  λ h. any_arguments refl ((sr s).1 (and_parts true (ways o r s).back h).1),
)
callables_sound o (listed ps) sps r sr (listed qs) s = (
  λ h.
      let p = and_parts (listed_ways (slots_of ps) (listed_ways_of o ps) qs).there (ways o r s).there h in
      let q = and_parts (fits (slots_of ps) (slots_of qs)) _ p.0 in
      callables q.0 (λ i j x y a b serving. (sps i x a y).1 (served_there o ps qs i j x y a b q.1 serving)) ((sr s).0 p.1),
  λ h.
      let p = and_parts (listed_ways (slots_of ps) (listed_ways_of o ps) qs).back (ways o r s).back h in
      let q = and_parts (fits (slots_of qs) (slots_of ps)) _ p.0 in
      callables q.0 (λ j i y x b a serving. (sps i x a y).0 (served_back o ps qs i j x y a b q.1 serving)) ((sr s).1 p.1),
)

callable_sound : (o : MroTable) (ps : Params) → ParamsSound o ps → (r : Ty) → IsSound o r → (b : Ty) → Shows o (callable ps r) b (callable_rule o ps (params_ways_of o ps) (ways o r) b)
callable_sound o ps sps r sr any = (λ e. absurd (false≢true e), λ e. absurd (false≢true e))
callable_sound o ps sps r sr none = (λ e. absurd (false≢true e), λ e. absurd (false≢true e))
callable_sound o ps sps r sr (module_type m) = (λ e. absurd (false≢true e), λ e. absurd (false≢true e))
callable_sound o ps sps r sr (instance d) = (λ h. absurd (false≢true h), λ h. with_call h)
callable_sound o ps sps r sr (class_object d) = (λ h. absurd (false≢true h), λ h. makes ((sr (instance_of d)).1 h))
callable_sound o ps sps r sr (list y) = (λ e. absurd (false≢true e), λ e. absurd (false≢true e))
callable_sound o ps sps r sr (dict l w) = (λ e. absurd (false≢true e), λ e. absurd (false≢true e))
callable_sound o ps sps r sr (tuple ys) = (λ e. absurd (false≢true e), λ e. absurd (false≢true e))
callable_sound o ps sps r sr (tuple_of y) = (λ e. absurd (false≢true e), λ e. absurd (false≢true e))
callable_sound o ps sps r sr (union ys) = (λ e. absurd (false≢true e), λ e. absurd (false≢true e))
callable_sound o ps sps r sr (callable qs s) = callables_sound o ps sps r sr qs s

-- ---- unions

module _ (o : MroTable) (xs : Tys) (sxs : AreSound o xs) where
  mutual
    back_to_sound : (b : Ty) → back_to o (ways_of o xs) b ≡ true → Assignable o b (union xs)
    back_to_sound any h = from_any
    back_to_sound none h = some_item refl (gathered_some o xs sxs none h)
    back_to_sound (module_type m) h = some_item refl (gathered_some o xs sxs (module_type m) h)
    back_to_sound (instance d) h =
        elim (or_cases (gathered (ways_of o xs) (instance d)).back (is_unknown (o d)) h) [
          | inl some ↦ some_item refl (gathered_some o xs sxs (instance d) some)
          | inr unknown ↦ of_unknown unknown
        ]
    back_to_sound (class_object d) h = some_item refl (gathered_some o xs sxs (class_object d) h)
    back_to_sound (list y) h = some_item refl (gathered_some o xs sxs (list y) h)
    back_to_sound (dict l w) h = some_item refl (gathered_some o xs sxs (dict l w) h)
    back_to_sound (tuple ys) h = some_item refl (gathered_some o xs sxs (tuple ys) h)
    back_to_sound (tuple_of y) h = some_item refl (gathered_some o xs sxs (tuple_of y) h)
    back_to_sound (union ys) h = each_item (back_to_every ys h)
    back_to_sound (callable qs s) h = some_item refl (gathered_some o xs sxs (callable qs s) h)

    back_to_every : (bs : Tys) → all_back_to o (ways_of o xs) bs ≡ true → Every o bs (union xs)
    back_to_every nil h = no_more
    back_to_every (cons b bs) h =
        let p = and_parts (back_to o (ways_of o xs) b) (all_back_to o (ways_of o xs) bs) h in
        and_more (back_to_sound b p.0) (back_to_every bs p.1)

  union_sound : (b : Ty) → Shows o (union xs) b (union_rule o (ways_of o xs) b)
  union_sound b = (
    λ h.
        elim (or_cases (gathered (ways_of o xs) b).there (is_any b || is_object b) h) [
          | inl every ↦ each_item (gathered_every o xs sxs b every)
          | inr simple ↦ elim (or_cases (is_any b) (is_object b) simple) [ inl target ↦ any_target o (union xs) b target | inr target ↦ object_target o (union xs) b target ]
        ],
    back_to_sound b,
  )

-- ---- all types

mutual
  -- where the test answers yes, the rules lead
  pub sound : (o : MroTable) (a : Ty) → IsSound o a
  sound o any = any_sound o
  sound o none = into_sound o none refl none_rule (none_sound o)
  sound o (module_type m) = into_sound o (module_type m) refl (λ b. both false false) (module_sound o)
  sound o (instance c) = into_sound o (instance c) refl (instance_rule o c) (instance_sound o c)
  sound o (class_object c) = into_sound o (class_object c) refl (class_rule o c) (class_sound o c)
  sound o (list x) = into_sound o (list x) refl (list_rule (ways o x)) (list_sound o x (sound o x))
  sound o (dict k v) = into_sound o (dict k v) refl (dict_rule (ways o k) (ways o v)) (dict_sound o k v (sound o k) (sound o v))
  sound o (tuple xs) = into_sound o (tuple xs) refl (tuple_rule (ways_of o xs)) (tuple_sound o xs (are_sound o xs))
  sound o (tuple_of x) = into_sound o (tuple_of x) refl (tuple_of_rule (ways o x)) (tuple_of_sound o x (sound o x))
  sound o (union xs) = union_sound o xs (are_sound o xs)
  sound o (callable ps r) =
      into_sound o (callable ps r) refl (callable_rule o ps (params_ways_of o ps) (ways o r)) (callable_sound o ps (params_sound o ps) r (sound o r))

  are_sound : (o : MroTable) (xs : Tys) → AreSound o xs
  are_sound o nil = tt
  are_sound o (cons x xs) = (sound o x, are_sound o xs)

  params_sound : (o : MroTable) (ps : Params) → ParamsSound o ps
  params_sound o dots = tt
  params_sound o (listed ps) = listed_sound o ps

  listed_sound : (o : MroTable) (ps : Listed) → ListedSound o ps
  listed_sound o no_param i p at = absurd (none≢some at)
  listed_sound o (param slot t ps) zero p at = subst (IsSound o) (some_is at) (sound o t)
  listed_sound o (param slot t ps) (suc i) p at = listed_sound o ps i p at
