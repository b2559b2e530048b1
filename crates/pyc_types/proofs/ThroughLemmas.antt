-- What goes to a type goes to all that this one goes to.
use Rattle.std.proofs.Common.{◌≡◌, true, false, ◌||◌, not, map, ◌⊎◌, ℕ, List, IsTrue, inl, inr, refl, sym, ◌∙◌, subst}
use Rattle.std.proofs.lemmas.Bool.{false≢true, or_cases, or_left, not-true, both_ways}
use Rattle.std.specs.List.{list_any}
use Rattle.pyc_class_ids.specs.declared.builtin_class.BuiltinClass.{BuiltinClass}
use Rattle.pyc_class_ids.specs.declared.builtin_class.BuiltinClass.TheVariants as class
use Rattle.pyc_class_ids.specs.Class.{Id, builtin, same_class, object_id, int_id, float_id}
use Rattle.pyc_class_ids.specs.ClassEquality.{same_class_equiv}
use Rattle.pyc_class_ids.specs.Mro.{Mro, MroTable, leads, is_unknown}
use Rattle.pyc_type_forms.specs.Types.{Ty, Tys, any, none, module_type, instance, class_object, list, dict, tuple, tuple_of, union, callable, nil, cons}
use Rattle.pyc_builtins.specs.MroTable.{builtin_order}
use Rattle.pyc_types.specs.Assignable.{Assignable, Every, ToSome, Places, from_any, to_any, of_unknown, each_item, some_item, nothing, to_object, along, to_float, lists, dicts, by_places, each_place, any_length, class_objects, with_call, makes, no_more, and_more, this_item, later_item, no_place, and_place, is_union}
use Rattle.pyc_types.specs.MroLaws.{IsPlain, IsPlainRow, HoldsMros, HasBuiltins, AreOrderly, IsTransitive}
use Rattle.pyc_types.proofs.ClassLemmas.{is_builtin}
use Rattle.pyc_types.proofs.ItselfLemmas.{each_of}
use Rattle.pyc_types.proofs.Rules.{meets_the_rules}

-- ---- classes

-- an order that is known is not unknown
known_alone : (r : Mro) → IsTrue (not (is_unknown r)) → IsTrue (is_unknown r) → ⊥
known_alone r known unknown = both_ways (is_unknown r) (not-true (is_unknown r) known) unknown

-- what stands in the order of a builtin class
in_builtin : (o : MroTable) → HasBuiltins o → (b : BuiltinClass) (e : Id) → IsTrue (leads o (builtin b) e) → list_any (λ other. same_class other e) (map builtin (builtin_order b)) ≡ true
in_builtin o has b e led = subst (λ classes. list_any (λ other. same_class other e) classes ≡ true) (has b) led

-- object's order holds object alone
in_object : (o : MroTable) → HasBuiltins o → (d e : Id) → IsTrue (same_class d object_id) → IsTrue (leads o d e) → IsTrue (same_class e object_id)
in_object o has d e is led =
    elim (or_cases (same_class object_id e) false (in_builtin o has class.Object e (subst (λ k. IsTrue (leads o k e)) (is_builtin d class.Object is) led))) [
      | inl same ↦ same_class_equiv.symm e object_id ∙ same
      | inr nowhere ↦ absurd (false≢true nowhere)
    ]

-- float's order holds float and object alone
in_float : (o : MroTable) → HasBuiltins o → (d e : Id) → IsTrue (same_class d float_id) → IsTrue (leads o d e) → IsTrue (same_class e float_id) ⊎ IsTrue (same_class e object_id)
in_float o has d e is led =
    elim (or_cases (same_class float_id e) (same_class object_id e || false) (in_builtin o has class.Float e (subst (λ k. IsTrue (leads o k e)) (is_builtin d class.Float is) led))) [
      | inl same ↦ inl (same_class_equiv.symm e float_id ∙ same)
      | inr later ↦ elim (or_cases (same_class object_id e) false later) [ inl same ↦ inr (same_class_equiv.symm e object_id ∙ same) | inr nowhere ↦ absurd (false≢true nowhere) ]
    ]

-- ---- through a type that is no union, between types that are none

-- through a type, from any plain one to any plain one
abbrev Through : MroTable → Ty → Type 0
Through o b = (a c : Ty) → IsPlain o a → IsPlain o c → Assignable o a b → Assignable o b c → Assignable o a c

-- through each type of a row, from any plain one to any plain one
abbrev ThroughEach : MroTable → Tys → Type 0
ThroughEach o nil = Unit
ThroughEach o (cons y ys) = Through o y × ThroughEach o ys

-- through a type, between types that are no unions
abbrev Direct : MroTable → Ty → Type 0
Direct o b = (a c : Ty) → is_union a ≡ false → is_union c ≡ false → IsPlain o a → IsPlain o c → Assignable o a b → Assignable o b c → Assignable o a c

no_union : {P : Type 0} → true ≡ false → P
no_union e = absurd (false≢true (sym e))

direct_none : {o : MroTable} {a c : Ty} → is_union a ≡ false → Assignable o a none → Assignable o none c → Assignable o a c
direct_none sa from_any q = from_any
direct_none sa (of_unknown u) q = of_unknown u
direct_none sa (each_item every) q = no_union sa
direct_none sa nothing q = q

direct_module : {o : MroTable} {a c : Ty} {m : List (List ℕ)} → is_union a ≡ false → Assignable o a (module_type m) → Assignable o (module_type m) c → Assignable o a c
direct_module sa from_any q = from_any
direct_module sa (of_unknown u) q = of_unknown u
direct_module sa (each_item every) q = no_union sa

object_on : {o : MroTable} {a c : Ty} → HasBuiltins o → (d : Id) → IsTrue (not (is_unknown (o d))) → IsTrue (same_class d object_id) → is_union c ≡ false → IsPlain o c → Assignable o (instance d) c → Assignable o a c
object_on has d known is sc pc to_any = to_any
object_on {o} has d known is sc pc (of_unknown u) = absurd (known_alone (o d) known u)
object_on has d known is sc pc (some_item plain some) = no_union sc
object_on has d known is sc pc (to_object same) = to_object same
object_on {o} has d known is sc pc (along {d = e} led) = to_object (in_object o has d e is led)
object_on {o} has d known is sc pc (to_float led same) = absurd (false≢true (in_object o has d int_id is led))
object_on has d known is sc pc (with_call h) = absurd pc

along_on : {o : MroTable} {c : Ty} → HoldsMros o → (e d : Id) → IsTrue (not (is_unknown (o e))) → IsTrue (not (is_unknown (o d))) → IsTrue (leads o e d) → is_union c ≡ false → IsPlain o c → Assignable o (instance d) c → Assignable o (instance e) c
along_on holds e d before known first sc pc to_any = to_any
along_on {o} holds e d before known first sc pc (of_unknown u) = absurd (known_alone (o d) known u)
along_on holds e d before known first sc pc (some_item plain some) = no_union sc
along_on holds e d before known first sc pc (to_object same) = to_object same
along_on holds e d before known first sc pc (along {d = f} led) = along (holds e d f before first led)
along_on holds e d before known first sc pc (to_float led same) = to_float (holds e d int_id before first led) same
along_on holds e d before known first sc pc (with_call h) = absurd pc

float_on : {o : MroTable} {c : Ty} → HasBuiltins o → (e d : Id) → IsTrue (not (is_unknown (o d))) → IsTrue (leads o e int_id) → IsTrue (same_class d float_id) → is_union c ≡ false → IsPlain o c → Assignable o (instance d) c → Assignable o (instance e) c
float_on has e d known first is sc pc to_any = to_any
float_on {o} has e d known first is sc pc (of_unknown u) = absurd (known_alone (o d) known u)
float_on has e d known first is sc pc (some_item plain some) = no_union sc
float_on has e d known first is sc pc (to_object same) = to_object same
float_on {o} has e d known first is sc pc (along {d = f} led) = elim (in_float o has d f is led) [ inl float ↦ to_float first float | inr object ↦ to_object object ]
float_on has e d known first is sc pc (to_float led same) = to_float first same
float_on has e d known first is sc pc (with_call h) = absurd pc

direct_instance : {o : MroTable} {a c : Ty} → AreOrderly o → (d : Id) → IsTrue (not (is_unknown (o d))) → is_union a ≡ false → is_union c ≡ false → IsPlain o a → IsPlain o c → Assignable o a (instance d) → Assignable o (instance d) c → Assignable o a c
direct_instance orderly d known sa sc pa pc from_any q = from_any
direct_instance orderly d known sa sc pa pc (of_unknown u) q = of_unknown u
direct_instance orderly d known sa sc pa pc (each_item every) q = no_union sa
direct_instance orderly d known sa sc pa pc (to_object is) q = object_on orderly.1 d known is sc pc q
direct_instance orderly d known sa sc pa pc (along {c = e} led) q = along_on orderly.0 e d pa known led sc pc q
direct_instance orderly d known sa sc pa pc (to_float {c = e} led is) q = float_on orderly.1 e d known led is sc pc q

-- a class of known order has another in it
led_of : (o : MroTable) (c d : Id) → IsTrue (not (is_unknown (o c))) → IsTrue (leads o c d || is_unknown (o c)) → IsTrue (leads o c d)
led_of o c d known h = elim (or_cases (leads o c d) (is_unknown (o c)) h) [ inl led ↦ led | inr unknown ↦ absurd (known_alone (o c) known unknown) ]

class_on : {o : MroTable} {c : Ty} → HoldsMros o → (e d : Id) → IsTrue (not (is_unknown (o e))) → IsTrue (not (is_unknown (o d))) → IsTrue (leads o e d) → is_union c ≡ false → IsPlain o c → Assignable o (class_object d) c → Assignable o (class_object e) c
class_on holds e d before known first sc pc to_any = to_any
class_on holds e d before known first sc pc (some_item plain some) = no_union sc
class_on holds e d before known first sc pc (to_object same) = to_object same
class_on {o} holds e d before known first sc pc (class_objects {d = f} h) = class_objects (or_left (leads o e f) (is_unknown (o e)) (holds e d f before first (led_of o d f known h)))
class_on holds e d before known first sc pc (makes p) = absurd pc

direct_class : {o : MroTable} {a c : Ty} → HoldsMros o → (d : Id) → IsTrue (not (is_unknown (o d))) → is_union a ≡ false → is_union c ≡ false → IsPlain o a → IsPlain o c → Assignable o a (class_object d) → Assignable o (class_object d) c → Assignable o a c
direct_class holds d known sa sc pa pc from_any q = from_any
direct_class holds d known sa sc pa pc (of_unknown u) q = of_unknown u
direct_class holds d known sa sc pa pc (each_item every) q = no_union sa
direct_class {o} holds d known sa sc pa pc (class_objects {c = e} h) q = class_on holds e d pa known (led_of o e d pa h) sc pc q

list_on : {o : MroTable} {c : Ty} (x y : Ty) → Through o y → IsPlain o x → Assignable o x y → Assignable o y x → is_union c ≡ false → IsPlain o c → Assignable o (list y) c → Assignable o (list x) c
list_on x y through px there back sc pc to_any = to_any
list_on x y through px there back sc pc (some_item plain some) = no_union sc
list_on x y through px there back sc pc (to_object same) = to_object same
list_on x y through px there back sc pc (lists {y = z} p q) = lists (through x z px pc there p) (through z x pc px q back)

direct_list : {o : MroTable} {a c : Ty} (y : Ty) → Through o y → is_union a ≡ false → is_union c ≡ false → IsPlain o a → IsPlain o c → Assignable o a (list y) → Assignable o (list y) c → Assignable o a c
direct_list y through sa sc pa pc from_any q = from_any
direct_list y through sa sc pa pc (of_unknown u) q = of_unknown u
direct_list y through sa sc pa pc (each_item every) q = no_union sa
direct_list y through sa sc pa pc (lists {x = x} there back) q = list_on x y through pa there back sc pc q

module _ (o : MroTable) (l w : Ty) (keys : Through o l) (values : Through o w) where
  dict_on : {c : Ty} (k v : Ty) → IsPlain o k → IsPlain o v → Assignable o k l → Assignable o l k → Assignable o v w → Assignable o w v → is_union c ≡ false → IsPlain o c → Assignable o (dict l w) c → Assignable o (dict k v) c
  dict_on k v pk pv a b e f sc pc to_any = to_any
  dict_on k v pk pv a b e f sc pc (some_item plain some) = no_union sc
  dict_on k v pk pv a b e f sc pc (to_object same) = to_object same
  dict_on k v pk pv a b e f sc pc (dicts {l = m} {w = u} p q r s) =
      dicts (keys k m pk pc.0 a p) (keys m k pc.0 pk q b) (values v u pv pc.1 e r) (values u v pc.1 pv s f)

  direct_dict : {a c : Ty} → is_union a ≡ false → is_union c ≡ false → IsPlain o a → IsPlain o c → Assignable o a (dict l w) → Assignable o (dict l w) c → Assignable o a c
  direct_dict sa sc pa pc from_any q = from_any
  direct_dict sa sc pa pc (of_unknown u) q = of_unknown u
  direct_dict sa sc pa pc (each_item every) q = no_union sa
  direct_dict sa sc pa pc (dicts {k = k} {v = v} a b e f) q = dict_on k v pa.0 pa.1 a b e f sc pc q

places_on : {o : MroTable} {xs ys zs : Tys} → Places o xs ys → Places o ys zs → ThroughEach o ys → IsPlainRow o xs → IsPlainRow o zs → Places o xs zs
places_on no_place no_place each px pz = no_place
places_on (and_place {got = x} p ps) (and_place {want = z} q qs) each px pz = and_place (each.0 x z px.0 pz.0 p q) (places_on ps qs each.1 px.1 pz.1)

places_every : {o : MroTable} {xs ys : Tys} {z : Ty} → Places o xs ys → Every o ys z → ThroughEach o ys → IsPlainRow o xs → IsPlain o z → Every o xs z
places_every no_place no_more each px pz = no_more
places_every {z = z} (and_place {got = x} p ps) (and_more q qs) each px pz = and_more (each.0 x z px.0 pz p q) (places_every ps qs each.1 px.1 pz)

every_on : {o : MroTable} (y : Ty) → Through o y → (xs : Tys) (z : Ty) → IsPlainRow o xs → IsPlain o z → Every o xs y → Assignable o y z → Every o xs z
every_on y through nil z px pz no_more q = no_more
every_on y through (cons x xs) z px pz (and_more p ps) q = and_more (through x z px.0 pz p q) (every_on y through xs z px.1 pz ps q)

tuple_on : {o : MroTable} {c : Ty} (ys : Tys) → ThroughEach o ys → (xs : Tys) → IsPlainRow o xs → Places o xs ys → is_union c ≡ false → IsPlain o c → Assignable o (tuple ys) c → Assignable o (tuple xs) c
tuple_on ys each xs px places sc pc to_any = to_any
tuple_on ys each xs px places sc pc (some_item plain some) = no_union sc
tuple_on ys each xs px places sc pc (to_object same) = to_object same
tuple_on ys each xs px places sc pc (by_places more) = by_places (places_on places more each px pc)
tuple_on ys each xs px places sc pc (each_place every) = each_place (places_every places every each px pc)

direct_tuple : {o : MroTable} {a c : Ty} (ys : Tys) → ThroughEach o ys → is_union a ≡ false → is_union c ≡ false → IsPlain o a → IsPlain o c → Assignable o a (tuple ys) → Assignable o (tuple ys) c → Assignable o a c
direct_tuple ys each sa sc pa pc from_any q = from_any
direct_tuple ys each sa sc pa pc (of_unknown u) q = of_unknown u
direct_tuple ys each sa sc pa pc (each_item every) q = no_union sa
direct_tuple ys each sa sc pa pc (by_places {xs = xs} places) q = tuple_on ys each xs pa places sc pc q

each_on : {o : MroTable} {c : Ty} (y : Ty) → Through o y → (xs : Tys) → IsPlainRow o xs → Every o xs y → is_union c ≡ false → IsPlain o c → Assignable o (tuple_of y) c → Assignable o (tuple xs) c
each_on y through xs px every sc pc to_any = to_any
each_on y through xs px every sc pc (some_item plain some) = no_union sc
each_on y through xs px every sc pc (to_object same) = to_object same
each_on y through xs px every sc pc (any_length {y = z} q) = each_place (every_on y through xs z px pc every q)

length_on : {o : MroTable} {c : Ty} (y : Ty) → Through o y → (x : Ty) → IsPlain o x → Assignable o x y → is_union c ≡ false → IsPlain o c → Assignable o (tuple_of y) c → Assignable o (tuple_of x) c
length_on y through x px p sc pc to_any = to_any
length_on y through x px p sc pc (some_item plain some) = no_union sc
length_on y through x px p sc pc (to_object same) = to_object same
length_on y through x px p sc pc (any_length {y = z} q) = any_length (through x z px pc p q)

direct_tuple_of : {o : MroTable} {a c : Ty} (y : Ty) → Through o y → is_union a ≡ false → is_union c ≡ false → IsPlain o a → IsPlain o c → Assignable o a (tuple_of y) → Assignable o (tuple_of y) c → Assignable o a c
direct_tuple_of y through sa sc pa pc from_any q = from_any
direct_tuple_of y through sa sc pa pc (of_unknown u) q = of_unknown u
direct_tuple_of y through sa sc pa pc (each_item every) q = no_union sa
direct_tuple_of y through sa sc pa pc (each_place {xs = xs} every) q = each_on y through xs pa every sc pc q
direct_tuple_of y through sa sc pa pc (any_length {x = x} p) q = length_on y through x pa p sc pc q

-- ---- from unions and to unions

-- a plain type that is no union goes to a union where it goes to some item
some_of : {o : MroTable} {a : Ty} {ys : Tys} → is_union a ≡ false → IsPlain o a → Assignable o a (union ys) → ToSome o a ys
some_of sa pa from_any = absurd pa
some_of {o} sa pa (of_unknown {c = c} u) = absurd (known_alone (o c) pa u)
some_of sa pa (each_item every) = no_union sa
some_of sa pa (some_item plain some) = some

module _ (o : MroTable) (b : Ty) (single : is_union b ≡ false) (known : IsPlain o b) (direct : Direct o b) where
  module _ (a : Ty) (sa : is_union a ≡ false) (pa : IsPlain o a) (p : Assignable o a b) where
    mutual
      right : (c : Ty) → IsPlain o c → Assignable o b c → Assignable o a c
      right any pc q = to_any
      right none pc q = direct a none sa refl pa pc p q
      right (module_type m) pc q = direct a (module_type m) sa refl pa pc p q
      right (instance e) pc q = direct a (instance e) sa refl pa pc p q
      right (class_object e) pc q = direct a (class_object e) sa refl pa pc p q
      right (list z) pc q = direct a (list z) sa refl pa pc p q
      right (dict k v) pc q = direct a (dict k v) sa refl pa pc p q
      right (tuple zs) pc q = direct a (tuple zs) sa refl pa pc p q
      right (tuple_of z) pc q = direct a (tuple_of z) sa refl pa pc p q
      right (union cs) pc q = some_item sa (right_some cs pc (some_of single known q))
      right (callable ps r) pc q = absurd pc

      right_some : (cs : Tys) → IsPlainRow o cs → ToSome o b cs → ToSome o a cs
      right_some nil pc some = elim some [ ]
      right_some (cons c cs) pc (this_item q) = this_item (right c pc.0 q)
      right_some (cons c cs) pc (later_item some) = later_item (right_some cs pc.1 some)

  mutual
    left : (a c : Ty) → IsPlain o a → IsPlain o c → Assignable o a b → Assignable o b c → Assignable o a c
    left any c pa pc p q = from_any
    left none c pa pc p q = right none refl pa p c pc q
    left (module_type m) c pa pc p q = right (module_type m) refl pa p c pc q
    left (instance e) c pa pc p q = right (instance e) refl pa p c pc q
    left (class_object e) c pa pc p q = right (class_object e) refl pa p c pc q
    left (list z) c pa pc p q = right (list z) refl pa p c pc q
    left (dict k v) c pa pc p q = right (dict k v) refl pa p c pc q
    left (tuple zs) c pa pc p q = right (tuple zs) refl pa p c pc q
    left (tuple_of z) c pa pc p q = right (tuple_of z) refl pa p c pc q
    left (union xs) c pa pc p q = each_item (left_every xs c pa pc (each_of xs p) q)
    left (callable ps r) c pa pc p q = absurd pa

    left_every : (xs : Tys) (c : Ty) → IsPlainRow o xs → IsPlain o c → Every o xs b → Assignable o b c → Every o xs c
    left_every nil c pa pc every q = no_more
    left_every (cons x xs) c pa pc (and_more p every) q = and_more (left x c pa.0 pc p q) (left_every xs c pa.1 pc every q)

-- ---- through unions

through_some : {o : MroTable} (ys : Tys) → ThroughEach o ys → (a c : Ty) → IsPlain o a → IsPlain o c → ToSome o a ys → Every o ys c → Assignable o a c
through_some nil each a c pa pc some every = elim some [ ]
through_some (cons y ys) each a c pa pc (this_item p) (and_more q every) = each.0 a c pa pc p q
through_some (cons y ys) each a c pa pc (later_item some) (and_more q every) = through_some ys each.1 a c pa pc some every

module _ (o : MroTable) (ys : Tys) (each : ThroughEach o ys) where
  mutual
    from_each : (a c : Ty) → IsPlain o a → IsPlain o c → Assignable o a (union ys) → Every o ys c → Assignable o a c
    from_each any c pa pc p every = from_any
    from_each none c pa pc p every = through_some ys each none c pa pc (some_of refl pa p) every
    from_each (module_type m) c pa pc p every = through_some ys each (module_type m) c pa pc (some_of refl pa p) every
    from_each (instance e) c pa pc p every = through_some ys each (instance e) c pa pc (some_of refl pa p) every
    from_each (class_object e) c pa pc p every = through_some ys each (class_object e) c pa pc (some_of refl pa p) every
    from_each (list z) c pa pc p every = through_some ys each (list z) c pa pc (some_of refl pa p) every
    from_each (dict k v) c pa pc p every = through_some ys each (dict k v) c pa pc (some_of refl pa p) every
    from_each (tuple zs) c pa pc p every = through_some ys each (tuple zs) c pa pc (some_of refl pa p) every
    from_each (tuple_of z) c pa pc p every = through_some ys each (tuple_of z) c pa pc (some_of refl pa p) every
    from_each (union xs) c pa pc p every = each_item (from_every xs c pa pc (each_of xs p) every)
    from_each (callable ps r) c pa pc p every = absurd pa

    from_every : (xs : Tys) (c : Ty) → IsPlainRow o xs → IsPlain o c → Every o xs (union ys) → Every o ys c → Every o xs c
    from_every nil c pa pc all every = no_more
    from_every (cons x xs) c pa pc (and_more p all) every = and_more (from_each x c pa.0 pc p every) (from_every xs c pa.1 pc all every)

-- ---- through all types

module _ (o : MroTable) (orderly : AreOrderly o) where
  mutual
    through : (b : Ty) → IsPlain o b → Through o b
    through any h = absurd h
    through none h = left o none refl h (λ a c sa sc pa pc p q. direct_none sa p q)
    through (module_type m) h = left o (module_type m) refl h (λ a c sa sc pa pc p q. direct_module sa p q)
    through (instance d) h = left o (instance d) refl h (λ a c sa sc pa pc p q. direct_instance orderly d h sa sc pa pc p q)
    through (class_object d) h = left o (class_object d) refl h (λ a c sa sc pa pc p q. direct_class orderly.0 d h sa sc pa pc p q)
    through (list y) h = left o (list y) refl h (λ a c sa sc pa pc p q. direct_list y (through y h) sa sc pa pc p q)
    through (dict l w) h = left o (dict l w) refl h (λ a c sa sc pa pc p q. direct_dict o l w (through l h.0) (through w h.1) sa sc pa pc p q)
    through (tuple ys) h = left o (tuple ys) refl h (λ a c sa sc pa pc p q. direct_tuple ys (through_each ys h) sa sc pa pc p q)
    through (tuple_of y) h = left o (tuple_of y) refl h (λ a c sa sc pa pc p q. direct_tuple_of y (through y h) sa sc pa pc p q)
    through (union ys) h = λ a c pa pc p q. from_each o ys (through_each ys h) a c pa pc p (each_of ys q)
    through (callable ps r) h = absurd h

    through_each : (ys : Tys) → IsPlainRow o ys → ThroughEach o ys
    through_each nil h = tt
    through_each (cons y ys) h = (through y h.0, through_each ys h.1)

pub is_transitive : IsTransitive
is_transitive o orderly a b c pa pb pc first second =
    (meets_the_rules o a c).1 (through o orderly b pb a c pa pc ((meets_the_rules o a b).0 first) ((meets_the_rules o b c).0 second))
