-- The test that computes whether one type is assignable to another: one walk for both directions, since the rules for
-- list, dict and callables ask both.
use Rattle.std.specs.Prelude.{Bool, true, false, ◌&&◌, ◌||◌, List, [], ◌∷◌, IsTrue, ◌↔◌}
use Rattle.pyc_class_ids.specs.declared.class_id.InstanceForm.{InstanceForm}
use Rattle.pyc_class_ids.specs.declared.class_id.InstanceForm.TheVariants as form
use Rattle.pyc_class_ids.specs.Class.{Id, same_class, object_id, int_id, float_id, form_of}
use Rattle.pyc_class_ids.specs.Mro.{MroTable, leads, is_unknown}
use Rattle.pyc_type_forms.specs.Types.{Ty, Tys, Params, Listed, any, none, module_type, instance, class_object}
use Rattle.pyc_type_forms.specs.Types.{list, dict, tuple, tuple_of, union, callable, nil, cons, dots, listed, no_param}
use Rattle.pyc_type_forms.specs.Types.{param}
use Rattle.pyc_type_forms.specs.Instances.{instance_of}
use Rattle.pyc_types.specs.declared.ways.Ways.{Ways}
use Rattle.pyc_types.specs.Assignable.{Assignable, slots_of}
use Rattle.pyc_types.specs.Pairs.{both, meet, either, choose, gather, listed_ways}

-- ---- rules that need no part of a type

-- whether a type is Any
abbrev pub is_any : Ty → Bool
is_any any = true
is_any _ = false

-- whether a type is the instances of a class of unknown order
abbrev pub is_unknown_instance : MroTable → Ty → Bool
is_unknown_instance orders (instance c) = is_unknown (orders c)
is_unknown_instance orders _ = false

-- whether a type is object
abbrev pub is_object : Ty → Bool
is_object (instance d) = same_class d object_id
is_object _ = false

-- whether got goes to want by Any, an unknown order or object
abbrev pub is_simple : MroTable → Ty → Ty → Bool
is_simple orders got want = (is_any got || is_any want) || (is_unknown_instance orders got || is_object want)

-- the ways with those of the simple rules
abbrev pub with_simple : MroTable → Ty → Ty → Ways → Ways
with_simple orders a b ways = either ways (both (is_simple orders a b) (is_simple orders b a))

-- ---- the rules of each form

-- both ways, where both are there
abbrev pub invariant : Ways → Ways
invariant ways = both (ways.there && ways.back) (ways.there && ways.back)

-- whether an instance of c goes to d by the order of c, or to float
abbrev pub instance_goes : MroTable → Id → Id → Bool
instance_goes orders c d = leads orders c d || (leads orders c int_id && same_class d float_id)

-- whether the class object of c goes to that of d
abbrev pub class_goes : MroTable → Id → Id → Bool
class_goes orders c d = leads orders c d || is_unknown (orders c)

abbrev pub none_rule : Ty → Ways
none_rule none = both true true
none_rule _ = both false false

abbrev pub instance_rule : MroTable → Id → Ty → Ways
instance_rule orders c (instance d) = both (instance_goes orders c d) (instance_goes orders d c)
instance_rule orders c (callable params result) = both (orders c).has_call false
instance_rule orders c _ = both false false

abbrev pub list_rule : (Ty → Ways) → Ty → Ways
list_rule item (list other) = invariant (item other)
list_rule item _ = both false false

abbrev pub dict_rule : (Ty → Ways) → (Ty → Ways) → Ty → Ways
dict_rule key value (dict k v) = meet (invariant (key k)) (invariant (value v))
dict_rule key value _ = both false false

-- fixed tuples, place by place
abbrev pub place_ways : List (Ty → Ways) → Tys → Ways
place_ways [] nil = both true true
place_ways (item ∷ items) (cons other others) = meet (item other) (place_ways items others)
place_ways _ _ = both false false

-- the ways between some types and one: each of them there, some of them back
abbrev pub gathered : List (Ty → Ways) → Ty → Ways
gathered [] want = both true false
gathered (item ∷ items) want = gather (item want) (gathered items want)

-- whether each type of a row goes back to one
abbrev pub all_back : (Ty → Ways) → Tys → Bool
all_back item nil = true
all_back item (cons other others) = (item other).back && all_back item others

abbrev pub tuple_rule : List (Ty → Ways) → Ty → Ways
tuple_rule items (tuple others) = place_ways items others
tuple_rule items (tuple_of other) = both (gathered items other).there false
tuple_rule items _ = both false false

abbrev pub tuple_of_rule : (Ty → Ways) → Ty → Ways
tuple_of_rule item (tuple others) = both false (all_back item others)
tuple_of_rule item (tuple_of other) = item other
tuple_of_rule item _ = both false false

-- the ways between what two callables take, the first in its parts
abbrev pub params_ways : Params → List (Ty → Ways) → Params → Ways
params_ways dots ways qs = both true true
params_ways (listed ps) ways dots = both true true
params_ways (listed ps) ways (listed qs) = listed_ways (slots_of ps) ways qs

abbrev pub callable_rule : MroTable → Params → List (Ty → Ways) → (Ty → Ways) → Ty → Ways
callable_rule orders ps params result (callable qs s) = meet (params_ways ps params qs) (result s)
callable_rule orders ps params result (instance d) = both false (orders d).has_call
callable_rule orders ps params result (class_object d) = both false (result (instance_of d)).back
callable_rule orders ps params result _ = both false false

-- ---- unions on the way

abbrev mutual
  -- the ways between a type that is no union and any type: into a union by some item, from one by each
  pub into : MroTable → Ty → (Ty → Ways) → Ty → Ways
  into orders a rule any = with_simple orders a any (rule any)
  into orders a rule none = with_simple orders a none (rule none)
  into orders a rule (module_type m) = with_simple orders a (module_type m) (rule (module_type m))
  into orders a rule (instance d) = with_simple orders a (instance d) (rule (instance d))
  into orders a rule (class_object d) = with_simple orders a (class_object d) (rule (class_object d))
  into orders a rule (list b) = with_simple orders a (list b) (rule (list b))
  into orders a rule (dict k v) = with_simple orders a (dict k v) (rule (dict k v))
  into orders a rule (tuple bs) = with_simple orders a (tuple bs) (rule (tuple bs))
  into orders a rule (tuple_of b) = with_simple orders a (tuple_of b) (rule (tuple_of b))
  into orders a rule (union bs) = with_simple orders a (union bs) (into_items orders a rule bs)
  into orders a rule (callable ps r) = with_simple orders a (callable ps r) (rule (callable ps r))

  pub into_items : MroTable → Ty → (Ty → Ways) → Tys → Ways
  into_items orders a rule nil = both false true
  into_items orders a rule (cons b bs) =
      choose (into orders a rule b) (into_items orders a rule bs)

-- the ways between an instance of a class and any type
abbrev pub instance_ways : MroTable → Id → Ty → Ways
instance_ways orders c = into orders (instance c) (instance_rule orders c)

-- the ways between Any and any type
abbrev pub any_ways : Ty → Ways
any_ways b = both true true

-- the type of the instances of list, dict or tuple
abbrev pub bare_type : InstanceForm → Ty
bare_type form.List = list any
bare_type form.Dict = dict any any
bare_type form.Tuple = tuple_of any
bare_type form.Plain = none

-- its rule
abbrev pub bare_rule : InstanceForm → Ty → Ways
bare_rule form.List = list_rule any_ways
bare_rule form.Dict = dict_rule any_ways any_ways
bare_rule form.Tuple = tuple_of_rule any_ways
bare_rule form.Plain = λ b. both false false

-- the ways between the instances of list, dict or tuple and any type
abbrev pub bare_ways : MroTable → InstanceForm → Ty → Ways
bare_ways orders form = into orders (bare_type form) (bare_rule form)

-- the ways between the instances of a class of this form and any type
abbrev pub form_ways : MroTable → InstanceForm → Id → Ty → Ways
form_ways orders form.List c = bare_ways orders form.List
form_ways orders form.Dict c = bare_ways orders form.Dict
form_ways orders form.Tuple c = bare_ways orders form.Tuple
form_ways orders form.Plain c = instance_ways orders c

abbrev pub class_rule : MroTable → Id → Ty → Ways
class_rule orders c (class_object d) = both (class_goes orders c d) (class_goes orders d c)
class_rule orders c (callable params result) = both (form_ways orders (form_of c) c result).there false
class_rule orders c _ = both false false

abbrev mutual
  -- whether any type goes to some item of a union: a union by each of its own
  pub back_to : MroTable → List (Ty → Ways) → Ty → Bool
  back_to orders items any = true
  back_to orders items none = (gathered items none).back
  back_to orders items (module_type m) = (gathered items (module_type m)).back
  back_to orders items (instance d) = (gathered items (instance d)).back || is_unknown (orders d)
  back_to orders items (class_object d) = (gathered items (class_object d)).back
  back_to orders items (list b) = (gathered items (list b)).back
  back_to orders items (dict k v) = (gathered items (dict k v)).back
  back_to orders items (tuple bs) = (gathered items (tuple bs)).back
  back_to orders items (tuple_of b) = (gathered items (tuple_of b)).back
  back_to orders items (union bs) = all_back_to orders items bs
  back_to orders items (callable ps r) = (gathered items (callable ps r)).back

  pub all_back_to : MroTable → List (Ty → Ways) → Tys → Bool
  all_back_to orders items nil = true
  all_back_to orders items (cons b bs) = back_to orders items b && all_back_to orders items bs

-- the ways between a union and any type
abbrev pub union_rule : MroTable → List (Ty → Ways) → Ty → Ways
union_rule orders items b = both ((gathered items b).there || (is_any b || is_object b)) (back_to orders items b)

-- ---- all types

abbrev mutual
  -- whether the first type goes to the second, and the second to the first
  pub ways : MroTable → Ty → Ty → Ways
  ways orders any = any_ways
  ways orders none = into orders none none_rule
  ways orders (module_type m) = into orders (module_type m) (λ b. both false false)
  ways orders (instance c) = instance_ways orders c
  ways orders (class_object c) = into orders (class_object c) (class_rule orders c)
  ways orders (list x) = into orders (list x) (list_rule (ways orders x))
  ways orders (dict k v) = into orders (dict k v) (dict_rule (ways orders k) (ways orders v))
  ways orders (tuple xs) = into orders (tuple xs) (tuple_rule (ways_of orders xs))
  ways orders (tuple_of x) = into orders (tuple_of x) (tuple_of_rule (ways orders x))
  ways orders (union xs) = union_rule orders (ways_of orders xs)
  ways orders (callable ps r) =
      into orders (callable ps r) (callable_rule orders ps (params_ways_of orders ps) (ways orders r))

  pub ways_of : MroTable → Tys → List (Ty → Ways)
  ways_of orders nil = []
  ways_of orders (cons x xs) = ways orders x ∷ ways_of orders xs

  pub params_ways_of : MroTable → Params → List (Ty → Ways)
  params_ways_of orders dots = []
  params_ways_of orders (listed ps) = listed_ways_of orders ps

  pub listed_ways_of : MroTable → Listed → List (Ty → Ways)
  listed_ways_of orders no_param = []
  listed_ways_of orders (param slot ty params) = ways orders ty ∷ listed_ways_of orders params

-- the rule of a type's own form, unions of the other type left aside
abbrev pub own_rule : MroTable → Ty → Ty → Ways
own_rule orders any = any_ways
own_rule orders none = none_rule
own_rule orders (module_type m) = λ b. both false false
own_rule orders (instance c) = instance_rule orders c
own_rule orders (class_object c) = class_rule orders c
own_rule orders (list x) = list_rule (ways orders x)
own_rule orders (dict k v) = dict_rule (ways orders k) (ways orders v)
own_rule orders (tuple xs) = tuple_rule (ways_of orders xs)
own_rule orders (tuple_of x) = tuple_of_rule (ways orders x)
own_rule orders (union xs) = union_rule orders (ways_of orders xs)
own_rule orders (callable ps r) = callable_rule orders ps (params_ways_of orders ps) (ways orders r)

-- whether got is assignable to want, by the test that computes
abbrev pub assignable : MroTable → Ty → Ty → Bool
assignable orders got want = (ways orders got want).there

-- the test answers yes exactly where the rules lead, for all orders and types
abbrev pub MeetsTheRules : Type 0
MeetsTheRules = (orders : MroTable) (got want : Ty) → IsTrue (assignable orders got want) ↔ Assignable orders got want
