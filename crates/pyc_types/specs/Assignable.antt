-- When a value of one type may stand where another type is wanted (typing specification, "Type system concepts").
use Rattle.std.specs.Prelude.{ℕ, zero, suc, Bool, true, false, ◌||◌, List, [], ◌∷◌, Option, None, Some, IsTrue, ◌≡◌}
use Rattle.pyc_class_ids.specs.Class.{Id, same_class, object_id, int_id, float_id}
use Rattle.pyc_class_ids.specs.Mro.{MroTable, leads, is_unknown}
use Rattle.pyc_type_forms.specs.Types.{Slot, Ty, Tys, Params, Listed, any, none, instance, class_object, list, dict}
use Rattle.pyc_type_forms.specs.Types.{tuple, tuple_of, union, callable, nil, cons, dots, listed, no_param, param}
use Rattle.pyc_type_forms.specs.Instances.{instance_of}
use Rattle.pyc_types.specs.Parameters.{fits, serves}

-- whether a type is a union
abbrev pub is_union : Ty → Bool
is_union (union items) = true
is_union _ = false

-- whether a call takes any arguments
abbrev pub is_dots : Params → Bool
is_dots dots = true
is_dots (listed params) = false

-- the parameters of a row apart from their types
abbrev pub slots_of : Listed → List Slot
slots_of no_param = []
slots_of (param slot ty params) = slot ∷ slots_of params

-- the type of the n-th parameter
abbrev pub type_at : Listed → ℕ → Option Ty
type_at no_param n = None
type_at (param slot ty params) zero = Some ty
type_at (param slot ty params) (suc n) = type_at params n

mutual
  -- the type on the left is assignable to the one on the right, by exactly these rules
  pub data Assignable (orders : MroTable) : Ty → Ty → Type 0 where
    -- any source: Any is assignable to every type
    from_any : {want : Ty} → Assignable orders any want
    -- any target: every type is assignable to Any
    to_any : {got : Ty} → Assignable orders got any
    -- unknown order: an instance of a class of unknown order is assignable to every type
    of_unknown : {c : Id} {want : Ty} → IsTrue (is_unknown (orders c)) → Assignable orders (instance c) want
    -- union source: a union is assignable where each of its items is
    each_item : {items : Tys} {want : Ty} → Every orders items want → Assignable orders (union items) want
    -- union target: a type that is no union is assignable to a union where it is to some item
    some_item : {got : Ty} {items : Tys} → is_union got ≡ false → ToSome orders got items
        → Assignable orders got (union items)
    -- None is assignable to None
    nothing : Assignable orders none none
    -- every type is assignable to object
    to_object : {got : Ty} {d : Id} → IsTrue (same_class d object_id) → Assignable orders got (instance d)
    -- nominal: an instance of a class is assignable to each class in its order
    along : {c d : Id} → IsTrue (leads orders c d) → Assignable orders (instance c) (instance d)
    -- promotion: an instance with int in its order is assignable to float
    -- (typing specification, "Special types in annotations", "Special cases for float and complex")
    to_float : {c d : Id} → IsTrue (leads orders c int_id) → IsTrue (same_class d float_id)
        → Assignable orders (instance c) (instance d)
    -- invariance of list: both ways
    lists : {x y : Ty} → Assignable orders x y → Assignable orders y x → Assignable orders (list x) (list y)
    -- invariance of dict: both ways, in keys and in values
    dicts : {k l v w : Ty} → Assignable orders k l → Assignable orders l k → Assignable orders v w
        → Assignable orders w v → Assignable orders (dict k v) (dict l w)
    -- fixed tuples: of one length, place by place
    by_places : {xs ys : Tys} → Places orders xs ys → Assignable orders (tuple xs) (tuple ys)
    -- fixed tuple to a tuple of any length: each item
    each_place : {xs : Tys} {y : Ty} → Every orders xs y → Assignable orders (tuple xs) (tuple_of y)
    -- tuples of any length: by their items
    any_length : {x y : Ty} → Assignable orders x y → Assignable orders (tuple_of x) (tuple_of y)
    -- class objects: of a class with the wanted one in its order, or of unknown order
    class_objects : {c d : Id} → IsTrue (leads orders c d || is_unknown (orders c))
        → Assignable orders (class_object c) (class_object d)
    -- callables with any arguments on a side: the result goes forwards
    any_arguments : {ps qs : Params} {r s : Ty} → IsTrue (is_dots ps || is_dots qs) → Assignable orders r s
        → Assignable orders (callable ps r) (callable qs s)
    -- callables: all parameters fit, each wanted one goes backwards to the one that serves it, the result goes forwards
    -- (typing specification, "Callables", "Assignability rules for callables")
    callables : {ps qs : Listed} {r s : Ty} → IsTrue (fits (slots_of ps) (slots_of qs))
        → ((i j : ℕ) (p q : Ty) → type_at ps i ≡ Some p → type_at qs j ≡ Some q
        → IsTrue (serves (slots_of ps) (slots_of qs) i j) → Assignable orders q p)
        → Assignable orders r s → Assignable orders (callable (listed ps) r) (callable (listed qs) s)
    -- callable instance: an instance whose class has `__call__` is assignable to every callable
    with_call : {c : Id} {qs : Params} {s : Ty} → IsTrue (orders c).has_call
        → Assignable orders (instance c) (callable qs s)
    -- class object as a callable: where its instance is assignable to the result
    makes : {c : Id} {qs : Params} {s : Ty} → Assignable orders (instance_of c) s
        → Assignable orders (class_object c) (callable qs s)

  -- each type of a row is assignable to one type
  pub data Every (orders : MroTable) : Tys → Ty → Type 0 where
    no_more : {want : Ty} → Every orders nil want
    and_more : {got want : Ty} {gots : Tys} → Assignable orders got want → Every orders gots want
        → Every orders (cons got gots) want

  -- a type is assignable to some type of a row
  pub data ToSome (orders : MroTable) : Ty → Tys → Type 0 where
    this_item : {got want : Ty} {wants : Tys} → Assignable orders got want → ToSome orders got (cons want wants)
    later_item : {got want : Ty} {wants : Tys} → ToSome orders got wants → ToSome orders got (cons want wants)

  -- two rows of one length are assignable place by place
  pub data Places (orders : MroTable) : Tys → Tys → Type 0 where
    no_place : Places orders nil nil
    and_place : {got want : Ty} {gots wants : Tys} → Assignable orders got want → Places orders gots wants
        → Places orders (cons got gots) (cons want wants)
