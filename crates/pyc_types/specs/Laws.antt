-- Laws of assignability (typing specification, "The gradual guarantee").
use Rattle.std.specs.Prelude.{ℕ, ◌≡◌, List, IsTrue}
use Rattle.pyc_class_ids.specs.Class.{Id}
use Rattle.pyc_class_ids.specs.Mro.{MroTable}
use Rattle.pyc_type_forms.specs.Types.{Slot, Ty, Tys, Params, Listed, any, none, module_type, instance, class_object}
use Rattle.pyc_type_forms.specs.Types.{list, dict, tuple, tuple_of, union, callable, nil, cons, dots, listed, no_param}
use Rattle.pyc_type_forms.specs.Types.{param}
use Rattle.pyc_types.specs.Ways.{assignable}

mutual
  -- the type on the right is the one on the left with parts replaced by Any
  pub data WithAny : Ty → Ty → Type 0 where
    replaced : {t : Ty} → WithAny t any
    same_none : WithAny none none
    same_module : {m : List (List ℕ)} → WithAny (module_type m) (module_type m)
    same_instance : {c : Id} → WithAny (instance c) (instance c)
    same_class_object : {c : Id} → WithAny (class_object c) (class_object c)
    in_list : {x x' : Ty} → WithAny x x' → WithAny (list x) (list x')
    in_dict : {k k' v v' : Ty} → WithAny k k' → WithAny v v' → WithAny (dict k v) (dict k' v')
    in_tuple : {xs xs' : Tys} → RowWithAny xs xs' → WithAny (tuple xs) (tuple xs')
    in_tuple_of : {x x' : Ty} → WithAny x x' → WithAny (tuple_of x) (tuple_of x')
    in_union : {xs xs' : Tys} → RowWithAny xs xs' → WithAny (union xs) (union xs')
    in_callable : {ps ps' : Params} {r r' : Ty} → ParamsWithAny ps ps' → WithAny r r'
        → WithAny (callable ps r) (callable ps' r')

  -- the row of types on the right is the one on the left with parts replaced by Any
  pub data RowWithAny : Tys → Tys → Type 0 where
    no_type : RowWithAny nil nil
    another_type : {x x' : Ty} {xs xs' : Tys} → WithAny x x' → RowWithAny xs xs' → RowWithAny (cons x xs) (cons x' xs')

  -- what a call takes on the right is what it takes on the left with parts replaced by Any
  pub data ParamsWithAny : Params → Params → Type 0 where
    same_dots : ParamsWithAny dots dots
    in_listed : {ps ps' : Listed} → ListedWithAny ps ps' → ParamsWithAny (listed ps) (listed ps')

  -- the row of parameters on the right is the one on the left with parts replaced by Any
  pub data ListedWithAny : Listed → Listed → Type 0 where
    no_parameter : ListedWithAny no_param no_param
    another_parameter : {slot : Slot} {t t' : Ty} {ps ps' : Listed} → WithAny t t' → ListedWithAny ps ps'
        → ListedWithAny (param slot t ps) (param slot t' ps')

-- replacing any part of either type by Any never turns yes into no
abbrev pub AnyPartHolds : Type 0
AnyPartHolds =
    (orders : MroTable) (got got' want want' : Ty) → WithAny got got' → WithAny want want'
    → IsTrue (assignable orders got want) → IsTrue (assignable orders got' want')

-- ---- orders that agree

abbrev mutual
  -- two orders agree on each class that is written in a type
  pub AgreeOn : MroTable → MroTable → Ty → Type 0
  AgreeOn o p any = Unit
  AgreeOn o p none = Unit
  AgreeOn o p (module_type m) = Unit
  AgreeOn o p (instance c) = o c ≡ p c
  AgreeOn o p (class_object c) = o c ≡ p c
  AgreeOn o p (list x) = AgreeOn o p x
  AgreeOn o p (dict k v) = AgreeOn o p k × AgreeOn o p v
  AgreeOn o p (tuple xs) = AgreeOnRow o p xs
  AgreeOn o p (tuple_of x) = AgreeOn o p x
  AgreeOn o p (union xs) = AgreeOnRow o p xs
  AgreeOn o p (callable ps r) = AgreeOnParams o p ps × AgreeOn o p r

  pub AgreeOnRow : MroTable → MroTable → Tys → Type 0
  AgreeOnRow o p nil = Unit
  AgreeOnRow o p (cons x xs) = AgreeOn o p x × AgreeOnRow o p xs

  pub AgreeOnParams : MroTable → MroTable → Params → Type 0
  AgreeOnParams o p dots = Unit
  AgreeOnParams o p (listed ps) = AgreeOnListed o p ps

  pub AgreeOnListed : MroTable → MroTable → Listed → Type 0
  AgreeOnListed o p no_param = Unit
  AgreeOnListed o p (param slot t ps) = AgreeOn o p t × AgreeOnListed o p ps

-- two orders that agree on the classes written in two types give the same answer
abbrev pub AgreeingMrosAnswerAlike : Type 0
AgreeingMrosAnswerAlike =
    (o p : MroTable) (got want : Ty) → AgreeOn o p got → AgreeOn o p want → assignable o got want ≡ assignable p got
    want
