-- Whether an instance goes to a type by an order that is known: one order for all items of a union.
use Rattle.std.specs.Prelude.{Bool, true, false, ◌&&◌, ◌||◌}
use Rattle.pyc_class_ids.specs.Class.{Id, same_class, object_id, int_id, float_id}
use Rattle.pyc_class_ids.specs.Mro.{Mro, order_contains}
use Rattle.pyc_type_forms.specs.Types.{Ty, Tys, any, none, module_type, instance, class_object, list, dict, tuple}
use Rattle.pyc_type_forms.specs.Types.{tuple_of, union, callable, nil, cons}

-- whether an instance of a class of this order goes to those of another by the order, or to float
abbrev pub leads_by : Mro → Id → Bool
leads_by order d = order_contains order d || (order_contains order int_id && same_class d float_id)

-- whether it goes to those of another by the order, to float or to object
abbrev pub class_goes_by : Mro → Id → Bool
class_goes_by order d = leads_by order d || same_class d object_id

abbrev mutual
  -- whether an instance of a class of this order goes to a type, where the order is known
  pub goes_by : Mro → Ty → Bool
  goes_by order any = true
  goes_by order none = false
  goes_by order (module_type m) = false
  goes_by order (instance d) = class_goes_by order d
  goes_by order (class_object d) = false
  goes_by order (list b) = false
  goes_by order (dict k v) = false
  goes_by order (tuple bs) = false
  goes_by order (tuple_of b) = false
  goes_by order (union bs) = goes_by_some order bs
  goes_by order (callable ps r) = order.has_call

  -- whether it goes to some type of a row
  pub goes_by_some : Mro → Tys → Bool
  goes_by_some order nil = false
  goes_by_some order (cons b bs) = goes_by order b || goes_by_some order bs

-- whether a type is the instances of a class
abbrev pub is_instance_of : Id → Ty → Bool
is_instance_of c (instance d) = same_class d c
is_instance_of c _ = false
