-- Values, the classes of which they are instances and the types of which they are values (typing specification, "Type
-- system concepts"; the library reference, `isinstance`). A value is reported by its class; whatever else a type may
-- say of it, no law looks at.
use Rattle.std.specs.Prelude.{Bool, true, false, not, ◌&&◌, ◌||◌}
use Rattle.pyc_class_ids.specs.declared.builtin_class.BuiltinClass.TheVariants as class
use Rattle.pyc_class_ids.specs.Class.{Id, builtin, same_class, object_id, int_id, float_id}
use Rattle.pyc_class_ids.specs.Mro.{MroTable, leads, is_unknown}
use Rattle.pyc_type_forms.specs.Types.{Ty, Tys, any, none, module_type, instance, class_object, list, dict, tuple}
use Rattle.pyc_type_forms.specs.Types.{tuple_of, union, callable, nil, cons}
use Rattle.pyc_types.specs.Ways.{is_any}

-- a value, with the types whose parts it fits: what it holds, what it takes and gives, which class or module it is
pub data Value : Type 0 where
  none_value : Value
  -- an instance of a class, and of no class below it
  instance_value : Id → (Ty → Bool) → Value
  -- any other value: a class object, a function, a module
  other_value : (Ty → Bool) → Value

-- ---- forms of values

-- whether a value is None
abbrev pub is_none_value : Value → Bool
is_none_value none_value = true
is_none_value (instance_value c fits) = false
is_none_value (other_value fits) = false

-- whether a value is neither None nor an instance of a class
abbrev pub is_other_value : Value → Bool
is_other_value none_value = false
is_other_value (instance_value c fits) = false
is_other_value (other_value fits) = true

-- whether a value fits the parts of a type: None fits none
abbrev pub fits : Value → Ty → Bool
fits none_value ty = false
fits (instance_value c answer) ty = answer ty
fits (other_value answer) ty = answer ty

-- whether the class of a value has a known order
abbrev pub has_known_order : MroTable → Value → Bool
has_known_order orders none_value = true
has_known_order orders (instance_value c answer) = not (is_unknown (orders c))
has_known_order orders (other_value answer) = true

-- ---- classes

-- whether a value is an instance of a class: the class stands in the order of the value's own class, and None, class
-- objects, functions and modules are instances of `object` alone
abbrev pub is_instance : MroTable → Value → Id → Bool
is_instance orders none_value d = same_class d object_id
is_instance orders (instance_value c answer) d = leads orders c d
is_instance orders (other_value answer) d = same_class d object_id

-- whether a value may stand where an instance of a class is expected: it is one, or an int stands for a float (typing
-- specification, "Special types in annotations", "Special cases for float and complex")
abbrev pub stands_for : MroTable → Value → Id → Bool
stands_for orders v d = is_instance orders v d || (is_instance orders v int_id && same_class d float_id)

-- ---- types

abbrev mutual
  -- whether a value is of a type
  pub is_of : MroTable → Value → Ty → Bool
  is_of orders v any = true
  is_of orders v none = is_none_value v
  is_of orders v (module_type m) = is_other_value v && fits v (module_type m)
  is_of orders v (instance d) = stands_for orders v d
  is_of orders v (class_object d) = is_other_value v && fits v (class_object d)
  is_of orders v (list x) = is_instance orders v (builtin class.List) && (is_any x || fits v (list x))
  is_of orders v (dict k w) =
      is_instance orders v (builtin class.Dict) && ((is_any k && is_any w) || fits v (dict k w))
  is_of orders v (tuple xs) = is_instance orders v (builtin class.Tuple) && fits v (tuple xs)
  is_of orders v (tuple_of x) = is_instance orders v (builtin class.Tuple) && (is_any x || fits v (tuple_of x))
  is_of orders v (union xs) = is_of_some orders v xs
  is_of orders v (callable ps r) = fits v (callable ps r)

  -- whether a value is of some type of a row
  pub is_of_some : MroTable → Value → Tys → Bool
  is_of_some orders v nil = false
  is_of_some orders v (cons x xs) = is_of orders v x || is_of_some orders v xs
