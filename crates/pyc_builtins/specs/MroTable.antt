-- The orders of the builtin classes (Python standard library, "Built-in Types" and "Built-in Exceptions").
use Rattle.std.specs.Prelude.{◌≡◌, List, [], ◌∷◌, false, Option, None, Some, map}
use Rattle.pyc_class_ids.specs.declared.builtin_class.BuiltinClass.{BuiltinClass}
use Rattle.pyc_class_ids.specs.declared.builtin_class.BuiltinClass.TheVariants as class
use Rattle.pyc_class_ids.specs.declared.order.UnknownMro.TheVariants as unknown
use Rattle.pyc_class_ids.specs.Class.{builtin, user}
use Rattle.pyc_class_ids.specs.Mro.{MroTable}

-- the base of a builtin class ("Exception hierarchy"; bool is a subclass of int: "Boolean Type - bool")
abbrev pub base_of : BuiltinClass → Option BuiltinClass
base_of class.Object = None
base_of class.Int = Some class.Object
base_of class.Float = Some class.Object
base_of class.Str = Some class.Object
base_of class.Bytes = Some class.Object
base_of class.List = Some class.Object
base_of class.Dict = Some class.Object
base_of class.Tuple = Some class.Object
base_of class.BaseException = Some class.Object
base_of class.Bool = Some class.Int
base_of class.Exception = Some class.BaseException
base_of class.LookupError = Some class.Exception
base_of class.ArithmeticError = Some class.Exception
base_of class.ValueError = Some class.Exception
base_of class.TypeError = Some class.Exception
base_of class.RuntimeError = Some class.Exception
base_of class.AssertionError = Some class.Exception
base_of class.KeyError = Some class.LookupError
base_of class.IndexError = Some class.LookupError
base_of class.ZeroDivisionError = Some class.ArithmeticError
base_of class.OverflowError = Some class.ArithmeticError
base_of class.NotImplementedError = Some class.RuntimeError
base_of class.RecursionError = Some class.RuntimeError

-- the order of a builtin class: itself, its base, and so on up to `object`
abbrev pub builtin_order : BuiltinClass → List BuiltinClass
builtin_order class.Object = class.Object ∷ []
builtin_order class.Int = class.Int ∷ class.Object ∷ []
builtin_order class.Float = class.Float ∷ class.Object ∷ []
builtin_order class.Str = class.Str ∷ class.Object ∷ []
builtin_order class.Bytes = class.Bytes ∷ class.Object ∷ []
builtin_order class.List = class.List ∷ class.Object ∷ []
builtin_order class.Dict = class.Dict ∷ class.Object ∷ []
builtin_order class.Tuple = class.Tuple ∷ class.Object ∷ []
builtin_order class.BaseException = class.BaseException ∷ class.Object ∷ []
builtin_order class.Bool = class.Bool ∷ class.Int ∷ class.Object ∷ []
builtin_order class.Exception = class.Exception ∷ class.BaseException ∷ class.Object ∷ []
builtin_order class.LookupError = class.LookupError ∷ class.Exception ∷ class.BaseException ∷ class.Object ∷ []
builtin_order class.ArithmeticError = class.ArithmeticError ∷ class.Exception ∷ class.BaseException ∷ class.Object ∷ []
builtin_order class.ValueError = class.ValueError ∷ class.Exception ∷ class.BaseException ∷ class.Object ∷ []
builtin_order class.TypeError = class.TypeError ∷ class.Exception ∷ class.BaseException ∷ class.Object ∷ []
builtin_order class.RuntimeError = class.RuntimeError ∷ class.Exception ∷ class.BaseException ∷ class.Object ∷ []
builtin_order class.AssertionError = class.AssertionError ∷ class.Exception ∷ class.BaseException ∷ class.Object ∷ []
builtin_order class.KeyError =
    class.KeyError ∷ class.LookupError ∷ class.Exception ∷ class.BaseException ∷ class.Object ∷ []
builtin_order class.IndexError =
    class.IndexError ∷ class.LookupError ∷ class.Exception ∷ class.BaseException ∷ class.Object ∷ []
builtin_order class.ZeroDivisionError =
    class.ZeroDivisionError ∷ class.ArithmeticError ∷ class.Exception ∷ class.BaseException ∷ class.Object ∷ []
builtin_order class.OverflowError =
    class.OverflowError ∷ class.ArithmeticError ∷ class.Exception ∷ class.BaseException ∷ class.Object ∷ []
builtin_order class.NotImplementedError =
    class.NotImplementedError ∷ class.RuntimeError ∷ class.Exception ∷ class.BaseException ∷ class.Object ∷ []
builtin_order class.RecursionError =
    class.RecursionError ∷ class.RuntimeError ∷ class.Exception ∷ class.BaseException ∷ class.Object ∷ []

-- the order of the base that a class has, if any
abbrev pub order_of_base : Option BuiltinClass → List BuiltinClass
order_of_base None = []
order_of_base (Some base) = builtin_order base

-- the law of the orders: each begins with its class and goes on with the order of its base
abbrev pub FollowTheBases : Type 0
FollowTheBases = (class : BuiltinClass) → builtin_order class ≡ class ∷ order_of_base (base_of class)

-- the orders of the builtin classes alone: the order of any other class is not known
abbrev pub builtin_orders : MroTable
builtin_orders (builtin class) =
    record { classes = map builtin (builtin_order class); unknown = None; has_call = false }
builtin_orders (user m n) = record { classes = []; unknown = Some unknown.Base; has_call = false }

-- the orders of the classes that are no base, one after another
abbrev pub chains : List BuiltinClass
chains =
    class.Float ∷ class.Object ∷
    class.Str ∷ class.Object ∷
    class.Bytes ∷ class.Object ∷
    class.List ∷ class.Object ∷
    class.Dict ∷ class.Object ∷
    class.Tuple ∷ class.Object ∷
    class.Bool ∷ class.Int ∷ class.Object ∷
    class.ValueError ∷ class.Exception ∷ class.BaseException ∷ class.Object ∷
    class.TypeError ∷ class.Exception ∷ class.BaseException ∷ class.Object ∷
    class.AssertionError ∷ class.Exception ∷ class.BaseException ∷ class.Object ∷
    class.KeyError ∷ class.LookupError ∷ class.Exception ∷ class.BaseException ∷ class.Object ∷
    class.IndexError ∷ class.LookupError ∷ class.Exception ∷ class.BaseException ∷ class.Object ∷
    class.ZeroDivisionError ∷ class.ArithmeticError ∷ class.Exception ∷ class.BaseException ∷ class.Object ∷
    class.OverflowError ∷ class.ArithmeticError ∷ class.Exception ∷ class.BaseException ∷ class.Object ∷
    class.NotImplementedError ∷ class.RuntimeError ∷ class.Exception ∷ class.BaseException ∷ class.Object ∷
    class.RecursionError ∷ class.RuntimeError ∷ class.Exception ∷ class.BaseException ∷ class.Object ∷ []
