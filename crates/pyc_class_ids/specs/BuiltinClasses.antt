-- The builtin classes that have an order of their own (Python standard library, "Built-in Types" and "Built-in
-- Exceptions").
use Rattle.std.specs.Prelude.{ℕ, List, codes}
use Rattle.pyc_class_ids.specs.declared.builtin_class.BuiltinClass.{BuiltinClass}
use Rattle.pyc_class_ids.specs.declared.builtin_class.BuiltinClass.TheVariants as class

-- the number of a builtin class
abbrev pub number_of : BuiltinClass → ℕ
number_of class.Object = 0
number_of class.Int = 1
number_of class.Float = 2
number_of class.Str = 3
number_of class.Bytes = 4
number_of class.List = 5
number_of class.Dict = 6
number_of class.Tuple = 7
number_of class.BaseException = 8
number_of class.Bool = 9
number_of class.Exception = 10
number_of class.LookupError = 11
number_of class.ArithmeticError = 12
number_of class.ValueError = 13
number_of class.TypeError = 14
number_of class.RuntimeError = 15
number_of class.AssertionError = 16
number_of class.KeyError = 17
number_of class.IndexError = 18
number_of class.ZeroDivisionError = 19
number_of class.OverflowError = 20
number_of class.NotImplementedError = 21
number_of class.RecursionError = 22

-- the name of a builtin class
abbrev pub builtin_name : BuiltinClass → List ℕ
builtin_name class.Object = codes "object"
builtin_name class.Int = codes "int"
builtin_name class.Float = codes "float"
builtin_name class.Str = codes "str"
builtin_name class.Bytes = codes "bytes"
builtin_name class.List = codes "list"
builtin_name class.Dict = codes "dict"
builtin_name class.Tuple = codes "tuple"
builtin_name class.BaseException = codes "BaseException"
builtin_name class.Bool = codes "bool"
builtin_name class.Exception = codes "Exception"
builtin_name class.LookupError = codes "LookupError"
builtin_name class.ArithmeticError = codes "ArithmeticError"
builtin_name class.ValueError = codes "ValueError"
builtin_name class.TypeError = codes "TypeError"
builtin_name class.RuntimeError = codes "RuntimeError"
builtin_name class.AssertionError = codes "AssertionError"
builtin_name class.KeyError = codes "KeyError"
builtin_name class.IndexError = codes "IndexError"
builtin_name class.ZeroDivisionError = codes "ZeroDivisionError"
builtin_name class.OverflowError = codes "OverflowError"
builtin_name class.NotImplementedError = codes "NotImplementedError"
builtin_name class.RecursionError = codes "RecursionError"
