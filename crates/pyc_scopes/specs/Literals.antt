-- The types of literals (Python reference 3.13, "Literals").
use Rattle.pyc_ast.specs.declared.constant.Constant.{Constant}
use Rattle.pyc_ast.specs.declared.constant.Constant.TheVariants as constant
use Rattle.pyc_class_ids.specs.declared.builtin_class.BuiltinClass.TheVariants as class
use Rattle.pyc_class_ids.specs.Class.{builtin}
use Rattle.pyc_type_forms.specs.Types.{Ty, any, none, instance}

-- the type of a literal: nothing is known of `...` and of a complex number
abbrev pub constant_type : Constant → Ty
constant_type constant.None = none
constant_type constant.True = instance (builtin class.Bool)
constant_type constant.False = instance (builtin class.Bool)
constant_type constant.Ellipsis = any
constant_type (constant.Integer digit) = instance (builtin class.Int)
constant_type constant.Float = instance (builtin class.Float)
constant_type constant.Imaginary = any
constant_type constant.Str = instance (builtin class.Str)
constant_type constant.FormattedStr = instance (builtin class.Str)
constant_type constant.Bytes = instance (builtin class.Bytes)
