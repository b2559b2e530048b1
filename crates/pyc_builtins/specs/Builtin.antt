-- The types of literals (Python standard library, "Built-in Types").
use Rattle.pyc_class_ids.specs.declared.builtin_class.BuiltinClass.TheVariants as class
use Rattle.pyc_class_ids.specs.Class.{builtin}
use Rattle.pyc_type_forms.specs.Types.{Ty, instance, none}
use Rattle.pyc_builtins.specs.declared.builtin.Builtin.{Builtin}
use Rattle.pyc_builtins.specs.declared.builtin.Builtin.TheVariants.{Int, Str, Bool, Float, Bytes, None}

-- the type that a `Builtin` names
abbrev pub builtin_type : Builtin → Ty
builtin_type Int = instance (builtin class.Int)
builtin_type Str = instance (builtin class.Str)
builtin_type Bool = instance (builtin class.Bool)
builtin_type Float = instance (builtin class.Float)
builtin_type Bytes = instance (builtin class.Bytes)
builtin_type None = none
