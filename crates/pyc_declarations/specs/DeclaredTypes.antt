-- The types of literals, and those that they give the variables that they initialise (mypy's documentation, "Type
-- inference and type annotations").
use Rattle.std.specs.Prelude.{Option, None, Some}
use Rattle.pyc_ast.specs.declared.constant.Constant.{Constant}
use Rattle.pyc_ast.specs.declared.constant.Constant.TheVariants as constant
use Rattle.pyc_ast.specs.Exprs.{Expr, expr}
use Rattle.pyc_ast.specs.Exprs as form
use Rattle.pyc_builtins.specs.declared.builtin.Builtin.{Builtin}
use Rattle.pyc_builtins.specs.declared.builtin.Builtin.TheVariants as builtin
use Rattle.pyc_builtins.specs.Builtin.{builtin_type}
use Rattle.pyc_type_forms.specs.Types.{Ty, any}

-- the type of a constant; a complex number and `...` have none here
abbrev pub constant_type : Constant → Option Builtin
constant_type constant.None = Some builtin.None
constant_type constant.True = Some builtin.Bool
constant_type constant.False = Some builtin.Bool
constant_type constant.Ellipsis = None
constant_type (constant.Integer digit) = Some builtin.Int
constant_type constant.Float = Some builtin.Float
constant_type constant.Imaginary = None
constant_type constant.Str = Some builtin.Str
constant_type constant.FormattedStr = Some builtin.Str
constant_type constant.Bytes = Some builtin.Bytes

-- the type of a value that is one literal
abbrev pub literal_type : Expr → Option Builtin
literal_type (expr at inside (form.constant found)) = constant_type found
literal_type (expr at inside (form.string_annotation spelled)) = Some builtin.Str
literal_type _ = None

-- the type that a value gives the variable that it initialises: that of a literal, but for `None`
abbrev pub initialiser : Option Builtin → Option Builtin
initialiser (Some builtin.None) = None
initialiser found = found

-- a type, or Any where none is known
abbrev pub type_or_any : Option Builtin → Ty
type_or_any (Some found) = builtin_type found
type_or_any None = any

-- the type that a value gives the variable that it initialises
abbrev pub initialiser_type : Expr → Ty
initialiser_type value = type_or_any (initialiser (literal_type value))
