-- Names and attributes, which conditions narrow (typing specification, "Type narrowing"; Python reference 3.13,
-- "Identifiers (Names)" and "Attribute references"), and what is not looked into.
use Rattle.std.specs.Prelude.{ℕ, List, Option, None, Some}
use Rattle.pyc_ast.specs.declared.constant.Unchecked.{Unchecked}
use Rattle.pyc_ast.specs.declared.constant.Unchecked.TheVariants as o
use Rattle.pyc_ast.specs.declared.position.Position.{Position}
use Rattle.pyc_ast.specs.Exprs.{Expr}
use Rattle.pyc_attributes.specs.AttributeValues.{attribute}
use Rattle.pyc_class_ids.specs.declared.builtin_class.BuiltinClass.TheVariants as class
use Rattle.pyc_class_ids.specs.Class.{builtin}
use Rattle.pyc_expr_forms.specs.Contexts.{Context, InferValue}
use Rattle.pyc_obligations.specs.Values.{Value, plain_value}
use Rattle.pyc_places.specs.States.{State, narrowed_at}
use Rattle.pyc_reading.specs.Traces.{Step}
use Rattle.pyc_reading.specs.Readings.{Done, and_then}
use Rattle.pyc_type_forms.specs.Types.{Ty, any, instance, list, dict}

abbrev pub str_type : Ty
str_type = instance (builtin class.Str)

abbrev pub bool_type : Ty
bool_type = instance (builtin class.Bool)

-- the type of what is not looked into
abbrev pub opaque_type : Unchecked → Ty
opaque_type o.Lambda = any
opaque_type o.Generator = any
opaque_type o.ListComprehension = list any
opaque_type o.SetComprehension = any
opaque_type o.DictComprehension = dict any any

-- a place of a type to which it is narrowed, if it is
abbrev pub unless_narrowed : Option Ty → Step Value → Step Value
unless_narrowed (Some ty) found = Done (plain_value ty)
unless_narrowed None found = found

-- a name
abbrev pub name_value : Context → State → Expr → Position → List ℕ → Step Value
name_value context s whole at x = unless_narrowed (narrowed_at s whole) (context.resolve_name at x)

-- the attribute of what was read, in the whole expression
abbrev pub attribute_of : State → Expr → Position → List ℕ → Value → Step Value
attribute_of s whole at n owner = unless_narrowed (narrowed_at s whole) (attribute at owner n)

-- an attribute: its owner is read also where the attribute is narrowed
unfoldable pub attribute_value : InferValue → State → Expr → Position → Expr → List ℕ → Step Value
attribute_value parts s whole at x n = and_then (parts s x None) (attribute_of s whole at n)
