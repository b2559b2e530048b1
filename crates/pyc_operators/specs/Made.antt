-- The types that operations give (Python language reference 3.13, "Binary arithmetic operations"; typing specification,
-- "Type annotations").
use Rattle.std.specs.Prelude.{List, [], ◌∷◌, ◌++◌, if◌then◌else◌, Option, None, Some}
use Rattle.pyc_builtins.specs.MemberTypes.{item_of}
use Rattle.pyc_class_ids.specs.declared.builtin_class.BuiltinClass.TheVariants as class
use Rattle.pyc_class_ids.specs.Class.{builtin}
use Rattle.pyc_operators.specs.declared.table.Given.{Given}
use Rattle.pyc_operators.specs.declared.table.Given.TheVariants as g
use Rattle.pyc_type_forms.specs.Equality.{same_type}
use Rattle.pyc_type_forms.specs.Types.{Ty, Tys, any, instance, list, dict, tuple, tuple_of, nil, cons}
use Rattle.pyc_type_forms.specs.TypeView.{tys_of}
use Rattle.pyc_type_forms.specs.Unions.{union_of}

-- the types of a row
abbrev pub types_in : Tys → List Ty
types_in nil = []
types_in (cons ty tys) = ty ∷ types_in tys

-- the types of the places of a tuple; none for any other type
abbrev pub places_of : Ty → List Ty
places_of (tuple items) = types_in items
places_of _ = []

-- a list of the items of both
abbrev pub joined_lists : Ty → Ty → Ty
joined_lists left right = list (union_of (item_of left ∷ item_of right ∷ []))

-- a tuple with the items of the one and then of the other
abbrev pub joined_tuples : Ty → Ty → Ty
joined_tuples left right = tuple (tys_of (places_of left ++ places_of right))

-- the type of both where it is one, else a dictionary of any keys and values
abbrev pub joined_dicts : Ty → Ty → Ty
joined_dicts left right = if same_type left right then left else dict any any

-- the type that an operation gives on operands of these types; none where there is no such operation
abbrev pub made : Given → Ty → Ty → Option Ty
made g.Any left right = Some any
made g.Bool left right = Some (instance (builtin class.Bool))
made g.Int left right = Some (instance (builtin class.Int))
made g.Float left right = Some (instance (builtin class.Float))
made g.Str left right = Some (instance (builtin class.Str))
made g.Bytes left right = Some (instance (builtin class.Bytes))
made g.Left left right = Some left
made g.Right left right = Some right
made g.Lists left right = Some (joined_lists left right)
made g.Tuples left right = Some (joined_tuples left right)
made g.AnyTuple left right = Some (tuple_of any)
made g.Dicts left right = Some (joined_dicts left right)
made g.Nothing left right = None
