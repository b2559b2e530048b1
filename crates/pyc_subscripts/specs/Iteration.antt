-- Iteration (Python reference 3.13, "The for statement"; the library reference, "Iterator Types").
use Rattle.std.specs.Prelude.{List, [], ◌∷◌, ◌++◌}
use Rattle.pyc_ast.specs.declared.position.Position.{Position}
use Rattle.pyc_class_ids.specs.declared.builtin_class.BuiltinClass.TheVariants as class
use Rattle.pyc_class_ids.specs.Class.{Id, builtin}
use Rattle.pyc_messages.specs.Expressions as message
use Rattle.pyc_subscripts.specs.Owners.{Owner, unknown_owner, method_owner, builtin_owner, no_owner, iterable, int_type}
use Rattle.pyc_subscripts.specs.Owners.{str_type}
use Rattle.pyc_reading.specs.Traces.{Step}
use Rattle.pyc_reading.specs.Readings.{Done, Report, and_then}
use Rattle.pyc_type_forms.specs.Text.{text_of}
use Rattle.pyc_type_forms.specs.Types.{Ty, Tys, any, instance, list, dict, tuple, tuple_of, union, nil, cons}
use Rattle.pyc_type_forms.specs.Unions.{row_items, union_of}

-- ---- what is reported

unfoldable pub not_iterable : Position → Ty → Step Ty
not_iterable at ty = Report (message.not_iterable at (text_of ty)) (Done any)

unfoldable pub item_not_iterable : Position → Ty → Ty → Step Ty
item_not_iterable at whole item = Report (message.item_not_iterable at (text_of item) (text_of whole)) (Done any)

-- ---- items

abbrev pub text_part : Id → Ty
text_part (builtin class.Str) = str_type
text_part (builtin class.Bytes) = int_type
text_part _ = any

-- the types of a row
abbrev pub types_of : Tys → List Ty
types_of nil = []
types_of (cons x xs) = x ∷ types_of xs

-- an item of a fixed tuple: of one without items nothing is known
abbrev pub some_part : List Ty → Ty
some_part [] = any
some_part (x ∷ xs) = union_of (x ∷ xs)

abbrev pub fixed_part : Tys → Ty
fixed_part items = some_part (types_of items)

-- what an iteration of a builtin type gives
abbrev pub builtin_item_type : Ty → Ty
builtin_item_type (instance c) = text_part c
builtin_item_type (list item) = item
builtin_item_type (dict key value) = key
builtin_item_type (tuple items) = fixed_part items
builtin_item_type (tuple_of item) = item
builtin_item_type _ = any

abbrev pub part_by : Position → Ty → Owner → Step Ty
part_by at ty unknown_owner = Done any
part_by at ty (method_owner given) = Done any
part_by at ty (builtin_owner found) = Done (builtin_item_type found)
part_by at ty no_owner = not_iterable at ty

abbrev pub item_part : Position → Ty → Ty → Owner → Step Ty
item_part at whole item unknown_owner = Done any
item_part at whole item (method_owner given) = Done any
item_part at whole item (builtin_owner found) = Done (builtin_item_type found)
item_part at whole item no_owner = item_not_iterable at whole item

-- ---- the whole

unfoldable pub union_part : Position → Ty → Ty → Step Ty
union_part at whole item = and_then (iterable item) (item_part at whole item)

-- these types, and then those of items of a union, in turn
unfoldable pub infer_more_parts : Position → Ty → List Ty → List Ty → Step (List Ty)
infer_more_parts at whole found [] = Done found
infer_more_parts at whole found (item ∷ rest) =
    and_then (union_part at whole item) (λ ty. infer_more_parts at whole (found ++ (ty ∷ [])) rest)

unfoldable pub infer_union_iteration : Position → Ty → List Ty → Step Ty
infer_union_iteration at whole items = and_then (infer_more_parts at whole [] items) (λ found. Done (union_of found))

-- one type as a union is: Any where it is too large
abbrev pub limited_part : Ty → Ty
limited_part ty = union_of (ty ∷ [])

unfoldable pub infer_part_by_owner : Position → Ty → Owner → Step Ty
infer_part_by_owner at ty found = and_then (part_by at ty found) (λ part. Done (limited_part part))

unfoldable pub infer_single_iteration : Position → Ty → Step Ty
infer_single_iteration at ty = and_then (iterable ty) (infer_part_by_owner at ty)

-- the item of an iteration of a value of a type, in an expression that begins at a position
abbrev pub infer_iteration : Position → Ty → Step Ty
infer_iteration at (union items) = infer_union_iteration at (union items) (row_items items)
infer_iteration at ty = infer_single_iteration at ty
