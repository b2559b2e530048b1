-- The attribute of a value (Python reference 3.13, "Attribute references"; typing specification, "Union types").
use Rattle.std.specs.Prelude.{ℕ, List, [], ◌∷◌, ◌++◌}
use Rattle.pyc_ast.specs.declared.position.Position.{Position}
use Rattle.pyc_attributes.specs.FoundAttributes.{Found, absent, known, member_of, name_with, item_attribute}
use Rattle.pyc_messages.specs.Definitions as message
use Rattle.pyc_messages.specs.Expressions as expression_message
use Rattle.pyc_obligations.specs.Values.{Value, plain_value}
use Rattle.pyc_reading.specs.Traces.{Step}
use Rattle.pyc_reading.specs.Readings.{Done, Report, and_then}
use Rattle.pyc_scopes.specs.NamedValues.{answered_value}
use Rattle.pyc_type_forms.specs.Text.{text_of}
use Rattle.pyc_type_forms.specs.Types.{Ty, any, module_type, union}
use Rattle.pyc_type_forms.specs.Unions.{row_items, union_of}

-- ---- what is reported

-- what is reported of a type: which module it is is not
abbrev pub absent_text : Ty → List ℕ → List ℕ
absent_text (module_type m) n = message.no_module_attribute_text n
absent_text ty n = expression_message.no_attribute_text (text_of ty) n

unfoldable pub no_attribute : Position → Ty → List ℕ → Step Ty
no_attribute at ty n = Report (message.absent_attribute at (absent_text ty n)) (Done any)

unfoldable pub no_item_attribute : Position → Ty → Ty → List ℕ → Step Ty
no_item_attribute at whole item n =
    Report (expression_message.no_item_attribute at (text_of item) (text_of whole) n) (Done any)

-- ---- a type that is no union

unfoldable pub absent_value : Position → Ty → List ℕ → Step Value
absent_value at ty n = and_then (no_attribute at ty n) (λ found. Done (plain_value found))

abbrev pub found_value : Position → Ty → List ℕ → Found → Step Value
found_value at ty n absent = absent_value at ty n
found_value at ty n (known found) = Done (plain_value found)
found_value at ty n (member_of c kind found) = Done (plain_value found)
found_value at ty n (name_with found) = Done (answered_value found)

unfoldable pub single_attribute : Position → Ty → List ℕ → Step Value
single_attribute at ty n = and_then (item_attribute ty n) (found_value at ty n)

-- ---- unions

abbrev pub item_type : Position → Ty → Ty → List ℕ → Found → Step Ty
item_type at whole item n absent = no_item_attribute at whole item n
item_type at whole item n (known found) = Done found
item_type at whole item n (member_of c kind found) = Done found
item_type at whole item n (name_with found) = Done found.ty

-- an item of a union
unfoldable pub union_item : Position → Ty → List ℕ → Ty → Step Ty
union_item at whole n item = and_then (item_attribute item n) (item_type at whole item n)

-- these types, and then those of an attribute of items, in turn
unfoldable pub item_types : Position → Ty → List ℕ → List Ty → List Ty → Step (List Ty)
item_types at whole n found [] = Done found
item_types at whole n found (item ∷ rest) =
    and_then (union_item at whole n item) (λ ty. item_types at whole n (found ++ (ty ∷ [])) rest)

unfoldable pub union_attribute : Position → Ty → List ℕ → List Ty → Step Value
union_attribute at whole n items =
    and_then (item_types at whole n [] items) (λ found. Done (plain_value (union_of found)))

-- ---- the whole

-- the attribute of a value of a type: of a union, those of its items
abbrev pub type_attribute : Position → Ty → List ℕ → Step Value
type_attribute at (union items) n = union_attribute at (union items) n (row_items items)
type_attribute at ty n = single_attribute at ty n

-- the attribute of a value, in an expression that begins at a position
abbrev pub attribute : Position → Value → List ℕ → Step Value
attribute at value n = type_attribute at value.ty n
