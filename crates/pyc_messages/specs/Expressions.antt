-- The messages on displays, attributes, subscripts, iterations and operators (Python reference 3.13, "Expressions"; mypy's
-- documentation, "Error codes enabled by default").
use Rattle.std.specs.Prelude.{ℕ, List, ◌++◌, codes}
use Rattle.std.specs.Fmt.{decimal}
use Rattle.pyc_ast.specs.declared.position.Position.{Position}
use Rattle.pyc_report.specs.declared.message.Code.TheVariants as code
use Rattle.pyc_report.specs.Message.{Diagnostic, error_at}

-- ---- displays: the messages of obligations, whose kind has the code

-- an item of a list
unfoldable pub list_item_text : ℕ → (got want : List ℕ) → List ℕ
list_item_text index got want =
    codes "List item " ++ (decimal index ++ (codes " has incompatible type \"" ++ (got ++ (codes "\"; expected \""
    ++ (want ++ codes "\"")))))

-- an entry of a dictionary
unfoldable pub dict_entry_text : ℕ → (got_key got_value want_key want_value : List ℕ) → List ℕ
dict_entry_text index got_key got_value want_key want_value =
    codes "Dict entry " ++ (decimal index ++ (codes " has incompatible type \"" ++ (got_key ++ (codes "\": \""
    ++ (got_value ++ (codes "\"; expected \"" ++ (want_key ++ (codes "\": \"" ++ (want_value ++ codes "\"")))))))))

-- ---- attributes

-- a type that has no such attribute; the error is that on an absent attribute
unfoldable pub no_attribute_text : (shown name : List ℕ) → List ℕ
no_attribute_text shown name = codes "\"" ++ (shown ++ (codes "\" has no attribute \"" ++ (name ++ codes "\"")))

-- an item of a union that has no such attribute
unfoldable pub no_item_attribute_text : (item whole name : List ℕ) → List ℕ
no_item_attribute_text item whole name =
    codes "Item \"" ++ (item ++ (codes "\" of \"" ++ (whole ++ (codes "\" has no attribute \"" ++ (name ++ codes "\"")))))

abbrev pub no_item_attribute : Position → (item whole name : List ℕ) → Diagnostic
no_item_attribute at item whole name = error_at at code.UnionAttr (no_item_attribute_text item whole name)

-- ---- subscripts

-- an index of another type than is wanted: the message of an obligation, whose kind has the code
unfoldable pub index_text : (got whole want : List ℕ) → List ℕ
index_text got whole want =
    codes "Invalid index type \"" ++ (got ++ (codes "\" for \"" ++ (whole ++ (codes "\"; expected type \"" ++ (want
    ++ codes "\"")))))

-- a place that a tuple does not have
unfoldable pub range_text : List ℕ
range_text = codes "Tuple index out of range"

abbrev pub out_of_range : Position → Diagnostic
out_of_range at = error_at at code.Misc range_text

-- a type that has no subscripts
unfoldable pub not_indexable_text : List ℕ → List ℕ
not_indexable_text shown = codes "Value of type \"" ++ (shown ++ codes "\" is not indexable")

abbrev pub not_indexable : Position → List ℕ → Diagnostic
not_indexable at shown = error_at at code.Index (not_indexable_text shown)

-- ---- iterations

-- a type that is not iterable
unfoldable pub not_iterable_text : List ℕ → List ℕ
not_iterable_text shown = codes "\"" ++ (shown ++ codes "\" has no attribute \"__iter__\" (not iterable)")

abbrev pub not_iterable : Position → List ℕ → Diagnostic
not_iterable at shown = error_at at code.AttrDefined (not_iterable_text shown)

-- an item of a union that is not iterable
unfoldable pub item_not_iterable_text : (item whole : List ℕ) → List ℕ
item_not_iterable_text item whole =
    codes "Item \"" ++ (item ++ (codes "\" of \"" ++ (whole ++ codes "\" has no attribute \"__iter__\" (not iterable)")))

abbrev pub item_not_iterable : Position → (item whole : List ℕ) → Diagnostic
item_not_iterable at item whole = error_at at code.UnionAttr (item_not_iterable_text item whole)

-- ---- operators

-- operands that an operation does not take, by its symbol
unfoldable pub operands_text : (symbol left right : List ℕ) → List ℕ
operands_text symbol left right =
    codes "Unsupported operand types for "
    ++ (symbol ++ (codes " (\"" ++ (left ++ (codes "\" and \"" ++ (right ++ codes "\")")))))

abbrev pub wrong_operands : Position → (symbol left right : List ℕ) → Diagnostic
wrong_operands at symbol left right = error_at at code.Operator (operands_text symbol left right)

-- an operand that a unary operation does not take, by its symbol
unfoldable pub operand_text : (symbol operand : List ℕ) → List ℕ
operand_text symbol operand =
    codes "Unsupported operand type for unary " ++ (symbol ++ (codes " (\"" ++ (operand ++ codes "\")")))

abbrev pub wrong_operand : Position → (symbol operand : List ℕ) → Diagnostic
wrong_operand at symbol operand = error_at at code.Operator (operand_text symbol operand)
