-- The messages on assignments (Python reference 3.13, "Assignment statements").
use Rattle.std.specs.Prelude.{ℕ, List, ◌++◌, codes, if◌then◌else◌, nat_eq}
use Rattle.std.specs.Fmt.{decimal}
use Rattle.pyc_ast.specs.declared.position.Position.{Position}
use Rattle.pyc_report.specs.declared.message.Code.TheVariants as code
use Rattle.pyc_report.specs.Message.{Diagnostic, error_at}

-- ---- values: the messages of obligations, whose kind has the code

-- a value of another type than its variable takes
unfoldable pub variable_assignment_text : (got want : List ℕ) → List ℕ
variable_assignment_text got want =
    codes "Incompatible types in assignment (expression has type \"" ++ (got ++ (codes "\", variable has type \""
    ++ (want ++ codes "\")")))

-- a value of another type than an item of a subscript takes
unfoldable pub item_assignment_text : (got want : List ℕ) → List ℕ
item_assignment_text got want =
    codes "Incompatible types in assignment (expression has type \"" ++ (got ++ (codes "\", target has type \""
    ++ (want ++ codes "\")")))

-- ---- targets

-- a value whose items cannot be assigned to
unfoldable pub unsupported_target_text : List ℕ → List ℕ
unsupported_target_text shown = codes "Unsupported target for indexed assignment (\"" ++ (shown ++ codes "\")")

abbrev pub unsupported_target : Position → List ℕ → Diagnostic
unsupported_target at shown = error_at at code.Index (unsupported_target_text shown)

-- a property of a class that cannot be set
unfoldable pub read_only_text : (name shown : List ℕ) → List ℕ
read_only_text name shown =
    codes "Property \"" ++ (name ++ (codes "\" defined in \"" ++ (shown ++ codes "\" is read-only")))

abbrev pub read_only : Position → (name shown : List ℕ) → Diagnostic
read_only at name shown = error_at at code.Misc (read_only_text name shown)

-- ---- unpacking

-- how many values, in words
abbrev pub values_word : ℕ → List ℕ
values_word count = if nat_eq count 1 then codes "value" else codes "values"

-- a tuple with fewer places than there are targets
unfoldable pub too_few_values_text : (provided expected : ℕ) → List ℕ
too_few_values_text provided expected =
    codes "Need more than " ++ (decimal provided ++ (codes " " ++ (values_word provided ++ (codes " to unpack ("
    ++ (decimal expected ++ codes " expected)")))))

abbrev pub too_few_values : Position → (provided expected : ℕ) → Diagnostic
too_few_values at provided expected = error_at at code.Misc (too_few_values_text provided expected)

-- a tuple with more places than there are targets
unfoldable pub too_many_values_text : (provided expected : ℕ) → List ℕ
too_many_values_text provided expected =
    codes "Too many values to unpack (" ++ (decimal expected ++ (codes " expected, " ++ (decimal provided
    ++ codes " provided)")))

abbrev pub too_many_values : Position → (provided expected : ℕ) → Diagnostic
too_many_values at provided expected = error_at at code.Misc (too_many_values_text provided expected)
