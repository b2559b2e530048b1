-- The messages on calls (Python reference 3.13, "Calls"). What is called is shown as `"f"`, `"m" of "C"` or `"function"`.
use Rattle.std.specs.Prelude.{ℕ, List, ◌++◌, codes}
use Rattle.std.specs.Fmt.{decimal}
use Rattle.pyc_ast.specs.declared.position.Position.{Position}
use Rattle.pyc_report.specs.declared.message.Code.TheVariants as code
use Rattle.pyc_report.specs.Message.{Diagnostic, error_at, note_at}

-- a value of a type that cannot be called
unfoldable pub not_callable_text : List ℕ → List ℕ
not_callable_text got = codes "\"" ++ (got ++ codes "\" not callable")

abbrev pub not_callable : Position → List ℕ → Diagnostic
not_callable at got = error_at at code.Operator (not_callable_text got)

-- ---- which parameters the arguments fill

-- arguments for whose places no parameter is left
unfoldable pub too_many_arguments_text : List ℕ → List ℕ
too_many_arguments_text shown = codes "Too many arguments for " ++ shown

abbrev pub too_many_arguments : Position → List ℕ → Diagnostic
too_many_arguments at shown = error_at at code.CallArg (too_many_arguments_text shown)

-- an argument by the name of a parameter that is filled already
unfoldable pub repeated_argument_text : (name shown : List ℕ) → List ℕ
repeated_argument_text name shown =
    shown ++ (codes " gets multiple values for keyword argument \"" ++ (name ++ codes "\""))

abbrev pub repeated_argument : Position → (name shown : List ℕ) → Diagnostic
repeated_argument at name shown = error_at at code.CallArg (repeated_argument_text name shown)

-- an argument by the name of no parameter
unfoldable pub unexpected_argument_text : (name shown : List ℕ) → List ℕ
unexpected_argument_text name shown =
    codes "Unexpected keyword argument \"" ++ (name ++ (codes "\" for " ++ shown))

abbrev pub unexpected_argument : Position → (name shown : List ℕ) → Diagnostic
unexpected_argument at name shown = error_at at code.CallArg (unexpected_argument_text name shown)

-- a plain parameter that no argument fills
unfoldable pub missing_place_text : (name shown : List ℕ) → List ℕ
missing_place_text name shown =
    codes "Missing positional argument \"" ++ (name ++ (codes "\" in call to " ++ shown))

-- a keyword-only parameter that no argument fills
unfoldable pub missing_name_text : (name shown : List ℕ) → List ℕ
missing_name_text name shown = codes "Missing named argument \"" ++ (name ++ (codes "\" for " ++ shown))

-- the error on a parameter that no argument fills, whose text is one of these two
abbrev pub missing_argument : Position → List ℕ → Diagnostic
missing_argument at text = error_at at code.CallArg text

-- ---- the types of the arguments: the messages of obligations, whose kind has the code

-- an argument by place, by its number
unfoldable pub placed_argument_text : ℕ → (shown got want : List ℕ) → List ℕ
placed_argument_text number shown got want =
    codes "Argument " ++ (decimal number ++ (codes " to " ++ (shown ++ (codes " has incompatible type \"" ++ (got
    ++ (codes "\"; expected \"" ++ (want ++ codes "\"")))))))

-- an argument by name
unfoldable pub named_argument_text : (name shown got want : List ℕ) → List ℕ
named_argument_text name shown got want =
    codes "Argument \"" ++ (name ++ (codes "\" to " ++ (shown ++ (codes " has incompatible type \"" ++ (got
    ++ (codes "\"; expected \"" ++ (want ++ codes "\"")))))))

-- ---- `reveal_type`

-- a type that is revealed, which is a note
unfoldable pub revealed_type_text : List ℕ → List ℕ
revealed_type_text shown = codes "Revealed type is \"" ++ (shown ++ codes "\"")

abbrev pub revealed_type : Position → List ℕ → Diagnostic
revealed_type at shown = note_at at (revealed_type_text shown)
