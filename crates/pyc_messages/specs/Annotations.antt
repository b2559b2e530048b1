-- The messages on annotations and on the bases of classes (typing specification, "Type annotations"; Python reference
-- 3.13, "Class definitions").
use Rattle.std.specs.Prelude.{ℕ, List, ◌++◌, codes}
use Rattle.pyc_ast.specs.declared.position.Position.{Position}
use Rattle.pyc_report.specs.declared.message.Code.TheVariants as code
use Rattle.pyc_report.specs.Message.{Diagnostic, error_at}

-- ---- annotations

-- a variable, a function or a module, which is no type
unfoldable pub not_a_type_text : List ℕ → List ℕ
not_a_type_text names = codes "\"" ++ (names ++ codes "\" is not valid as a type")

abbrev pub not_a_type : Position → List ℕ → Diagnostic
not_a_type at names = error_at at code.ValidType (not_a_type_text names)

-- a form with another number of arguments than it takes
unfoldable pub wrong_count_text : List ℕ → List ℕ
wrong_count_text form = codes "Wrong number of type arguments for \"" ++ (form ++ codes "\"")

abbrev pub wrong_count : Position → List ℕ → Diagnostic
wrong_count at form = error_at at code.ValidType (wrong_count_text form)

-- any other wrong annotation
unfoldable pub invalid_annotation_text : List ℕ
invalid_annotation_text = codes "Invalid type comment or annotation"

abbrev pub invalid_annotation : Position → Diagnostic
invalid_annotation at = error_at at code.ValidType invalid_annotation_text

-- ---- bases

-- a base that is no class
unfoldable pub invalid_base_text : List ℕ → List ℕ
invalid_base_text shown = codes "Invalid base class \"" ++ (shown ++ codes "\"")

abbrev pub invalid_base : Position → List ℕ → Diagnostic
invalid_base at shown = error_at at code.Misc (invalid_base_text shown)

-- a class that is its own ancestor
unfoldable pub base_cycle_text : List ℕ → List ℕ
base_cycle_text name = codes "Cycle in the bases of \"" ++ (name ++ codes "\"")

abbrev pub base_cycle : Position → List ℕ → Diagnostic
base_cycle at name = error_at at code.Misc (base_cycle_text name)

-- a class whose bases have orders, and which has none
unfoldable pub no_order_text : List ℕ → List ℕ
no_order_text name =
    codes "Cannot determine consistent method resolution order (MRO) for \"" ++ (name ++ codes "\"")

abbrev pub no_order : Position → List ℕ → Diagnostic
no_order at name = error_at at code.Misc (no_order_text name)
