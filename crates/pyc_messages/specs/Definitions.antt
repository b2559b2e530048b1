-- The messages on imports, on names that are defined again, and on names that are not there (Python reference 3.13, "The
-- import statement", "Resolution of names"; mypy's documentation, "Missing imports").
use Rattle.std.specs.Prelude.{ℕ, List, ◌++◌, codes}
use Rattle.std.specs.Fmt.{decimal}
use Rattle.pyc_ast.specs.declared.position.Position.{Position}
use Rattle.pyc_report.specs.declared.message.Code.TheVariants as code
use Rattle.pyc_report.specs.Message.{Diagnostic, error_at}

-- ---- imports

-- a module that is not there, as the import shows it
unfoldable pub missing_module_text : List ℕ → List ℕ
missing_module_text shown =
    codes "Cannot find implementation or library stub for module named \"" ++ (shown ++ codes "\"")

abbrev pub missing_module : Position → List ℕ → Diagnostic
missing_module at shown = error_at at code.ImportNotFound (missing_module_text shown)

-- a name that is imported from a module, which does not have it
unfoldable pub no_imported_name_text : (shown name : List ℕ) → List ℕ
no_imported_name_text shown name =
    codes "Module \"" ++ (shown ++ (codes "\" has no attribute \"" ++ (name ++ codes "\"")))

abbrev pub no_imported_name : Position → (shown name : List ℕ) → Diagnostic
no_imported_name at shown name = error_at at code.AttrDefined (no_imported_name_text shown name)

-- an imported name that comes back to itself, from import to import
unfoldable pub import_cycle_text : List ℕ → List ℕ
import_cycle_text name = codes "Cannot resolve name \"" ++ (name ++ codes "\" (possible cyclic definition)")

abbrev pub import_cycle : Position → List ℕ → Diagnostic
import_cycle at name = error_at at code.Misc (import_cycle_text name)

-- ---- names

-- a name that is defined again, by the line of its declaration
unfoldable pub redefinition_text : List ℕ → ℕ → List ℕ
redefinition_text name line = codes "Name \"" ++ (name ++ (codes "\" already defined on line " ++ decimal line))

abbrev pub redefinition : Position → List ℕ → ℕ → Diagnostic
redefinition at name line = error_at at code.NoRedef (redefinition_text name line)

-- a name that nothing defines
unfoldable pub not_defined_text : List ℕ → List ℕ
not_defined_text name = codes "Name \"" ++ (name ++ codes "\" is not defined")

abbrev pub not_defined : Position → List ℕ → Diagnostic
not_defined at name = error_at at code.NameDefined (not_defined_text name)

-- an attribute that a module does not have
unfoldable pub no_module_attribute_text : List ℕ → List ℕ
no_module_attribute_text name = codes "Module has no attribute \"" ++ (name ++ codes "\"")

-- the error on an attribute that is not there, whose text says what does not have it
abbrev pub absent_attribute : Position → List ℕ → Diagnostic
absent_attribute at text = error_at at code.AttrDefined text
