-- What is reported of the top level of a module: imports that are not there, cyclic definitions, and names that are
-- defined again. It is a reading: it asks keys, and knows no other file (Python reference 3.13, "The import statement";
-- mypy's documentation, "Missing imports", "Check that each name is defined once").
use Rattle.std.specs.Prelude.{ℕ, ◌&&◌, is_none, is_some, if◌then◌else◌, List, [], ◌∷◌, ◌++◌}
use Rattle.std.specs.Prelude.{false, Option, Some}
use Rattle.pyc_ast.specs.declared.position.Position.{Position}
use Rattle.pyc_ast.specs.Modules.{Outcome, tree, fault}
use Rattle.pyc_bindings.specs.declared.place.BindingSite.{BindingSite}
use Rattle.pyc_bindings.specs.Bindings.{Binding, form_of}
use Rattle.pyc_bindings.specs.Redefinitions.{declaration}
use Rattle.pyc_bindings.specs.Scopes.{Part, PartForm, statement, parts_of}
use Rattle.pyc_functions.specs.Redefined.{redefinition_reading}
use Rattle.pyc_iface.specs.declared.options.Options.{Options}
use Rattle.pyc_imports.specs.ImportReadings.{import_reading, ask_presence}
use Rattle.pyc_messages.specs.Definitions as message
use Rattle.pyc_names.specs.FixedModules.{fixed_module}
use Rattle.pyc_names.specs.Following.{is_import_from}
use Rattle.pyc_names.specs.Interfaces.{interface_of}
use Rattle.pyc_names.specs.SourceFiles.{SourceFile}
use Rattle.pyc_reading.specs.declared.answer.Presence.{Presence}
use Rattle.pyc_reading.specs.declared.answer.Presence.TheVariants as presence
use Rattle.pyc_reading.specs.Traces.{Step, line_reported, reporting}
use Rattle.pyc_reading.specs.Keys.{has_name}
use Rattle.pyc_reading.specs.Readings.{Done, and_then, each}
use Rattle.pyc_report.specs.declared.message.Code.TheVariants as code

-- ---- imports

-- a part of the top level: an import asks for each of its modules or names
abbrev pub form_reading : Options → SourceFile → BindingSite → PartForm → Step (Unit {0})
form_reading options file place (statement found) = import_reading options (interface_of file) place.at (form_of found)
form_reading options file place _ = Done tt

abbrev pub part_reading : Options → SourceFile → Part → Step (Unit {0})
part_reading options file part = form_reading options file part.place part.form

-- ---- cyclic definitions

-- a name, by what its module says of it
abbrev pub cycle_reported : Position → List ℕ → Option Presence → Step (Unit {0})
cycle_reported at name (Some presence.Cycle) = reporting (message.import_cycle at name)
cycle_reported at name _ = Done tt

-- a name of the file that a from-import declares: whether it is on a ring
abbrev pub cycle_reading : SourceFile → Binding → Step (Unit {0})
cycle_reading file b =
    if is_some (fixed_module file.name) then Done tt
    else and_then (ask_presence (has_name (record { module_path = file.name; name = b.name })))
    (cycle_reported b.place.at b.name)

-- a binding after earlier ones: a from-import that declares its name
abbrev pub binding_reading : SourceFile → List Binding → Binding → Step (Unit {0})
binding_reading file earlier b =
    if is_import_from b.form && is_none (declaration earlier b.name) then cycle_reading file b else Done tt

abbrev pub cycles_after : SourceFile → List Binding → List Binding → Step (Unit {0})
cycles_after file earlier [] = Done tt
cycles_after file earlier (b ∷ later) =
    and_then (binding_reading file earlier b) (λ u. cycles_after file (earlier ++ (b ∷ [])) later)

-- ---- the whole

-- the header of a file with this source: of one with a fault the fault alone is reported
abbrev pub outcome_reading : Options → SourceFile → Outcome → Step (Unit {0})
outcome_reading options file (tree m) =
    and_then (each (part_reading options file) (parts_of m.statements false))
    (λ u. and_then (cycles_after file [] file.bindings)
    (λ v. each redefinition_reading file.again))
outcome_reading options file (fault line text) = line_reported line code.Syntax text

unfoldable pub header_reading : Options → SourceFile → Step (Unit {0})
header_reading options file = outcome_reading options file file.outcome
