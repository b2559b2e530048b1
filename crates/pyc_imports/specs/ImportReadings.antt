-- What is reported of imports: modules and names that are not there (Python reference 3.13, "The import statement";
-- mypy's documentation, "Missing imports"; typing specification, "Stub files").
use Rattle.std.specs.Prelude.{ℕ, zero, suc, Bool, true, false, is_some, if◌then◌else◌, List, [], ◌∷◌, ◌++◌}
use Rattle.std.specs.Prelude.{Option, None, Some}
use Rattle.pyc_ast.specs.declared.position.Position.{Position}
use Rattle.pyc_ast.specs.declared.stmt.Alias.{Alias}
use Rattle.pyc_ast.specs.Statements.{StmtForm, ImportedModule, ImportFrom}
use Rattle.pyc_ast.specs.Statements as plain
use Rattle.pyc_iface.specs.declared.options.Options.{Options}
use Rattle.pyc_messages.specs.Definitions as message
use Rattle.pyc_names.specs.FixedModules.{fixed_module}
use Rattle.pyc_names.specs.Following.{QualifiedName}
use Rattle.pyc_names.specs.Imports.{named_module}
use Rattle.pyc_names.specs.Interfaces.{Interface}
use Rattle.pyc_reading.specs.Answers.{Answer, presence_of}
use Rattle.pyc_reading.specs.declared.answer.Export.{Export}
use Rattle.pyc_reading.specs.declared.answer.Export.TheVariants as passed
use Rattle.pyc_reading.specs.declared.answer.Presence.{Presence}
use Rattle.pyc_reading.specs.declared.answer.Presence.TheVariants as presence
use Rattle.pyc_reading.specs.Outside.{ask_export}
use Rattle.pyc_reading.specs.Traces.{Step, reporting}
use Rattle.pyc_reading.specs.Keys.{Key, has_module, has_name}
use Rattle.pyc_reading.specs.Readings.{Done, Ask, each, ◌>>=◌}
use Rattle.pyc_report.specs.NameTexts.{joined_names}

-- ---- what messages show

-- so many dots
abbrev pub dots : ℕ → List ℕ
dots zero = []
dots (suc n) = 46 ∷ dots n

-- a module as it is written: the dots before its name, and its name
unfoldable pub written_module : ℕ → List (List ℕ) → List ℕ
written_module n path = dots n ++ joined_names path

-- ---- what is asked

-- whether a module or a name is there, as an answer says it
abbrev pub presence_in : Answer → Option Presence
presence_in (presence_of found) = Some found
presence_in _ = None

abbrev pub ask_presence : Key → Step (Option Presence)
ask_presence key = Ask key (λ answer. Done (presence_in answer))

-- ---- imports

-- a module that is not there, reported unless missing imports are left out
abbrev pub missing : Options → Position → List ℕ → Step (Unit {0})
missing options at shown =
    if options.ignore_missing then Done tt else reporting (message.missing_module at shown)

-- a module, by whether it is there
abbrev pub module_reported : Options → Position → List ℕ → Option Presence → Step (Unit {0})
module_reported options at shown (Some presence.NoModule) = missing options at shown
module_reported options at shown _ = Done tt

-- whether a module is there, as its presence says it
abbrev pub is_there : Option Presence → Bool
is_there (Some presence.NoModule) = false
is_there _ = true

-- whether a module that is no fixed one is there: it is asked for, and reported where it is not
abbrev pub own_module_reading : Options → Position → ImportedModule → Step Bool
own_module_reading options at m = do
  found ← ask_presence (has_module m.path)
  u ← module_reported options at (written_module 0 m.path) found
  Done (is_there found)

-- a module that is imported, and whether it is there; a fixed one is
abbrev pub module_reading : Options → Position → ImportedModule → Step Bool
module_reading options at m =
    if is_some (fixed_module m.path) then Done true else own_module_reading options at m

-- a module of a statement, which does not ask whether it is there
abbrev pub module_checked : Options → Position → ImportedModule → Step (Unit {0})
module_checked options at m = do
  is_there ← module_reading options at m
  Done tt

-- a name that its module does not have, or hides
abbrev pub no_name_reported : Position → List ℕ → List ℕ → Step (Unit {0})
no_name_reported at shown name = reporting (message.no_imported_name at shown name)

-- a name that is there, by whether its module passes it on
abbrev pub hidden_reported : Position → List ℕ → List ℕ → Export → Step (Unit {0})
hidden_reported at shown name passed.Hidden = no_name_reported at shown name
hidden_reported at shown name _ = Done tt

-- a name that is there: it is asked whether its module passes it on
abbrev pub export_reading : Position → List ℕ → QualifiedName → Step Export
export_reading at shown q = do
  passed_on ← ask_export q
  u ← hidden_reported at shown q.name passed_on
  Done passed_on

-- a reading, and then that a name is passed on: where a name is not there, nothing hides it
abbrev pub as_open : Step (Unit {0}) → Step Export
as_open reading = do
  u ← reading
  Done passed.Open

-- a name that is imported from a module, by whether it is there, and whether the module passes it on
abbrev pub name_reported : Options → Position → List ℕ → QualifiedName → Option Presence → Step Export
name_reported options at shown q (Some presence.There) = export_reading at shown q
name_reported options at shown q (Some presence.NoModule) = as_open (missing options at shown)
name_reported options at shown q (Some presence.NoName) = as_open (no_name_reported at shown q.name)
name_reported options at shown q _ = Done passed.Open

-- a name of a module that is no fixed one
abbrev pub own_name_reading : Options → Position → List ℕ → QualifiedName → Step Export
own_name_reading options at shown q = ask_presence (has_name q) >>= name_reported options at shown q

-- a name that is imported from a module, or from above the root, where nothing is there
abbrev pub name_reading : Options → Position → List ℕ → List ℕ → Option (List (List ℕ)) → Step Export
name_reading options at shown name None = as_open (missing options at shown)
name_reading options at shown name (Some m) =
    if is_some (fixed_module m) then Done passed.Open
    else own_name_reading options at shown (record { module_path = m; name = name })

-- one name of a from-import, and whether its module passes it on
abbrev pub imported_reading : Options → Interface → Position → ImportFrom → Alias → Step Export
imported_reading options file at from alias =
    name_reading options at (written_module from.dots from.path) alias.name
    (named_module file.is_package file.name from.dots from.path)

-- one name of a statement, where nothing hangs on whether its module passes it on
abbrev pub name_checked : Options → Interface → Position → ImportFrom → Alias → Step (Unit {0})
name_checked options file at from alias = do
  passed_on ← imported_reading options file at from alias
  Done tt

-- a statement: an import asks for each of its modules or names
abbrev pub import_reading : Options → Interface → Position → StmtForm → Step (Unit {0})
import_reading options file at (plain.import modules) = each (module_checked options at) modules
import_reading options file at (plain.import_from from) = each (name_checked options file at from) from.names
import_reading options file at _ = Done tt
