-- What imports ask (Python reference 3.13, "The import statement" and "The import system").
use Rattle.std.specs.Prelude.{◌≡◌, ℕ, Bool, true, false, ◌&&◌, is_none, is_some, if◌then◌else◌, List, [], ◌∷◌, ◌++◌}
use Rattle.std.specs.Prelude.{flat_map, Option, None, Some}
use Rattle.pyc_ast.specs.declared.position.Position.{Position}
use Rattle.pyc_ast.specs.declared.stmt.Alias.{Alias}
use Rattle.pyc_ast.specs.Modules.{Outcome, tree, fault}
use Rattle.pyc_ast.specs.Statements.{StmtForm, ImportedModule, ImportFrom}
use Rattle.pyc_ast.specs.Statements as plain
use Rattle.pyc_bindings.specs.Bindings.{Binding, form_of}
use Rattle.pyc_bindings.specs.Redefinitions.{declaration}
use Rattle.pyc_bindings.specs.Scopes.{Part, PartForm, statement, parts_of}
use Rattle.pyc_iface.specs.declared.options.Options.{Options}
use Rattle.pyc_imports.specs.ImportReadings.{import_reading, presence_in}
use Rattle.pyc_imports.specs.LocalImports.{class_import_read, local_import_read}
use Rattle.pyc_locals.specs.FlowStates.{FlowState}
use Rattle.pyc_names.specs.FixedModules.{fixed_module}
use Rattle.pyc_names.specs.Following.{QualifiedName, is_import_from}
use Rattle.pyc_names.specs.Imports.{named_module}
use Rattle.pyc_names.specs.Interfaces.{Interface, interface_of}
use Rattle.pyc_names.specs.SourceFiles.{SourceFile}
use Rattle.pyc_reading.specs.Answers.{Answer}
use Rattle.pyc_reading.specs.declared.answer.Presence.{Presence}
use Rattle.pyc_reading.specs.declared.answer.Presence.TheVariants as presence
use Rattle.pyc_reading.specs.Keys.{Key}
use Rattle.pyc_reading.specs.Keys as key
use Rattle.pyc_reading.specs.Readings.{asked}
use Rattle.pyc_units.specs.Header.{header_reading}

-- what is answered to each key
abbrev pub Answers : Type 0
Answers = Key → Answer

-- whether a module is a fixed one, which no file can change
abbrev pub is_fixed : List (List ℕ) → Bool
is_fixed m = is_some (fixed_module m)

-- ---- modules

-- a module of `import`: whether it is there; nothing of a fixed one
abbrev pub module_keys : ImportedModule → List Key
module_keys m = if is_fixed m.path then [] else key.has_module m.path ∷ []

-- ---- names of modules

-- the module that a from-import names; none above the root
abbrev pub module_path_of : Interface → ImportFrom → Option (List (List ℕ))
module_path_of file from = named_module file.is_package file.name from.dots from.path

-- whether a module has a name, as its presence says it
abbrev pub is_found : Option Presence → Bool
is_found (Some presence.There) = true
is_found _ = false

-- a name of a module that is no fixed one: whether the module has it; and where it has, whether it passes the name on
abbrev pub found_keys : Answers → QualifiedName → List Key
found_keys answers q =
    key.has_name q ∷ (if is_found (presence_in (answers (key.has_name q))) then key.export q ∷ [] else [])

-- a name of a module; nothing of a fixed module, nor above the root
abbrev pub presence_keys : Answers → Option (List (List ℕ)) → List ℕ → List Key
presence_keys answers None x = []
presence_keys answers (Some m) x =
    if is_fixed m then [] else found_keys answers (record { module_path = m; name = x })

-- such a name in the body of a function: then what it stands for as well
abbrev pub local_name_keys : Answers → Option (List (List ℕ)) → List ℕ → List Key
local_name_keys answers None x = []
local_name_keys answers (Some m) x =
    if is_fixed m then []
    else found_keys answers (record { module_path = m; name = x })
    ++ (key.name (record { module_path = m; name = x }) ∷ [])

-- ---- statements

-- an import at the top level of a module or in the body of a class: its modules or names, in turn; other statements ask
-- nothing as imports
abbrev pub import_keys : Answers → Interface → StmtForm → List Key
import_keys answers file (plain.import modules) = flat_map module_keys modules
import_keys answers file (plain.import_from from) =
    flat_map (λ (a : Alias). presence_keys answers (module_path_of file from) a.name) from.names
import_keys answers file _ = []

-- an import in the body of a function
abbrev pub local_import_keys : Answers → Interface → StmtForm → List Key
local_import_keys answers file (plain.import modules) = flat_map module_keys modules
local_import_keys answers file (plain.import_from from) =
    flat_map (λ (a : Alias). local_name_keys answers (module_path_of file from) a.name) from.names
local_import_keys answers file _ = []

-- the law of imports at the top level of a module
abbrev pub ImportReads : Type 0
ImportReads =
    (answers : Answers) (options : Options) (file : Interface) (at : Position) (form : StmtForm)
    → asked answers (import_reading options file at form) ≡ import_keys answers file form

-- the law of imports in the body of a class
abbrev pub ClassImportReads : Type 0
ClassImportReads =
    (answers : Answers) (options : Options) (file : Interface) (at : Position) (form : StmtForm) (p : FlowState)
    → asked answers (class_import_read options file at form p) ≡ import_keys answers file form

-- the law of imports in the body of a function
abbrev pub LocalImportReads : Type 0
LocalImportReads =
    (answers : Answers) (options : Options) (file : Interface) (at : Position) (form : StmtForm) (p : FlowState)
    → asked answers (local_import_read options file at form p) ≡ local_import_keys answers file form

-- ---- headers

-- a part of the top level: an import
abbrev pub part_keys : Answers → Interface → PartForm → List Key
part_keys answers file (statement found) = import_keys answers file (form_of found)
part_keys answers file _ = []

-- whether a name of the file is on a ring; nothing where the file has the name of a fixed module
abbrev pub ring_keys : SourceFile → List ℕ → List Key
ring_keys file x = if is_fixed file.name then [] else key.has_name (record { module_path = file.name; name = x }) ∷ []

-- a binding after earlier ones: a from-import that declares its name
abbrev pub binding_keys : SourceFile → List Binding → Binding → List Key
binding_keys file earlier b =
    if is_import_from b.form && is_none (declaration earlier b.name) then ring_keys file b.name else []

abbrev pub all_ring_keys : SourceFile → List Binding → List Binding → List Key
all_ring_keys file earlier [] = []
all_ring_keys file earlier (b ∷ later) = binding_keys file earlier b ++ all_ring_keys file (earlier ++ (b ∷ [])) later

-- the header of a file: its imports, and then the names that its from-imports declare; nothing of a file with a fault
abbrev pub header_keys : Answers → SourceFile → Outcome → List Key
header_keys answers file (tree m) =
    flat_map (λ (part : Part). part_keys answers (interface_of file) part.form) (parts_of m.statements false)
    ++ all_ring_keys file [] file.bindings
header_keys answers file (fault line text) = []

-- the law of headers
abbrev pub HeaderReads : Type 0
HeaderReads =
    (answers : Answers) (options : Options) (file : SourceFile)
    → asked answers (header_reading options file) ≡ header_keys answers file file.outcome
