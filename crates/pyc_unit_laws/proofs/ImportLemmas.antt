-- What imports ask.
use Rattle.std.proofs.Common.{◌≡◌, ℕ, Bool, true, false, if◌then◌else◌, List, [], ◌∷◌, ◌++◌, flat_map, Option, None, Some, refl, ap, ◌∙◌}
use Rattle.pyc_ast.specs.declared.position.Position.{Position}
use Rattle.pyc_ast.specs.declared.stmt.Alias.{Alias}
use Rattle.pyc_ast.specs.Statements.{StmtForm, ImportedModule, ImportFrom}
use Rattle.pyc_ast.specs.Statements as plain
use Rattle.pyc_iface.specs.declared.options.Options.{Options}
use Rattle.pyc_imports.specs.ImportReadings.{as_open, export_reading, hidden_reported, imported_reading, import_reading, is_there, missing, module_checked, module_reading, module_reported, name_checked, name_reading, name_reported, no_name_reported, own_module_reading, own_name_reading, presence_in, written_module}
use Rattle.pyc_imports.specs.LocalImports.{ask_type, class_import_read, imported_type, local_import_read, module_bound, module_import_bound, module_read, modules_read, name_read, names_read}
use Rattle.pyc_imports.specs.Names.{alias_name}
use Rattle.pyc_locals.specs.Locals.{bound}
use Rattle.pyc_locals.specs.FlowStates.{FlowState, name_bound}
use Rattle.pyc_names.specs.Following.{QualifiedName}
use Rattle.pyc_names.specs.Interfaces.{Interface}
use Rattle.pyc_reading.specs.declared.answer.Export.{Export}
use Rattle.pyc_reading.specs.declared.answer.Export.TheVariants as passed
use Rattle.pyc_reading.specs.declared.answer.Presence.{Presence}
use Rattle.pyc_reading.specs.declared.answer.Presence.TheVariants as presence
use Rattle.pyc_reading.specs.Outside.{export_in}
use Rattle.pyc_reading.specs.Traces.{Step, reporting}
use Rattle.pyc_reading.specs.Keys.{Key}
use Rattle.pyc_reading.specs.Keys as key
use Rattle.pyc_reading.specs.Readings.{Done, and_then, asked}
use Rattle.pyc_report.specs.Message.{Diagnostic}
use Rattle.pyc_unit_laws.proofs.ImportAskedLemmas.{asked-alone, asked-both, asked-each, asked-unless}
use Rattle.pyc_unit_laws.specs.ImportRows.{Answers, ClassImportReads, ImportReads, LocalImportReads, found_keys, is_found, module_path_of, import_keys, is_fixed, local_name_keys, module_keys, presence_keys}

-- ---- modules

reporting-asks : (answers : Answers) (b : Bool) (r : Diagnostic) → asked answers (if b then Done tt else reporting r) ≡ []
reporting-asks answers true r = refl
reporting-asks answers false r = refl

missing-asks : (answers : Answers) (options : Options) (at : Position) (shown : List ℕ) → asked answers (missing options at shown) ≡ []
missing-asks answers options at shown = reporting-asks answers options.ignore_missing _

module_reported-asks : (answers : Answers) (options : Options) (at : Position) (shown : List ℕ) (found : Option Presence) → asked answers (module_reported options at shown found) ≡ []
module_reported-asks answers options at shown (Some presence.NoModule) = missing-asks answers options at shown
module_reported-asks answers options at shown (Some presence.Opaque) = refl
module_reported-asks answers options at shown (Some presence.NoName) = refl
module_reported-asks answers options at shown (Some presence.Cycle) = refl
module_reported-asks answers options at shown (Some presence.There) = refl
module_reported-asks answers options at shown None = refl

own_module-asks : (answers : Answers) (options : Options) (at : Position) (m : ImportedModule) → asked answers (own_module_reading options at m) ≡ key.has_module m.path ∷ []
unfolding and_then
own_module-asks answers options at m =
    let found = presence_in (answers (key.has_module m.path)) in
    let shown = written_module 0 m.path in
    ap (λ l. key.has_module m.path ∷ l) (asked-alone answers (module_reported options at shown found) (λ u. Done (is_there found)) [] (module_reported-asks answers options at shown found) (λ u. refl))

module-asks : (answers : Answers) (options : Options) (at : Position) (m : ImportedModule) → asked answers (module_reading options at m) ≡ module_keys m
module-asks answers options at m = asked-unless answers (is_fixed m.path) true (own_module_reading options at m) (key.has_module m.path ∷ []) (own_module-asks answers options at m)

module_checked-asks : (answers : Answers) (options : Options) (at : Position) (m : ImportedModule) → asked answers (module_checked options at m) ≡ module_keys m
module_checked-asks answers options at m = asked-alone answers (module_reading options at m) (λ is_there. Done tt) (module_keys m) (module-asks answers options at m) (λ is_there. refl)

module_read-asks : (answers : Answers) (options : Options) (at : Position) (m : ImportedModule) (p : FlowState) → asked answers (module_read options at m p) ≡ module_keys m
module_read-asks answers options at m p = asked-alone answers (module_reading options at m) (λ is_there. Done (module_bound m is_there p)) (module_keys m) (module-asks answers options at m) (λ is_there. refl)

modules_read-asks : (answers : Answers) (options : Options) (at : Position) (ms : List ImportedModule) (p : FlowState) → asked answers (modules_read options at ms p) ≡ flat_map module_keys ms
modules_read-asks answers options at [] p = refl
modules_read-asks answers options at (m ∷ rest) p =
    asked-both answers (module_read options at m p) (modules_read options at rest) (module_keys m) (flat_map module_keys rest) (module_read-asks answers options at m p) (modules_read-asks answers options at rest)

-- ---- names of modules

-- where nothing is asked, nothing is asked before a name counts as passed on
as_open-asks : (answers : Answers) (r : Step (Unit {0})) → asked answers r ≡ [] → asked answers (as_open r) ≡ []
as_open-asks answers r nothing = asked-alone answers r (λ u. Done passed.Open) [] nothing (λ u. refl)

hidden_reported-asks : (answers : Answers) (at : Position) (shown x : List ℕ) (passed_on : Export) → asked answers (hidden_reported at shown x passed_on) ≡ []
hidden_reported-asks answers at shown x passed.Open = refl
hidden_reported-asks answers at shown x passed.Submodule = refl
hidden_reported-asks answers at shown x passed.Hidden = refl

export-asks : (answers : Answers) (at : Position) (shown : List ℕ) (q : QualifiedName) → asked answers (export_reading at shown q) ≡ key.export q ∷ []
unfolding and_then
export-asks answers at shown q =
    let passed_on = export_in (answers (key.export q)) in
    ap (λ l. key.export q ∷ l) (asked-alone answers (hidden_reported at shown q.name passed_on) (λ u. Done passed_on) [] (hidden_reported-asks answers at shown q.name passed_on) (λ u. refl))

name_reported-asks : (answers : Answers) (options : Options) (at : Position) (shown : List ℕ) (q : QualifiedName) (found : Option Presence)
    → asked answers (name_reported options at shown q found) ≡ (if is_found found then key.export q ∷ [] else [])
name_reported-asks answers options at shown q (Some presence.NoModule) = as_open-asks answers (missing options at shown) (missing-asks answers options at shown)
name_reported-asks answers options at shown q (Some presence.Opaque) = refl
name_reported-asks answers options at shown q (Some presence.NoName) = as_open-asks answers (no_name_reported at shown q.name) refl
name_reported-asks answers options at shown q (Some presence.Cycle) = refl
name_reported-asks answers options at shown q (Some presence.There) = export-asks answers at shown q
name_reported-asks answers options at shown q None = refl

own_name-asks : (answers : Answers) (options : Options) (at : Position) (shown : List ℕ) (q : QualifiedName) → asked answers (own_name_reading options at shown q) ≡ found_keys answers q
unfolding and_then
own_name-asks answers options at shown q = ap (λ l. key.has_name q ∷ l) (name_reported-asks answers options at shown q (presence_in (answers (key.has_name q))))

name_reading-asks : (answers : Answers) (options : Options) (at : Position) (shown x : List ℕ) (module_path : Option (List (List ℕ)))
    → asked answers (name_reading options at shown x module_path) ≡ presence_keys answers module_path x
name_reading-asks answers options at shown x None = as_open-asks answers (missing options at shown) (missing-asks answers options at shown)
name_reading-asks answers options at shown x (Some m) =
    let q : QualifiedName = record { module_path = m; name = x } in
    asked-unless answers (is_fixed m) passed.Open (own_name_reading options at shown q) (found_keys answers q) (own_name-asks answers options at shown q)

imported-asks : (answers : Answers) (options : Options) (file : Interface) (at : Position) (from : ImportFrom) (a : Alias)
    → asked answers (imported_reading options file at from a) ≡ presence_keys answers (module_path_of file from) a.name
imported-asks answers options file at from a = name_reading-asks answers options at (written_module from.dots from.path) a.name (module_path_of file from)

name_checked-asks : (answers : Answers) (options : Options) (file : Interface) (at : Position) (from : ImportFrom) (a : Alias)
    → asked answers (name_checked options file at from a) ≡ presence_keys answers (module_path_of file from) a.name
name_checked-asks answers options file at from a =
    asked-alone answers (imported_reading options file at from a) (λ passed_on. Done tt) (presence_keys answers (module_path_of file from) a.name) (imported-asks answers options file at from a) (λ passed_on. refl)

-- what the type of a name asks
abbrev type_keys : Option (List (List ℕ)) → List ℕ → List Key
type_keys None x = []
type_keys (Some m) x = if is_fixed m then [] else key.name (record { module_path = m; name = x }) ∷ []

type-asks : (answers : Answers) (module_path : Option (List (List ℕ))) (x : List ℕ) (passed_on : Export) → asked answers (imported_type module_path x passed_on) ≡ type_keys module_path x
unfolding and_then
type-asks answers None x passed_on = refl
type-asks answers (Some m) x passed_on =
    let q : QualifiedName = record { module_path = m; name = x } in
    asked-unless answers (is_fixed m) _ (ask_type q passed_on) (key.name q ∷ []) refl

either : (b : Bool) (ks ls : List Key) → (if b then [] else ks) ++ (if b then [] else ls) ≡ (if b then [] else ks ++ ls)
either true ks ls = refl
either false ks ls = refl

both_keys : (answers : Answers) (module_path : Option (List (List ℕ))) (x : List ℕ) → presence_keys answers module_path x ++ type_keys module_path x ≡ local_name_keys answers module_path x
both_keys answers None x = refl
both_keys answers (Some m) x =
    let q : QualifiedName = record { module_path = m; name = x } in
    either (is_fixed m) (found_keys answers q) (key.name q ∷ [])

name_read-asks : (answers : Answers) (options : Options) (file : Interface) (at : Position) (from : ImportFrom) (a : Alias) (p : FlowState)
    → asked answers (name_read options file at from a p) ≡ local_name_keys answers (module_path_of file from) a.name
name_read-asks answers options file at from a p =
    let module_path = module_path_of file from in
    asked-both answers (imported_reading options file at from a) (λ passed_on. and_then (imported_type module_path a.name passed_on) (λ ty. Done (name_bound (alias_name a) (bound ty) p)))
    (presence_keys answers module_path a.name) (type_keys module_path a.name)
    (imported-asks answers options file at from a)
    (λ passed_on. asked-alone answers (imported_type module_path a.name passed_on) (λ ty. Done (name_bound (alias_name a) (bound ty) p)) (type_keys module_path a.name) (type-asks answers module_path a.name passed_on) (λ ty. refl))
    ∙ both_keys answers module_path a.name

names_read-asks : (answers : Answers) (options : Options) (file : Interface) (at : Position) (from : ImportFrom) (names : List Alias) (p : FlowState)
    → asked answers (names_read options file at from names p) ≡ flat_map (λ (a : Alias). local_name_keys answers (module_path_of file from) a.name) names
names_read-asks answers options file at from [] p = refl
names_read-asks answers options file at from (a ∷ rest) p =
    asked-both answers (name_read options file at from a p) (names_read options file at from rest) (local_name_keys answers (module_path_of file from) a.name)
    (flat_map (λ (b : Alias). local_name_keys answers (module_path_of file from) b.name) rest) (name_read-asks answers options file at from a p) (names_read-asks answers options file at from rest)

-- ---- statements

pub import_asks : ImportReads
import_asks answers options file at (plain.import modules) = asked-each answers (module_checked options at) module_keys modules (module_checked-asks answers options at)
import_asks answers options file at (plain.import_from from) =
    asked-each answers (name_checked options file at from) (λ (a : Alias). presence_keys answers (module_path_of file from) a.name) from.names (name_checked-asks answers options file at from)
import_asks answers options file at (plain.expression x) = refl
import_asks answers options file at (plain.assign targets x) = refl
import_asks answers options file at (plain.annotate found) = refl
import_asks answers options file at (plain.augment found) = refl
import_asks answers options file at (plain.return x) = refl
import_asks answers options file at (plain.raise x y) = refl
import_asks answers options file at (plain.assert x y) = refl
import_asks answers options file at (plain.delete to) = refl
import_asks answers options file at plain.pass = refl
import_asks answers options file at plain.break = refl
import_asks answers options file at plain.continue = refl
import_asks answers options file at (plain.global names) = refl
import_asks answers options file at (plain.nonlocal names) = refl
import_asks answers options file at (plain.if_else branches orelse) = refl
import_asks answers options file at (plain.while test body orelse) = refl
import_asks answers options file at (plain.for head body orelse) = refl
import_asks answers options file at (plain.try body handlers orelse finally) = refl
import_asks answers options file at (plain.with is_async items body) = refl
import_asks answers options file at (plain.function head body) = refl
import_asks answers options file at (plain.class head body) = refl

pub class_import_asks : ClassImportReads
unfolding class_import_read
class_import_asks answers options file at form p =
    asked-alone answers (import_reading options file at form) (λ u. Done (module_import_bound form p)) (import_keys answers file form) (import_asks answers options file at form) (λ u. refl)

pub local_import_asks : LocalImportReads
unfolding local_import_read
local_import_asks answers options file at (plain.import modules) p = modules_read-asks answers options at modules p
local_import_asks answers options file at (plain.import_from from) p = names_read-asks answers options file at from from.names p
local_import_asks answers options file at (plain.expression x) p = refl
local_import_asks answers options file at (plain.assign targets x) p = refl
local_import_asks answers options file at (plain.annotate found) p = refl
local_import_asks answers options file at (plain.augment found) p = refl
local_import_asks answers options file at (plain.return x) p = refl
local_import_asks answers options file at (plain.raise x y) p = refl
local_import_asks answers options file at (plain.assert x y) p = refl
local_import_asks answers options file at (plain.delete to) p = refl
local_import_asks answers options file at plain.pass p = refl
local_import_asks answers options file at plain.break p = refl
local_import_asks answers options file at plain.continue p = refl
local_import_asks answers options file at (plain.global names) p = refl
local_import_asks answers options file at (plain.nonlocal names) p = refl
local_import_asks answers options file at (plain.if_else branches orelse) p = refl
local_import_asks answers options file at (plain.while test body orelse) p = refl
local_import_asks answers options file at (plain.for head body orelse) p = refl
local_import_asks answers options file at (plain.try body handlers orelse finally) p = refl
local_import_asks answers options file at (plain.with is_async items body) p = refl
local_import_asks answers options file at (plain.function head body) p = refl
local_import_asks answers options file at (plain.class head body) p = refl
