-- What headers ask.
use Rattle.std.proofs.Common.{◌≡◌, ℕ, Bool, true, false, ◌&&◌, is_none, if◌then◌else◌, List, [], ◌∷◌, ◌++◌, flat_map, Option, None, Some, refl, ap}
use Rattle.pyc_ast.specs.declared.position.Position.{Position}
use Rattle.pyc_ast.specs.Modules.{Outcome, tree, fault}
use Rattle.pyc_bindings.specs.Bindings.{Binding, form_of}
use Rattle.pyc_bindings.specs.Redefinitions.{declaration, Redefinition}
use Rattle.pyc_bindings.specs.Scopes.{Part, statement, target, caught, parts_of}
use Rattle.pyc_bindings.specs.declared.place.BindingSite.{BindingSite}
use Rattle.pyc_bindings.specs.Scopes.{PartForm}
use Rattle.pyc_functions.specs.Redefined.{redefinition_reading}
use Rattle.pyc_iface.specs.declared.options.Options.{Options}
use Rattle.pyc_imports.specs.ImportReadings.{ask_presence, presence_in}
use Rattle.pyc_names.specs.Following.{is_import_from}
use Rattle.pyc_names.specs.Interfaces.{interface_of}
use Rattle.pyc_names.specs.SourceFiles.{SourceFile}
use Rattle.pyc_reading.specs.declared.answer.Presence.{Presence}
use Rattle.pyc_reading.specs.declared.answer.Presence.TheVariants as presence
use Rattle.pyc_reading.specs.Traces.{Step}
use Rattle.pyc_reading.specs.Keys.{Key}
use Rattle.pyc_reading.specs.Keys as key
use Rattle.pyc_reading.specs.Readings.{Done, and_then, asked, each}
use Rattle.pyc_unit_laws.proofs.ImportAskedLemmas.{asked-alone, asked-both, asked-each, asked-unless}
use Rattle.pyc_unit_laws.proofs.ImportLemmas.{import_asks}
use Rattle.pyc_unit_laws.specs.ImportRows.{Answers, HeaderReads, binding_keys, header_keys, is_fixed, part_keys, ring_keys, all_ring_keys}
use Rattle.pyc_units.specs.Header.{binding_reading, cycle_reading, cycle_reported, cycles_after, form_reading, header_reading, outcome_reading, part_reading}

-- ---- parts

part-asks : (answers : Answers) (options : Options) (file : SourceFile) (place : BindingSite) (form : PartForm) → asked answers (form_reading options file place form) ≡ part_keys answers (interface_of file) form
part-asks answers options file place (statement found) = import_asks answers options (interface_of file) place.at (form_of found)
part-asks answers options file place (target to) = refl
part-asks answers options file place (caught n) = refl

-- ---- rings

cycle_reported-asks : (answers : Answers) (at : Position) (x : List ℕ) (found : Option Presence) → asked answers (cycle_reported at x found) ≡ []
cycle_reported-asks answers at x (Some presence.NoModule) = refl
cycle_reported-asks answers at x (Some presence.Opaque) = refl
cycle_reported-asks answers at x (Some presence.NoName) = refl
cycle_reported-asks answers at x (Some presence.Cycle) = refl
cycle_reported-asks answers at x (Some presence.There) = refl
cycle_reported-asks answers at x None = refl

own_cycle-asks : (answers : Answers) (at : Position) (x : List ℕ) (k : Key) → asked answers (and_then (ask_presence k) (cycle_reported at x)) ≡ k ∷ []
unfolding and_then
own_cycle-asks answers at x k = ap (λ l. k ∷ l) (cycle_reported-asks answers at x (presence_in (answers k)))

cycle-asks : (answers : Answers) (file : SourceFile) (b : Binding) → asked answers (cycle_reading file b) ≡ ring_keys file b.name
cycle-asks answers file b =
    let k = key.has_name (record { module_path = file.name; name = b.name }) in
    asked-unless answers (is_fixed file.name) tt (and_then (ask_presence k) (cycle_reported b.place.at b.name)) (k ∷ []) (own_cycle-asks answers b.place.at b.name k)

if-asks : (answers : Answers) (b : Bool) (r : Step (Unit {0})) (keys : List Key) → asked answers r ≡ keys → asked answers (if b then r else Done tt) ≡ (if b then keys else [])
if-asks answers true r keys same = same
if-asks answers false r keys same = refl

binding-asks : (answers : Answers) (file : SourceFile) (earlier : List Binding) (b : Binding) → asked answers (binding_reading file earlier b) ≡ binding_keys file earlier b
binding-asks answers file earlier b = if-asks answers (is_import_from b.form && is_none (declaration earlier b.name)) (cycle_reading file b) (ring_keys file b.name) (cycle-asks answers file b)

cycles-asks : (answers : Answers) (file : SourceFile) (earlier later : List Binding) → asked answers (cycles_after file earlier later) ≡ all_ring_keys file earlier later
cycles-asks answers file earlier [] = refl
cycles-asks answers file earlier (b ∷ later) =
    asked-both answers (binding_reading file earlier b) (λ u. cycles_after file (earlier ++ (b ∷ [])) later) (binding_keys file earlier b) (all_ring_keys file (earlier ++ (b ∷ [])) later)
    (binding-asks answers file earlier b) (λ u. cycles-asks answers file (earlier ++ (b ∷ [])) later)

-- ---- the whole

again-asks : (answers : Answers) (again : List Redefinition) → asked answers (each redefinition_reading again) ≡ []
unfolding and_then
again-asks answers [] = refl
again-asks answers (found ∷ rest) = again-asks answers rest

outcome-asks : (answers : Answers) (options : Options) (file : SourceFile) (outcome : Outcome) → asked answers (outcome_reading options file outcome) ≡ header_keys answers file outcome
outcome-asks answers options file (tree m) =
    let parts = parts_of m.statements false in
    asked-both answers (each (part_reading options file) parts) (λ u. and_then (cycles_after file [] file.bindings) (λ v. each redefinition_reading file.again))
    (flat_map (λ (part : Part). part_keys answers (interface_of file) part.form) parts) (all_ring_keys file [] file.bindings)
    (asked-each answers (part_reading options file) (λ (part : Part). part_keys answers (interface_of file) part.form) parts (λ part. part-asks answers options file part.place part.form))
    (λ u. asked-alone answers (cycles_after file [] file.bindings) (λ v. each redefinition_reading file.again) (all_ring_keys file [] file.bindings) (cycles-asks answers file [] file.bindings) (λ v. again-asks answers file.again))
outcome-asks answers options file (fault line text) = refl

pub header_asks : HeaderReads
unfolding header_reading
header_asks answers options file = outcome-asks answers options file file.outcome
