-- Which keys whole units ask.
use Rattle.std.proofs.Common.{◌≡◌, ◌<◌, ℕ, zero, suc, ◌-◌, nat_le, Bool, true, false, not, ◌&&◌, if◌then◌else◌, List, [], ◌∷◌, ◌++◌, length, take, flat_map, Option, None, Some, option_map, refl, ap, subst, arith, leb-false, ◌∙◌}
use Rattle.std.proofs.lemmas.Bool.{lt-leb}
use Rattle.pyc_ast.specs.declared.position.Position.{Position}
use Rattle.pyc_ast.specs.declared.stmt.Alias.{Alias}
use Rattle.pyc_ast.specs.Modules.{Outcome, tree, fault}
use Rattle.pyc_ast.specs.Statements.{ClassDefinition, FunctionDefinition, ImportFrom, Stmt, StmtForm, Stmts, stmt}
use Rattle.pyc_ast.specs.Statements as plain
use Rattle.pyc_bindings.specs.Bindings.{Binding, bindings_of}
use Rattle.pyc_bindings.specs.Redefinitions.{redefinitions}
use Rattle.pyc_blocks.specs.Blocks.{statements_read}
use Rattle.pyc_body_context.specs.Bodies.{Body, class_around}
use Rattle.pyc_body_context.specs.ClassBodies.{class_body, declares_class}
use Rattle.pyc_unit_laws.proofs.BodyLemmas.{head_of_files}
use Rattle.pyc_unit_laws.proofs.FileLemmas.{class_of_files, header_of_files, subclass_of_files}
use Rattle.pyc_unit_laws.specs.FileKeys.{is_source_around}
use Rattle.pyc_class_ids.specs.Class.{user}
use Rattle.pyc_expression_laws.proofs.ObligationKeyLemmas.{of-required}
use Rattle.pyc_expression_laws.proofs.StepLemmas.{Files, files_done, files_each, files_if, files_report, files_then}
use Rattle.pyc_functions.specs.Bodies.{class_body_reading, class_statements_read, plain_body_read, statements_unless}
use Rattle.pyc_functions.specs.Ends.{end_read, is_idle_body, required_end}
use Rattle.pyc_functions.specs.FunctionNames.{function_bindings, function_locals}
use Rattle.pyc_functions.specs.Functions.{HeadTypes, begun, body_read, function_reading, inside_of, is_checked, statements_and_end_read}
use Rattle.pyc_functions.specs.Redefined.{redefined_reported, redefinition_reading}
use Rattle.pyc_iface.specs.declared.options.Options.{Options}
use Rattle.pyc_locals.specs.Locals.{no_locals}
use Rattle.pyc_locals.specs.FlowStates.{FlowState}
use Rattle.pyc_names.specs.Imports.{named_module, without_last}
use Rattle.pyc_names.specs.Interfaces.{Interface}
use Rattle.pyc_names.specs.SourceFiles.{SourceFile}
use Rattle.pyc_places.specs.States.{is_reachable}
use Rattle.pyc_reading.specs.Keys.{Key}
use Rattle.pyc_simple_statements.specs.BodyParts.{body_parts}
use Rattle.pyc_unit_laws.proofs.ImportLemmas.{class_import_asks, import_asks, local_import_asks}
use Rattle.pyc_unit_laws.specs.ImportRows.{Answers, module_path_of, local_name_keys, presence_keys}
use Rattle.pyc_type_forms.specs.Types.{Ty, none}
use Rattle.pyc_unit_laws.proofs.BlockLemmas.{of-statements_read}
use Rattle.pyc_unit_laws.proofs.SimpleLemmas.{of-body_parts}
use Rattle.pyc_unit_laws.specs.UnitKeys.{BlockAsksFiles, ClimbingImportAsksNothing, ClimbingImportNamesNone, UnitAsksFiles}
use Rattle.pyc_units.specs.DefinitionReadings.{class_statement_reading, definition_reading, form_reading, function_in, method_reading, module_body, statement_body}
use Rattle.pyc_units.specs.UnitReadings.{outcome_body_reading, unit_reading}
use Rattle.pyc_units.specs.Units as units

-- ---- bodies

of-block : (body : Body) → is_source_around (class_around body.kind) ≡ true → (statements : Stmts) (p : FlowState) → Files (statements_read (body_parts body) statements p)
of-block body source statements p = of-statements_read (body_parts body) (of-body_parts body source) statements p

pub block_of_files : BlockAsksFiles
block_of_files body statements p source = (of-block body source statements p).all

of-again : (bindings : List Binding) → Files (redefined_reported bindings)
of-again bindings = files_each redefinition_reading (redefinitions bindings) (λ found. files_report files_done)

of-plain_body : (body : Body) → is_source_around (class_around body.kind) ≡ true → (statements : Stmts) → Files (plain_body_read body statements)
unfolding plain_body_read
of-plain_body body source statements = files_then _ _ (of-block body source statements (begun no_locals)) (λ p. files_done)

of-class_body : (body : Body) → is_source_around (class_around body.kind) ≡ true → (suspends : Bool) (statements : Stmts) → Files (class_body_reading body suspends statements)
unfolding class_statements_read
of-class_body body source true statements = files_done
of-class_body body source false statements = files_then _ _ (of-plain_body body source statements) (λ u. of-again (bindings_of statements))

-- ---- functions

of-end_read : (at : Position) (result : Ty) (is_reached : Bool) → Files (end_read at result is_reached)
unfolding end_read
of-end_read at result is_reached = files_if is_reached _ _ (of-required (required_end at none result)) files_done

-- the statements of a function stand in no class body
of-statements_and_end : (outside : Body) (at : Position) (types : HeadTypes) (bindings : List Binding) (statements : Stmts)
    → Files (statements_and_end_read outside at types bindings statements)
unfolding statements_and_end_read
of-statements_and_end outside at types bindings statements =
    files_then _ _ (of-block (inside_of outside types.result) refl statements (begun (function_locals types.parameters bindings)))
    (λ p. of-end_read at types.result (is_reachable p.state && not (is_idle_body statements)))

of-function : (outside : Body) → is_source_around (class_around outside.kind) ≡ true → (at : Position) (head : FunctionDefinition) (statements : Stmts)
    → Files (function_reading outside at head statements)
unfolding function_reading body_read
of-function outside source at head statements =
    files_then _ _ (record { all = head_of_files outside head source }) (λ types.
    files_if (is_checked outside.file.is_stub outside.options.check_untyped head) _ _
    (files_then _ _ (of-again (function_bindings head.parameters statements))
    (λ u. of-statements_and_end outside at types (function_bindings head.parameters statements) statements))
    files_done)

-- ---- units

-- what a class statement declares is of a source
of-declared_class : (b : Bool) (m : List (List ℕ)) (x : List ℕ) → is_source_around (if b then Some (user m x) else None) ≡ true
of-declared_class true m x = refl
of-declared_class false m x = refl

statement_is_source : (options : Options) (file : SourceFile) (at : Position) (head : ClassDefinition) (body : Stmts)
    → is_source_around (class_around (statement_body options file at head body).kind) ≡ true
unfolding class_body
statement_is_source options file at head body = of-declared_class (declares_class file at head.name) file.name head.name

module _ (options : Options) (file : SourceFile) where
  of-class_statement : (at : Position) (head : ClassDefinition) (body : Stmts) → Files (class_statement_reading options file at head body)
  unfolding class_statement_reading
  of-class_statement at head body =
      files_then _ _ (record { all = class_of_files file at head }) (λ order.
      files_then _ _ (of-class_body (statement_body options file at head body) (statement_is_source options file at head body) head.suspends body)
      (λ u. record { all = subclass_of_files file head.name body order }))

  of-form : (at : Position) (form : StmtForm) → Files (form_reading options file at form)
  of-form at (plain.function head body) = of-function (module_body options file) refl at head body
  of-form at (plain.class head body) = of-class_statement at head body
  of-form at _ = files_done

  of-definition : (found : Stmt) → Files (definition_reading options file found)
  unfolding definition_reading
  of-definition (stmt at form) = of-form at form

  of-function_in : (outside : Body) → is_source_around (class_around outside.kind) ≡ true → (found : Stmt) → Files (function_in outside found)
  of-function_in outside source (stmt at (plain.function head body)) = of-function outside source at head body
  of-function_in outside source _ = files_done

  of-method : (class found : Stmt) → Files (method_reading options file class found)
  unfolding method_reading
  of-method (stmt at (plain.class head body)) found = of-function_in (statement_body options file at head body) (statement_is_source options file at head body) found
  of-method _ found = files_done

  of-module_body : (suspends : Bool) (statements : Stmts) → Files (statements_unless suspends (module_body options file) statements)
  of-module_body true statements = files_done
  of-module_body false statements = of-plain_body (module_body options file) refl statements

  of-outcome : (outcome : Outcome) → Files (outcome_body_reading options file outcome)
  of-outcome (tree m) = of-module_body m.suspends m.statements
  of-outcome (fault line text) = files_done

pub unit_of_files : UnitAsksFiles
unfolding unit_reading
unit_of_files options file units.header = header_of_files options file
unit_of_files options file units.module_body = (of-outcome options file file.outcome).all
unit_of_files options file (units.definition found) = (of-definition options file found).all
unit_of_files options file (units.method class found) = (of-method options file class found).all

-- ---- above the root

-- an import names a module
abbrev IsNamed : Option (List (List ℕ)) → Type 0
IsNamed (Some m) = Unit {0}
IsNamed None = ⊥

some_named : (m : List (List ℕ)) → Some m ≡ None → ⊥
some_named m unnamed = subst IsNamed unnamed tt

-- no name is left where more parts are left out than it has
too_few-none : (own path : List (List ℕ)) (n : ℕ) → length own < n → option_map (λ base. base ++ path) (without_last n own) ≡ None
too_few-none own path n above =
    ap (λ b. option_map (λ base. base ++ path) (if b then Some (take (length own - n) own) else None)) (lt-leb n (length own) above)

test-none : (b : Bool) (base path : List (List ℕ)) → option_map (λ base. base ++ path) (if b then Some base else None) ≡ None → b ≡ false
test-none true base path unnamed = absurd (some_named (base ++ path) unnamed)
test-none false base path unnamed = refl

none-too_few : (own path : List (List ℕ)) (n : ℕ) → option_map (λ base. base ++ path) (without_last n own) ≡ None → length own < n
none-too_few own path n unnamed = leb-false n (length own) (test-none (nat_le n (length own)) (take (length own - n) own) path unnamed)

climbs-none : (is_package : Bool) (own path : List (List ℕ)) (dots : ℕ) → (if is_package then suc (length own) else length own) < dots
    → named_module is_package own dots path ≡ None
climbs-none true own path zero above = absurd (omega arith)
climbs-none false own path zero above = absurd (omega arith)
climbs-none true own path (suc levels) above = too_few-none own path levels (omega arith)
climbs-none false own path (suc levels) above = too_few-none own path (suc levels) above

none-climbs : (is_package : Bool) (own path : List (List ℕ)) (dots : ℕ) → named_module is_package own dots path ≡ None
    → (if is_package then suc (length own) else length own) < dots
none-climbs is_package own path zero unnamed = absurd (some_named path unnamed)
none-climbs true own path (suc levels) unnamed = omega (arith, none-too_few own path levels unnamed)
none-climbs false own path (suc levels) unnamed = none-too_few own path (suc levels) unnamed

pub climbing_module_path : ClimbingImportNamesNone
climbing_module_path file from = (none-climbs file.is_package file.name from.path from.dots, climbs-none file.is_package file.name from.path from.dots)

-- names of what is above the root ask nothing
none_asked : (keys : Alias → List Key) (names : List Alias) → ((a : Alias) → keys a ≡ []) → flat_map keys names ≡ []
none_asked keys [] each = refl
none_asked keys (a ∷ names) each = ap (λ l. l ++ flat_map keys names) (each a) ∙ none_asked keys names each

module _ (answers : Answers) (file : Interface) (from : ImportFrom) (above : module_path_of file from ≡ None) where
  presence_of_none : flat_map (λ (a : Alias). presence_keys answers (module_path_of file from) a.name) from.names ≡ []
  presence_of_none =
      none_asked (λ (a : Alias). presence_keys answers (module_path_of file from) a.name) from.names (λ (a : Alias). ap (λ module_path. presence_keys answers module_path a.name) above)

  names_of_none : flat_map (λ (a : Alias). local_name_keys answers (module_path_of file from) a.name) from.names ≡ []
  names_of_none =
      none_asked (λ (a : Alias). local_name_keys answers (module_path_of file from) a.name) from.names (λ (a : Alias). ap (λ module_path. local_name_keys answers module_path a.name) above)

pub climbing_import : ClimbingImportAsksNothing
climbing_import options file at from p climbs =
    let above : module_path_of file from ≡ None = climbs-none file.is_package file.name from.path from.dots climbs in (
      λ answers. import_asks answers options file at (plain.import_from from) ∙ presence_of_none answers file from above,
      λ answers. class_import_asks answers options file at (plain.import_from from) p ∙ presence_of_none answers file from above,
      λ answers. local_import_asks answers options file at (plain.import_from from) p ∙ names_of_none answers file from above,
    )
