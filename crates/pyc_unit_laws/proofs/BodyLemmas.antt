-- Which keys imports and names in bodies ask, and heads of functions.
use Rattle.std.proofs.Common.{◌≡◌, ℕ, Bool, true, false, not, if◌then◌else◌, List, [], ◌∷◌, Option, None, Some, refl, sym, ap, subst}
use Rattle.pyc_ast.specs.declared.position.Position.{Position}
use Rattle.pyc_ast.specs.declared.stmt.Alias.{Alias}
use Rattle.pyc_ast.specs.Exprs.{Expr}
use Rattle.pyc_ast.specs.Statements.{StmtForm}
use Rattle.pyc_ast.specs.Statements as plain
use Rattle.pyc_bindings.specs.Bindings.{Binding}
use Rattle.pyc_bindings.specs.Redefinitions.{declaration}
use Rattle.pyc_body_context.specs.Bodies.{Body, class_around, own_binding, top_scope}
use Rattle.pyc_body_context.specs.BodyNames.{body_context}
use Rattle.pyc_unit_laws.proofs.FileLemmas.{annotation_of_files, of-each, of-else, of-found, of-head, of-import, of-unless, of-unless_either, of-where}
use Rattle.pyc_unit_laws.proofs.FunctionLemmas.{head_asks}
use Rattle.pyc_unit_laws.proofs.TargetLemmas.{body_name_asks, body_target_asks}
use Rattle.pyc_unit_laws.specs.FileKeys.{BodyNameAsksFiles, BodyTargetAsksFiles, ClassImportAsksFiles, HeadAsksFiles, ImportAsksFiles, LocalImportAsksFiles, is_source_around}
use Rattle.pyc_unit_laws.specs.TargetRows.{is_defined, own_member_keys, owned_name_keys, owned_target_keys, unless_local}
use Rattle.pyc_class_ids.specs.Class.{Id}
use Rattle.pyc_expr_forms.specs.Contexts.{scope_context}
use Rattle.pyc_expression_laws.proofs.ExpressionLemmas.{of-infer_type}
use Rattle.pyc_expression_laws.proofs.StepLemmas.{Files, files_done, files_then, of-append}
use Rattle.pyc_expression_laws.specs.FileKeys.{OfFiles}
use Rattle.pyc_locals.specs.Locals.{LocalType, Locals, local_of, no_locals}
use Rattle.pyc_names.specs.Following.{QualifiedName}
use Rattle.pyc_names.specs.Interfaces.{Interface, interface_of}
use Rattle.pyc_places.specs.States.{nothing_narrowed}
use Rattle.pyc_expression_laws.specs.NameRows.{is_fixed, is_local}
use Rattle.pyc_expression_laws.specs.Rows.{name_key}
use Rattle.pyc_reading.specs.Keys.{Key}
use Rattle.pyc_reading.specs.Keys as key
use Rattle.pyc_unit_laws.proofs.ImportLemmas.{class_import_asks, import_asks, local_import_asks}
use Rattle.pyc_unit_laws.specs.ImportRows.{Answers, found_keys, module_path_of, local_import_keys, local_name_keys}
use Rattle.pyc_type_exprs.specs.TypeExprs.{type_expr}

-- ---- imports

of-local_name : (answers : Answers) (module_path : Option (List (List ℕ))) (x : List ℕ) → OfFiles (local_name_keys answers module_path x)
of-local_name answers (Some m) x =
    let q : QualifiedName = record { module_path = m; name = x } in
    of-where (is_fixed m) _ (λ free. of-append (found_keys answers q) (name_key m x ∷ []) (of-found answers q free) (ap not free, tt))
of-local_name answers None x = tt

of-local_import : (answers : Answers) (file : Interface) (form : StmtForm) → OfFiles (local_import_keys answers file form)
of-local_import answers file (plain.import modules) = of-each _ modules (λ m. of-unless (is_fixed m.path) (key.has_module m.path) refl)
of-local_import answers file (plain.import_from from) =
    of-each (λ (a : Alias). local_name_keys answers (module_path_of file from) a.name) from.names (λ (a : Alias). of-local_name answers (module_path_of file from) a.name)
of-local_import answers file _ = tt

pub import_of_files : ImportAsksFiles
import_of_files options file at form answers = subst OfFiles (sym (import_asks answers options file at form)) (of-import answers file form)

pub class_import_of_files : ClassImportAsksFiles
class_import_of_files options file at form p answers = subst OfFiles (sym (class_import_asks answers options file at form p)) (of-import answers file form)

pub local_import_of_files : LocalImportAsksFiles
local_import_of_files options file at form p answers = subst OfFiles (sym (local_import_asks answers options file at form p)) (of-local_import answers file form)

-- ---- names in bodies

of-own_member : (c : Option Id) (x : List ℕ) → is_source_around c ≡ true → OfFiles (own_member_keys c x)
of-own_member (Some c) x source = (source, tt)
of-own_member None x source = tt

of-owned_name : (body : Body) (x : List ℕ) (found : Option Binding) → is_source_around (class_around body.kind) ≡ true → OfFiles (owned_name_keys body x found)
of-owned_name body x (Some found) source = of-own_member (class_around body.kind) x source
of-owned_name body x None source = of-unless_either (is_local (top_scope body.file) x) (is_fixed body.file.name) (name_key body.file.name x) refl

of-unless_local : (found : Option LocalType) (keys : List Key) → OfFiles keys → OfFiles (unless_local found keys)
of-unless_local (Some local) keys all = tt
of-unless_local None keys all = all

pub body_name_of_files : BodyNameAsksFiles
body_name_of_files body locals at x source answers =
    subst OfFiles (sym (body_name_asks answers body locals at x))
    (of-unless_local (local_of locals x) (owned_name_keys body x (own_binding body.kind x)) (of-owned_name body x (own_binding body.kind x) source))

of-owned_target : (body : Body) (x : List ℕ) (found : Option Binding) → is_source_around (class_around body.kind) ≡ true → OfFiles (owned_target_keys body x found)
of-owned_target body x (Some found) source = of-else _ (own_member_keys (class_around body.kind) x) (of-own_member (class_around body.kind) x source)
of-owned_target body x None source = of-unless_either (is_defined (declaration body.file.bindings x)) (is_fixed body.file.name) (name_key body.file.name x) refl

pub body_target_of_files : BodyTargetAsksFiles
body_target_of_files body p x source answers =
    subst OfFiles (sym (body_target_asks answers body p x))
    (of-unless_local (local_of p.locals x) (owned_target_keys body x (own_binding body.kind x)) (of-owned_target body x (own_binding body.kind x) source))

-- ---- where an expression stands

pub of-body_name : (body : Body) (locals : Locals) → is_source_around (class_around body.kind) ≡ true
    → (at : Position) (x : List ℕ) → Files ((body_context body locals).resolve_name at x)
of-body_name body locals source at x = record { all = body_name_of_files body locals at x source }

pub of-body_annotation : (body : Body) (x : Expr) → Files ((scope_context (top_scope body.file)).annotated x)
of-body_annotation body x =
    files_then _ _ (record { all = annotation_of_files (interface_of body.file) (type_expr x) }) (λ found. files_done)

pub head_of_files : HeadAsksFiles
head_of_files outside head source answers =
    subst OfFiles (sym (head_asks answers outside head))
    (of-head outside head
    (λ x want. (of-infer_type (body_context outside no_locals) (of-body_name outside no_locals source) (of-body_annotation outside) nothing_narrowed x want).all)
    answers)
