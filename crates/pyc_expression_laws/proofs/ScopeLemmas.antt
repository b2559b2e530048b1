-- What names ask.
use Rattle.std.proofs.Common.{◌≡◌, ℕ, Bool, not, refl, List, Option, None, Some, is_some, ap}
use Rattle.pyc_ast.specs.declared.position.Position.{Position}
use Rattle.pyc_builtins.specs.declared.names.BuiltinName.{BuiltinName}
use Rattle.pyc_builtins.specs.Members.{is_dunder}
use Rattle.pyc_builtins.specs.Names.{builtin_name}
use Rattle.pyc_names.specs.FixedModules.{fixed_module, fixed_name}
use Rattle.pyc_names.specs.declared.fixed.FixedModule.{FixedModule}
use Rattle.pyc_names.specs.SourceFiles.{SourceFile}
use Rattle.pyc_reading.specs.Outside.{ask_export, ask_name, ask_outside, may_be_hidden}
use Rattle.pyc_obligations.specs.Values.{Value}
use Rattle.pyc_scopes.specs.NamedValues.{answered_value, binds, by_local, fixed_value, found_builtin, module_name, name_in_module, resolve_name, no_builtin, report_undefined, own_value, unbound}
use Rattle.pyc_scopes.specs.Scopes.{Local, Scope, local_of}
use Rattle.pyc_expression_laws.proofs.StepLemmas.{Files, files_ask, files_done, files_if, files_report, files_then}

of-no_builtin : (at : Position) (x : List ℕ) → Files (no_builtin at x)
unfolding report_undefined
of-no_builtin at x = files_if (is_dunder x) _ _ files_done (files_report files_done)

of-found_builtin : (at : Position) (x : List ℕ) (found : Option BuiltinName) → Files (found_builtin at x found)
of-found_builtin at x (Some found) = files_done
of-found_builtin at x None = of-no_builtin at x

of-own_value : (at : Position) (x : List ℕ) (is_bound : Bool) (found : Value) → Files (own_value at x is_bound found)
unfolding unbound
of-own_value at x is_bound found = files_if is_bound _ _ files_done (of-found_builtin at x (builtin_name x))

-- a name of a module that is not fixed
pub of-ask_name : (m : List (List ℕ)) (x : List ℕ) → fixed_module m ≡ None → Files (ask_name (record { module_path = m; name = x }))
of-ask_name m x same = files_ask (ap (λ found. not (is_some found)) same) (λ answer. files_done)

-- and as other files see it
of-ask_export : (m : List (List ℕ)) (x : List ℕ) → fixed_module m ≡ None → Files (ask_export (record { module_path = m; name = x }))
of-ask_export m x same = files_ask (ap (λ found. not (is_some found)) same) (λ answer. files_done)

pub of-ask_outside : (m : List (List ℕ)) (x : List ℕ) → fixed_module m ≡ None → Files (ask_outside (record { module_path = m; name = x }))
of-ask_outside m x same =
    files_then _ _ (of-ask_name m x same)
    (λ found. files_if (may_be_hidden found.kind) _ _ (files_then _ _ (of-ask_export m x same) (λ passed_on. files_done)) files_done)

of-name_in_module : (file : SourceFile) (at : Position) (x : List ℕ) (found : Option FixedModule) → fixed_module file.name ≡ found → Files (name_in_module file at x found)
of-name_in_module file at x (Some found) same = of-own_value at x (binds file x) (fixed_value (fixed_name found x))
of-name_in_module file at x None same = files_then _ _ (of-ask_name file.name x same) (λ found. of-own_value at x (binds file x) (answered_value found))

of-by_local : (scope : Scope) (at : Position) (x : List ℕ) (found : Option Local) → Files (by_local scope at x found)
unfolding module_name
of-by_local scope at x (Some found) = files_done
of-by_local scope at x None = of-name_in_module scope.file at x (fixed_module scope.file.name) refl

pub of-resolve_name : (scope : Scope) (at : Position) (x : List ℕ) → Files (resolve_name scope at x)
unfolding resolve_name
of-resolve_name scope at x = of-by_local scope at x (local_of scope.locals x)
