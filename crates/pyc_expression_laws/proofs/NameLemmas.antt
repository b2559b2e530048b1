-- What a name asks.
use Rattle.std.proofs.Common.{◌≡◌, ℕ, Bool, true, false, ◌||◌, if◌then◌else◌, is_some, List, [], ◌∷◌, Option, None, Some, refl, ap}
use Rattle.pyc_ast.specs.declared.position.Position.{Position}
use Rattle.pyc_builtins.specs.declared.names.BuiltinName.{BuiltinName}
use Rattle.pyc_builtins.specs.Members.{is_dunder}
use Rattle.pyc_builtins.specs.Names.{builtin_name}
use Rattle.pyc_names.specs.declared.fixed.FixedModule.{FixedModule}
use Rattle.pyc_names.specs.FixedModules.{fixed_module, fixed_name}
use Rattle.pyc_names.specs.SourceFiles.{SourceFile}
use Rattle.pyc_reading.specs.Outside.{name_in}
use Rattle.pyc_obligations.specs.Values.{Value, plain_value}
use Rattle.pyc_expression_laws.specs.NameRows.{is_fixed, NameReads}
use Rattle.pyc_expression_laws.specs.Rows.{Answers, name_key}
use Rattle.pyc_reading.specs.Readings.{Done, and_then, asked}
use Rattle.pyc_scopes.specs.NamedValues.{report_undefined, found_builtin, unbound, binds, own_value, fixed_value, answered_value, name_in_module, module_name, by_local, resolve_name}
use Rattle.pyc_scopes.specs.Scopes.{Local, Scope, local_of}
use Rattle.pyc_type_forms.specs.Types.{any}

no_builtin-asks : (answers : Answers) (at : Position) (x : List ℕ) (b : Bool) → asked answers (if b then Done (plain_value any) else report_undefined at x) ≡ []
unfolding report_undefined
no_builtin-asks answers at x true = refl
no_builtin-asks answers at x false = refl

found_builtin-asks : (answers : Answers) (at : Position) (x : List ℕ) (found : Option BuiltinName) → asked answers (found_builtin at x found) ≡ []
found_builtin-asks answers at x (Some found) = refl
found_builtin-asks answers at x None = no_builtin-asks answers at x (is_dunder x)

unbound-asks : (answers : Answers) (at : Position) (x : List ℕ) → asked answers (unbound at x) ≡ []
unfolding unbound
unbound-asks answers at x = found_builtin-asks answers at x (builtin_name x)

own_value-asks : (answers : Answers) (at : Position) (x : List ℕ) (is_bound : Bool) (found : Value) → asked answers (own_value at x is_bound found) ≡ []
own_value-asks answers at x true found = refl
own_value-asks answers at x false found = unbound-asks answers at x

name_in_module-asks : (answers : Answers) (file : SourceFile) (at : Position) (x : List ℕ) (found : Option FixedModule)
    → asked answers (name_in_module file at x found) ≡ (if is_some found then [] else name_key file.name x ∷ [])
unfolding and_then
name_in_module-asks answers file at x (Some found) = own_value-asks answers at x (binds file x) (fixed_value (fixed_name found x))
name_in_module-asks answers file at x None =
    ap (λ l. name_key file.name x ∷ l) (own_value-asks answers at x (binds file x) (answered_value (name_in (answers (name_key file.name x)))))

by_local-asks : (answers : Answers) (scope : Scope) (at : Position) (x : List ℕ) (found : Option Local)
    → asked answers (by_local scope at x found) ≡ (if is_some found || is_fixed scope.file.name then [] else name_key scope.file.name x ∷ [])
unfolding module_name
by_local-asks answers scope at x (Some found) = refl
by_local-asks answers scope at x None = name_in_module-asks answers scope.file at x (fixed_module scope.file.name)

pub name_asks : NameReads
unfolding resolve_name
name_asks answers scope at x = by_local-asks answers scope at x (local_of scope.locals x)
