-- What the name in an expression asks (Python reference 3.13, "Resolution of names").
use Rattle.std.specs.Prelude.{◌≡◌, ℕ, Bool, ◌||◌, if◌then◌else◌, is_some, List, [], ◌∷◌}
use Rattle.pyc_ast.specs.declared.position.Position.{Position}
use Rattle.pyc_names.specs.FixedModules.{fixed_module}
use Rattle.pyc_expression_laws.specs.Rows.{Answers, name_key}
use Rattle.pyc_reading.specs.Keys.{Key}
use Rattle.pyc_reading.specs.Readings.{asked}
use Rattle.pyc_scopes.specs.NamedValues.{resolve_name}
use Rattle.pyc_scopes.specs.Scopes.{Scope, local_of}

-- whether a name is a local of the function
abbrev pub is_local : Scope → List ℕ → Bool
is_local scope x = is_some (local_of scope.locals x)

-- whether a module is a fixed one, which no file can change
abbrev pub is_fixed : List (List ℕ) → Bool
is_fixed m = is_some (fixed_module m)

-- a local asks nothing, nor does any name in a file that is named as a fixed module; every other name asks just what it
-- stands for in its module
abbrev pub name_keys : Scope → List ℕ → List Key
name_keys scope x = if is_local scope x || is_fixed scope.file.name then [] else name_key scope.file.name x ∷ []

-- the law of names
abbrev pub NameReads : Type 0
NameReads =
    (answers : Answers) (scope : Scope) (at : Position) (x : List ℕ)
    → asked answers (resolve_name scope at x) ≡ name_keys scope x
