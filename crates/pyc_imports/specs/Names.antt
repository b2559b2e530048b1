-- The names that an import binds (Python reference 3.13, "The import statement").
use Rattle.std.specs.Prelude.{◌≡◌, ℕ, List, [], ◌∷◌, flat_map, map, Option, None, Some}
use Rattle.pyc_ast.specs.declared.stmt.Alias.{Alias}
use Rattle.pyc_ast.specs.Statements.{StmtForm, ImportedModule, ImportFrom}
use Rattle.pyc_ast.specs.Statements as plain
use Rattle.pyc_bindings.specs.declared.place.BindingSite.{BindingSite}
use Rattle.pyc_bindings.specs.Bindings.{Binding, bound_name, statement_bindings}

-- the name that `import` binds for a module: the one after `as`, else the first part of the module's name
abbrev pub path_names : List (List ℕ) → Option (List ℕ) → List (List ℕ)
path_names path (Some alias) = alias ∷ []
path_names (first ∷ rest) None = first ∷ []
path_names [] None = []

abbrev pub module_names : ImportedModule → List (List ℕ)
module_names m = path_names m.path m.alias

-- the name that a from-import binds: the one after `as`, else the imported one
abbrev pub alias_name : Alias → List ℕ
alias_name alias = bound_name alias.name alias.alias

-- the names that a statement binds, where it is an import
abbrev pub imported_names : StmtForm → List (List ℕ)
imported_names (plain.import modules) = flat_map module_names modules
imported_names (plain.import_from from) = map alias_name from.names
imported_names _ = []

-- the names of the bindings that a statement makes in its scope
abbrev pub binding_names : BindingSite → StmtForm → List (List ℕ)
binding_names place form = map (λ (b : Binding). b.name) (statement_bindings place form)

-- an import binds just the names of its bindings
abbrev pub ImportsBindTheirNames : Type 0
ImportsBindTheirNames =
    (place : BindingSite)
    → ((modules : List ImportedModule)
    → binding_names place (plain.import modules) ≡ imported_names (plain.import modules))
    × ((from : ImportFrom) → binding_names place (plain.import_from from) ≡ imported_names (plain.import_from from))
