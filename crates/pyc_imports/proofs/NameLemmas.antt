-- The names that imports bind.
use Rattle.std.proofs.Common.{◌≡◌, ℕ, List, [], ◌∷◌, ◌++◌, flat_map, map, Option, None, Some, refl, ap, ◌∙◌}
use Rattle.std.proofs.lemmas.List.{map-append}
use Rattle.pyc_ast.specs.declared.stmt.Alias.{Alias}
use Rattle.pyc_ast.specs.Statements.{ImportedModule, ImportFrom}
use Rattle.pyc_bindings.specs.declared.place.BindingSite.{BindingSite}
use Rattle.pyc_bindings.specs.Bindings.{Binding, imported_binding, module_bindings, path_bindings}
use Rattle.pyc_imports.specs.Names.{ImportsBindTheirNames, alias_name, module_names, path_names}

abbrev name_of : Binding → List ℕ
name_of b = b.name

path-names : (place : BindingSite) (path : List (List ℕ)) (alias : Option (List ℕ)) → map name_of (path_bindings place path alias) ≡ path_names path alias
path-names place [] (Some alias) = refl
path-names place (first ∷ rest) (Some alias) = refl
path-names place (first ∷ rest) None = refl
path-names place [] None = refl

modules-names : (place : BindingSite) (modules : List ImportedModule) → map name_of (flat_map (module_bindings place) modules) ≡ flat_map module_names modules
modules-names place [] = refl
modules-names place (m ∷ rest) =
    map-append name_of (module_bindings place m) (flat_map (module_bindings place) rest)
    ∙ ap (λ l. l ++ map name_of (flat_map (module_bindings place) rest)) (path-names place m.path m.alias)
    ∙ ap (λ l. module_names m ++ l) (modules-names place rest)

aliases-names : (place : BindingSite) (from : ImportFrom) (aliases : List Alias) → map name_of (map (imported_binding place from) aliases) ≡ map alias_name aliases
aliases-names place from [] = refl
aliases-names place from (alias ∷ rest) = ap (λ l. alias_name alias ∷ l) (aliases-names place from rest)

pub imports_bind_their_names : ImportsBindTheirNames
imports_bind_their_names place = (modules-names place, λ from. aliases-names place from from.names)
