-- The bindings of a scope in text order (Python reference 3.13, "Binding of names"), and which imports pass a name on
-- (typing specification, "Stub files").
use Rattle.std.specs.Prelude.{ℕ, Bool, true, false, List, [], ◌∷◌, ◌++◌, bytes_eq, flat_map, map, Option, None, Some}
use Rattle.std.specs.Cmp.Lexicographic.{pointwise}
use Rattle.pyc_ast.specs.declared.stmt.Alias.{Alias}
use Rattle.pyc_ast.specs.Exprs.{Expr}
use Rattle.pyc_ast.specs.Statements.{Stmt, stmt, StmtForm, Stmts, ImportedModule, ImportFrom, FunctionDefinition}
use Rattle.pyc_ast.specs.Statements.{ClassDefinition, AnnotatedAssignment}
use Rattle.pyc_ast.specs.Statements as plain
use Rattle.pyc_ast.specs.Targets.{Target, target, TargetForm, name, attribute, subscript, unpacking, TargetElement}
use Rattle.pyc_ast.specs.Targets.{target_element, TargetElements, no_target, another_target}
use Rattle.pyc_bindings.specs.declared.place.BindingSite.{BindingSite}
use Rattle.pyc_bindings.specs.Scopes.{Part, PartForm, parts_of}
use Rattle.pyc_bindings.specs.Scopes as part

-- what a binding binds its name to
pub data BindingForm : Type 0 where
  -- a module that is imported
  import : List (List ℕ) → BindingForm
  -- a name of a module: the dots before the module's name, its parts, and the name
  import_from : ℕ → List (List ℕ) → List ℕ → BindingForm
  function : FunctionDefinition → BindingForm
  class : ClassDefinition → BindingForm
  annotated : AnnotatedAssignment → BindingForm
  -- the value of an assignment, of which the name is a target by itself
  assigned : Expr → BindingForm
  -- an item of a value, or any other thing
  other : BindingForm

-- a binding: its name, where it stands, whether a stub passes it on, which an import with one name on both sides of
-- its `as` says, and what it binds the name to
pub record Binding : Type 0 where
  pub name : List ℕ
  pub place : BindingSite
  pub is_passed_on : Bool
  pub form : BindingForm

-- whether a binding is an import
abbrev pub is_import : BindingForm → Bool
is_import (import path) = true
is_import (import_from dots path n) = true
is_import _ = false

abbrev pub bound : BindingSite → List ℕ → BindingForm → Binding
bound place n form = record { name = n; place = place; is_passed_on = false; form = form }

-- the binding of an import, by whether it has one name on both sides of its `as`
abbrev pub imported : BindingSite → List ℕ → Bool → BindingForm → Binding
imported place n is_passed_on form =
    record { name = n; place = place; is_passed_on = is_passed_on; form = form }

-- ---- targets

abbrev mutual
  -- the bindings of a target, each of a name in it
  pub target_bindings : Target → BindingSite → List Binding
  target_bindings (target at inside form) place = form_bindings form place

  -- an attribute and a subscript bind nothing
  pub form_bindings : TargetForm → BindingSite → List Binding
  form_bindings (name n) place = bound place n other ∷ []
  form_bindings (attribute value n) place = []
  form_bindings (subscript value _) place = []
  form_bindings (unpacking elements) place = elements_bindings elements place

  pub elements_bindings : TargetElements → BindingSite → List Binding
  elements_bindings no_target place = []
  elements_bindings (another_target (target_element is_starred to) rest) place =
      target_bindings to place ++ elements_bindings rest place

-- the bindings of a target by a form that a name by itself is bound to
abbrev pub single_bindings : BindingSite → BindingForm → Target → List Binding
single_bindings place form (target at inside (name n)) = bound place n form ∷ []
single_bindings place form to = target_bindings to place

-- ---- imports

-- what a module with this name binds: the name after `as` to the module, else the first part of its name to the module
-- that has that name alone
abbrev pub path_bindings : BindingSite → List (List ℕ) → Option (List ℕ) → List Binding
path_bindings place path (Some alias) =
    imported place alias (pointwise bytes_eq path (alias ∷ [])) (import path) ∷ []
path_bindings place (first ∷ rest) None = bound place first (import (first ∷ [])) ∷ []
path_bindings place [] None = []

abbrev pub module_bindings : BindingSite → ImportedModule → List Binding
module_bindings place m = path_bindings place m.path m.alias

-- the name that a from-import binds: the one after `as`, else the one that is imported
abbrev pub bound_name : List ℕ → Option (List ℕ) → List ℕ
bound_name imported (Some alias) = alias
bound_name imported None = imported

-- whether a from-import has one name on both sides of its `as`
abbrev pub is_same_alias : List ℕ → Option (List ℕ) → Bool
is_same_alias n (Some alias) = bytes_eq n alias
is_same_alias n None = false

abbrev pub imported_binding : BindingSite → ImportFrom → Alias → Binding
imported_binding place from found =
    imported place (bound_name found.name found.alias) (is_same_alias found.name found.alias)
    (import_from from.dots from.path found.name)

-- ---- statements

-- the bindings of a simple statement or a definition; a function and a class bind their names
abbrev pub statement_bindings : BindingSite → StmtForm → List Binding
statement_bindings place (plain.assign targets value) = flat_map (single_bindings place (assigned value)) targets
statement_bindings place (plain.annotate found) = single_bindings place (annotated found) found.target
statement_bindings place (plain.augment found) = target_bindings found.target place
statement_bindings place (plain.delete to) = target_bindings to place
statement_bindings place (plain.import modules) = flat_map (module_bindings place) modules
statement_bindings place (plain.import_from from) = map (imported_binding place from) from.names
statement_bindings place (plain.function head body) = bound place head.name (function head) ∷ []
statement_bindings place (plain.class head body) = bound place head.name (class head) ∷ []
statement_bindings place _ = []

-- the bindings of a part of a scope
abbrev pub form_of : Stmt → StmtForm
form_of (stmt at form) = form

abbrev pub part_bindings : BindingSite → PartForm → List Binding
part_bindings place (part.statement found) = statement_bindings place (form_of found)
part_bindings place (part.target to) = target_bindings to place
part_bindings place (part.caught n) = bound place n other ∷ []

abbrev pub bindings_of_part : Part → List Binding
bindings_of_part found = part_bindings found.place found.form

-- the bindings of a scope that has these statements
unfoldable pub bindings_of : Stmts → List Binding
bindings_of statements = flat_map bindings_of_part (parts_of statements false)
