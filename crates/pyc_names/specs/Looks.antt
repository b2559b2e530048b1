-- What is looked at where a name is followed.
use Rattle.std.specs.Prelude.{ℕ, zero, suc, Bool, true, false, if◌then◌else◌, List, [], ◌∷◌, ◌++◌, Option, None, Some}
use Rattle.pyc_bindings.specs.Bindings.{Binding, BindingForm, import, import_from}
use Rattle.pyc_bindings.specs.Redefinitions.{declaration}
use Rattle.pyc_names.specs.declared.fixed.FixedModule.{FixedModule}
use Rattle.pyc_names.specs.FixedModules.{fixed_module}
use Rattle.pyc_names.specs.Imports.{named_module}
use Rattle.pyc_names.specs.Following.{QualifiedName, Step, ends, leads, step, same_name, submodule, import_count}
use Rattle.pyc_names.specs.Following.{has_module, is_hidden_name}
use Rattle.pyc_names.specs.Interfaces.{Interface, file_of}

-- what may be looked at: what a file binds under a name, a module, what a class of a source has of its own under a
-- name, and the order of such a class
pub data Look : Type 0 where
  of_name : QualifiedName → Look
  of_module : List (List ℕ) → Look
  of_member : QualifiedName → List ℕ → Look
  of_order : QualifiedName → Look

-- what other files look at of a name, by whether its module hides it: then its submodule too
abbrev pub looks_by_hidden : QualifiedName → Bool → List Look
looks_by_hidden q is_hidden = of_name q ∷ (if is_hidden then of_module (submodule q) ∷ [] else [])

abbrev pub seen_looks : List Interface → QualifiedName → List Look
seen_looks files q = looks_by_hidden q (is_hidden_name files q)

-- the name that a from-import leads to: where that is the name that it binds, the submodule is looked at
abbrev pub own_submodule_looks : QualifiedName → Bool → List Look
own_submodule_looks q is_same = if is_same then of_module (submodule q) ∷ [] else []

abbrev pub next_looks : List Interface → QualifiedName → QualifiedName → List Look
next_looks files q next = own_submodule_looks q (same_name next q) ++ seen_looks files next

abbrev pub to_looks : List Interface → QualifiedName → Option (List (List ℕ)) → List ℕ → List Look
to_looks files q None name = []
to_looks files q (Some m) name = next_looks files q (record { module_path = m; name = name })

abbrev pub form_looks : List Interface → QualifiedName → Interface → BindingForm → List Look
form_looks files q file (import_from dots path name) =
    to_looks files q (named_module file.is_package file.name dots path) name
form_looks files q file (import path) = of_module path ∷ []
form_looks files q file _ = []

-- a name that nothing binds
abbrev pub unbound_looks : QualifiedName → List Look
unbound_looks q = of_module q.module_path ∷ of_module (submodule q) ∷ []

abbrev pub binding_looks : List Interface → QualifiedName → Interface → Option Binding → List Look
binding_looks files q file (Some b) = form_looks files q file b.form
binding_looks files q file None = unbound_looks q

abbrev pub source_looks : List Interface → QualifiedName → Interface → Bool → List Look
source_looks files q file false = binding_looks files q file (declaration file.bindings q.name)
source_looks files q file true = of_module q.module_path ∷ []

abbrev pub file_looks : List Interface → QualifiedName → Option Interface → List Look
file_looks files q (Some file) = source_looks files q file file.has_fault
file_looks files q None = unbound_looks q

abbrev pub module_looks : List Interface → QualifiedName → Option FixedModule → List Look
module_looks files q (Some fixed) = []
module_looks files q None = file_looks files q (file_of files q.module_path)

-- what a step looks at
unfoldable pub step_looks : List Interface → QualifiedName → List Look
step_looks files q =
    of_name q ∷ (if has_module files q.module_path then module_looks files q (fixed_module q.module_path)
    else of_module q.module_path ∷ [])

-- what is looked at from where a step leads
abbrev pub looks_on : (QualifiedName → List Look) → Step → List Look
looks_on further (ends found) = []
looks_on further (leads next) = further next

-- what at most so many steps look at
abbrev pub walk_looks : ℕ → List Interface → QualifiedName → List Look
walk_looks zero files q = []
walk_looks (suc n) files q = step_looks files q ++ looks_on (walk_looks n files) (step files q)

-- what following a name looks at
unfoldable pub follow_looks : List Interface → QualifiedName → List Look
follow_looks files q = walk_looks (suc (import_count files)) files q

-- what is looked at from where a step leads, unless it leads to this name
abbrev pub looks_on_to : (QualifiedName → List Look) → QualifiedName → Step → List Look
looks_on_to further to (ends found) = []
looks_on_to further to (leads next) = if same_name next to then [] else further next

-- what at most so many steps look at, of which the last is the first that leads to a name
abbrev pub ring_looks : ℕ → List Interface → QualifiedName → QualifiedName → List Look
ring_looks zero files to q = []
ring_looks (suc n) files to q = step_looks files q ++ looks_on_to (ring_looks n files to) to (step files q)

-- what is looked at to tell whether a name is on a ring
unfoldable pub on_ring_looks : List Interface → QualifiedName → List Look
on_ring_looks files q = ring_looks (suc (import_count files)) files q q
