-- What a stub hides: it passes on what it declares itself, and of its imports those that have one name on both sides of
-- their `as` (typing specification, "Stub files").
use Rattle.std.specs.Prelude.{ℕ, Bool, false, not, ◌&&◌, List, Option, None, Some}
use Rattle.pyc_bindings.specs.Bindings.{Binding, is_import}
use Rattle.pyc_bindings.specs.Redefinitions.{declaration}
use Rattle.pyc_names.specs.declared.fixed.FixedModule.{FixedModule}
use Rattle.pyc_names.specs.FixedModules.{fixed_module}
use Rattle.pyc_names.specs.Interfaces.{Interface, file_of}

-- whether the declaration of a name of a stub is an import that passes nothing on
abbrev pub is_hidden : Option Binding → Bool
is_hidden None = false
is_hidden (Some b) = is_import b.form && not b.is_passed_on

-- whether a file hides a name from all others: one that is no stub hides none
abbrev pub hides : Interface → List ℕ → Bool
hides file name = file.is_stub && is_hidden (declaration file.bindings name)

-- whether a module of this file hides a name: one that no file names hides none
abbrev pub hides_in : Option Interface → List ℕ → Bool
hides_in None name = false
hides_in (Some file) name = hides file name

-- whether a module hides a name: a fixed one hides none
abbrev pub hides_from : List Interface → List (List ℕ) → List ℕ → Option FixedModule → Bool
hides_from files m name (Some fixed) = false
hides_from files m name None = hides_in (file_of files m) name

abbrev pub module_hides : List Interface → List (List ℕ) → List ℕ → Bool
module_hides files m name = hides_from files m name (fixed_module m)
