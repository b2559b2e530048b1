-- What a module hides is told by what is seen of the name.
use Rattle.std.proofs.Common.{◌≡◌, ℕ, ◌&&◌, Bool, true, false, List, Option, None, Some, refl, sym, ap, ◌∙◌}
use Rattle.pyc_bindings.specs.Bindings.{Binding}
use Rattle.pyc_bindings.specs.Redefinitions.{declaration}
use Rattle.pyc_names.specs.declared.fixed.FixedModule.{FixedModule}
use Rattle.pyc_names.specs.FixedModules.{fixed_module}
use Rattle.pyc_names.specs.Following.{QualifiedName, has_module, is_hidden_name}
use Rattle.pyc_names.specs.Hidden.{is_hidden, hides_in, hides_from}
use Rattle.pyc_names.specs.Interfaces.{Interface, file_of}
use Rattle.pyc_names.specs.CarryLaws.{BindingSeen, binding_seen, name_in, name_seen}

-- whether a name is hidden, by what is seen of it
abbrev hidden_seen : Option BindingSeen → Bool
hidden_seen None = false
hidden_seen (Some seen) = seen.is_stub && is_hidden (Some seen.binding)

-- of a name that is not bound nothing is hidden
none_hidden : (is_stub : Bool) → (is_stub && false) ≡ false
none_hidden true = refl
none_hidden false = refl

binding_hidden : (there : Bool) (file : Interface) (d : Option Binding) → (file.is_stub && is_hidden d) ≡ hidden_seen (binding_seen there file d)
binding_hidden there file None = none_hidden file.is_stub
binding_hidden there file (Some b) = refl

file_hidden : (there : Bool) (x : List ℕ) (o : Option Interface) → hides_in o x ≡ hidden_seen (name_in there x o)
file_hidden there x None = refl
file_hidden there x (Some file) = binding_hidden there file (declaration file.bindings x)

-- a name of which other files see the same is hidden by both or by neither
pub hidden_carries : (files others : List Interface) (q : QualifiedName) → name_seen files q ≡ name_seen others q → is_hidden_name files q ≡ is_hidden_name others q
hidden_carries files others q seen = by (fixed_module q.module_path)
  where
    by : (fixed : Option FixedModule) → hides_from files q.module_path q.name fixed ≡ hides_from others q.module_path q.name fixed
    by (Some fixed) = refl
    by None =
        file_hidden (has_module files q.module_path) q.name (file_of files q.module_path)
        ∙ ap hidden_seen seen
        ∙ sym (file_hidden (has_module others q.module_path) q.name (file_of others q.module_path))
