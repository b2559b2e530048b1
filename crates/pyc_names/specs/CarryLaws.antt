-- Where following comes to the same among other files.
use Rattle.std.specs.Prelude.{◌≡◌, ℕ, suc, ◌≤◌, Bool, false, List, Option, None, Some}
use Rattle.std.specs.List.{list_any}
use Rattle.pyc_bindings.specs.Bindings.{Binding}
use Rattle.pyc_bindings.specs.Redefinitions.{declaration}
use Rattle.pyc_names.specs.Following.{QualifiedName, step, walk, follow, on_ring, import_count, has_module}
use Rattle.pyc_names.specs.Interfaces.{Interface, file_of}
use Rattle.pyc_names.specs.Looks.{Look, of_name, of_module, step_looks, follow_looks, on_ring_looks}

-- two lists that have the same, whatever is asked of it: the same set
abbrev pub SameLooks : List Look → List Look → Type 0
SameLooks looks others = (test : Look → Bool) → list_any test looks ≡ list_any test others

-- more steps than there are from-imports, and a last one, change nothing
abbrev pub MoreStepsChangeNothing : Type 0
MoreStepsChangeNothing =
    (files : List Interface) (q : QualifiedName) (n : ℕ) → suc (import_count files) ≤ n
    → walk n files q ≡ follow files q

-- a step that looks at nothing that differs is the same step, and looks at the same
abbrev pub StepCarriesOver : (Look → Bool) → (files others : List Interface) → Type 0
StepCarriesOver differs files others =
    (r : QualifiedName) → list_any differs (step_looks files r) ≡ false
    → (step files r ≡ step others r) × (step_looks files r ≡ step_looks others r)

abbrev pub FollowCarriesOver : Type 0
FollowCarriesOver =
    (differs : Look → Bool) (files others : List Interface) → StepCarriesOver differs files others → (q : QualifiedName)
    → list_any differs (follow_looks files q) ≡ false
    → (follow files q ≡ follow others q) × SameLooks (follow_looks files q) (follow_looks others q)

abbrev pub OnRingCarriesOver : Type 0
OnRingCarriesOver =
    (differs : Look → Bool) (files others : List Interface) → StepCarriesOver differs files others → (q : QualifiedName)
    → list_any differs (on_ring_looks files q) ≡ false
    → (on_ring files q ≡ on_ring others q) × SameLooks (on_ring_looks files q) (on_ring_looks others q)

-- ---- what is looked at

-- what is seen of a name that a file binds
pub record BindingSeen : Type 0 where
  pub is_there : Bool
  pub home : List (List ℕ)
  pub is_package : Bool
  pub is_stub : Bool
  pub has_fault : Bool
  pub binding : Binding

abbrev pub binding_seen : Bool → Interface → Option Binding → Option BindingSeen
binding_seen is_there file None = None
binding_seen is_there file (Some b) =
    Some
    (record {
      is_there = is_there;
      home = file.name;
      is_package = file.is_package;
      is_stub = file.is_stub;
      has_fault = file.has_fault;
      binding = b;
    })

abbrev pub name_in : Bool → List ℕ → Option Interface → Option BindingSeen
name_in is_there x None = None
name_in is_there x (Some file) = binding_seen is_there file (declaration file.bindings x)

-- what is seen of a name: nothing where no file binds it
abbrev pub name_seen : List Interface → QualifiedName → Option BindingSeen
name_seen files q = name_in (has_module files q.module_path) q.name (file_of files q.module_path)

-- whether the file of a module has a fault, if there is one
abbrev pub fault_in : Option Interface → Option Bool
fault_in None = None
fault_in (Some file) = Some file.has_fault

-- files in which all is the same that does not differ
pub record AreAlike (differs : Look → Bool) (files others : List Interface) : Type 0 where
  pub names : (q : QualifiedName) → differs (of_name q) ≡ false → name_seen files q ≡ name_seen others q
  pub modules : (m : List (List ℕ)) → differs (of_module m) ≡ false → has_module files m ≡ has_module others m
  pub faults : (m : List (List ℕ)) → differs (of_module m) ≡ false
      → fault_in (file_of files m) ≡ fault_in (file_of others m)

abbrev pub StepsCarryOver : Type 0
StepsCarryOver =
    (differs : Look → Bool) (files others : List Interface) → AreAlike differs files others
    → StepCarriesOver differs files others
