-- Which comparisons of two lists of files show that they are alike: those of what their files bind, declare and are.
use Rattle.std.specs.Prelude.{◌≡◌, ℕ, Bool, false, IsTrue, is_some, List, [], ◌∷◌, take, Some}
use Rattle.pyc_bindings.specs.Bindings.{Binding}
use Rattle.pyc_class_ids.specs.Class.{user}
use Rattle.pyc_iface.specs.Answers.{orders_by}
use Rattle.pyc_iface.specs.CarryLaws.{member_seen, AreAllAlike}
use Rattle.pyc_members.specs.DeclaredClasses.{DeclaredClass}
use Rattle.pyc_names.specs.CarryLaws.{name_seen, fault_in}
use Rattle.pyc_names.specs.FixedModules.{fixed_module}
use Rattle.pyc_names.specs.Following.{QualifiedName, has_module}
use Rattle.pyc_names.specs.Interfaces.{Interface, file_of}
use Rattle.pyc_names.specs.Looks.{Look, of_name, of_module, of_member, of_order}

-- something holds of each of these
abbrev pub EachOf : {X : Type 0} → (X → Type 0) → List X → Type 0
EachOf P [] = Unit {0}
EachOf P (x ∷ xs) = P x × EachOf P xs

-- the name that a binding of a file binds, and that of a class of a file
abbrev pub bound_name : Interface → Binding → QualifiedName
bound_name file b = record { module_path = file.name; name = b.name }

abbrev pub declared_name : Interface → DeclaredClass → QualifiedName
declared_name file c = record { module_path = file.name; name = c.name }

-- ---- what is the same unless it differs

module _ (differs : Look → Bool) (files others : List Interface) where
  abbrev pub NameCompared : QualifiedName → Type 0
  NameCompared q = differs (of_name q) ≡ false → name_seen files q ≡ name_seen others q

  abbrev pub PresenceCompared : List (List ℕ) → Type 0
  PresenceCompared m = differs (of_module m) ≡ false → has_module files m ≡ has_module others m

  abbrev pub FaultCompared : List (List ℕ) → Type 0
  FaultCompared m = differs (of_module m) ≡ false → fault_in (file_of files m) ≡ fault_in (file_of others m)

  abbrev pub FixedCompared : List (List ℕ) → Type 0
  FixedCompared m =
      IsTrue (is_some (fixed_module m)) → differs (of_module m) ≡ false → file_of files m ≡ file_of others m

  abbrev pub MemberCompared : QualifiedName → List ℕ → Type 0
  MemberCompared c x = differs (of_member c x) ≡ false → member_seen files c x ≡ member_seen others c x

  abbrev pub OrderCompared : QualifiedName → Type 0
  OrderCompared c =
      differs (of_order c) ≡ false
      → orders_by files (user c.module_path c.name) ≡ orders_by others (user c.module_path c.name)

  -- a class of a file: its order, and each name that its body binds or its methods give its instances
  pub record ClassCompared (c : QualifiedName) (declared : DeclaredClass) : Type 0 where
    pub order : OrderCompared c
    pub bindings : EachOf (λ b. MemberCompared c b.name) declared.body.bindings
    pub attributes : EachOf (λ a. MemberCompared c a.name) declared.body.attributes

  -- a file: each name that it binds, whether the modules are there that it is or lies under, whether it has a fault,
  -- and each class that it declares
  pub record FileCompared (file : Interface) : Type 0 where
    pub names : EachOf (λ b. NameCompared (bound_name file b)) file.bindings
    pub modules : (n : ℕ) → PresenceCompared (take n file.name)
    pub fault : FaultCompared file.name
    pub fixed : FixedCompared file.name
    pub classes : EachOf (λ c. ClassCompared (declared_name file c) c) file.classes

-- each file of both lists was compared
pub record AreCompared (differs : Look → Bool) (files others : List Interface) : Type 0 where
  pub first : EachOf (FileCompared differs files others) files
  pub second : EachOf (FileCompared differs files others) others

-- a file that stands in both lists needs no comparison but of the orders of its classes
abbrev pub KeptFilesAreCompared : Type 0
KeptFilesAreCompared =
    (differs : Look → Bool) (files others : List Interface) (file : Interface)
    → file_of files file.name ≡ Some file → file_of others file.name ≡ Some file
    → EachOf (λ c. OrderCompared differs files others (declared_name file c)) file.classes
    → FileCompared differs files others file

-- that is enough: what no file binds, declares or is, is the same in both
abbrev pub ComparedAreAlike : Type 0
ComparedAreAlike =
    (differs : Look → Bool) (files others : List Interface) → AreCompared differs files others
    → AreAllAlike differs files others
