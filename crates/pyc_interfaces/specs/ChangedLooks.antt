-- What differs between the interfaces of files and later ones, by what may be looked at. What is listed holds all that
-- differs, whatever its position; some of it may be the same.
use Rattle.std.specs.Prelude.{ℕ, zero, suc, Bool, true, false, not, ◌&&◌, ◌||◌, if◌then◌else◌, bytes_eq, List, []}
use Rattle.std.specs.Prelude.{◌∷◌, ◌++◌, length, take, map, flat_map, Option, None, Some, is_some}
use Rattle.std.specs.Bool.{beq}
use Rattle.std.specs.Cmp.Lexicographic.{pointwise}
use Rattle.std.specs.List.{list_any}
use Rattle.pyc_bindings.specs.Bindings.{Binding}
use Rattle.pyc_class_ids.specs.declared.order.UnknownMro.{UnknownMro}
use Rattle.pyc_class_ids.specs.declared.order.UnknownMro.TheVariants as reason
use Rattle.pyc_class_ids.specs.Class.{same_class, user}
use Rattle.pyc_class_ids.specs.Mro.{Mro}
use Rattle.pyc_iface.specs.Answers.{orders_by}
use Rattle.pyc_iface.specs.Members.{class_named}
use Rattle.pyc_interfaces.specs.SameInterfaces.{same_binding, same_attribute, same_interface}
use Rattle.pyc_members.specs.Attributes.{SelfAttribute}
use Rattle.pyc_members.specs.ClassBodies.{ClassBody}
use Rattle.pyc_members.specs.DeclaredClasses.{DeclaredClass}
use Rattle.pyc_names.specs.FixedModules.{fixed_module}
use Rattle.pyc_names.specs.Following.{QualifiedName, has_module}
use Rattle.pyc_names.specs.Interfaces.{Interface, file_of}
use Rattle.pyc_names.specs.Looks.{Look, of_name, of_module, of_member, of_order}

-- ---- things with names

-- the looks of what differs between two lists of things with names: each thing of the first has as its pair the next of
-- the second that has its name. A thing without pair differs, and so does one that is not the same as its pair
module _ {X : Type 0} (name : X → List ℕ) (is_same : X → X → Bool) (look : List ℕ → Look) where
  abbrev pub pair_looks : X → X → List Look
  pair_looks x y = if is_same x y then [] else look (name x) ∷ []

  abbrev pub looks_alone : List X → List Look
  looks_alone xs = map (λ x. look (name x)) xs

  -- things before the pair of x have none; what follows the pair is gone through further
  abbrev pub looks_from_pair : X → (List X → List Look) → List X → List Look
  looks_from_pair x further [] = []
  looks_from_pair x further (y ∷ ys) =
      if bytes_eq (name y) (name x) then pair_looks x y ++ further ys
      else look (name y) ∷ looks_from_pair x further ys

  abbrev pub changes : List X → List X → List Look
  changes [] ys = looks_alone ys
  changes (x ∷ xs) ys =
      if list_any (λ y. bytes_eq (name y) (name x)) ys then looks_from_pair x (changes xs) ys
      else look (name x) ∷ changes xs ys

abbrev pub binding_name : Binding → List ℕ
binding_name b = b.name

abbrev pub attribute_name : SelfAttribute → List ℕ
attribute_name a = a.name

abbrev pub binding_changes : (List ℕ → Look) → List Binding → List Binding → List Look
binding_changes = changes binding_name same_binding

abbrev pub attribute_changes : (List ℕ → Look) → List SelfAttribute → List SelfAttribute → List Look
attribute_changes = changes attribute_name same_attribute

-- ---- classes

-- all that a class has of its own
abbrev pub body_looks : QualifiedName → ClassBody → List Look
body_looks c body =
    looks_alone binding_name same_binding (of_member c) body.bindings
    ++ looks_alone attribute_name same_attribute (of_member c) body.attributes

abbrev pub body_changes : QualifiedName → ClassBody → ClassBody → List Look
body_changes c body other =
    binding_changes (of_member c) body.bindings other.bindings
    ++ attribute_changes (of_member c) body.attributes other.attributes

abbrev pub class_name : List (List ℕ) → DeclaredClass → QualifiedName
class_name m c = record { module_path = m; name = c.name }

abbrev pub class_looks : List (List ℕ) → DeclaredClass → List Look
class_looks m c = body_looks (class_name m c) c.body

-- what differs between a class and the later one of its name, if there is one
abbrev pub class_changes : List (List ℕ) → DeclaredClass → Option DeclaredClass → List Look
class_changes m c (Some d) = body_changes (class_name m c) c.body d.body
class_changes m c None = class_looks m c

-- these looks, unless one of some classes has this name
abbrev pub unless_named : List DeclaredClass → List ℕ → List Look → List Look
unless_named classes name looks = if is_some (class_named classes name) then [] else looks

-- what differs between the classes of a module and later ones
abbrev pub classes_changes : List (List ℕ) → List DeclaredClass → List DeclaredClass → List Look
classes_changes m classes others =
    flat_map (λ c. class_changes m c (class_named others c.name)) classes
    ++ flat_map (λ d. unless_named classes d.name (class_looks m d)) others

-- ---- files

-- the look of a name of a module
abbrev pub name_look : List (List ℕ) → List ℕ → Look
name_look m x = of_name (record { module_path = m; name = x })

-- all names that a file binds
abbrev pub name_looks : List (List ℕ) → Interface → List Look
name_looks m file = looks_alone binding_name same_binding (name_look m) file.bindings

-- whether two files of one module count alike but for what they bind and declare
abbrev pub same_head : Interface → Interface → Bool
same_head file other =
    (beq file.is_package other.is_package && beq file.is_stub other.is_stub) && beq file.has_fault other.has_fault

abbrev pub name_changes : List (List ℕ) → Interface → Interface → List Look
name_changes m file other =
    if same_head file other then binding_changes (name_look m) file.bindings other.bindings
    else name_looks m file ++ name_looks m other

-- whether two files of one module are the same for those that look at the module: where it is named as a fixed one, all
-- of the file counts
abbrev pub same_as_module : List (List ℕ) → Interface → Interface → Bool
same_as_module m file other =
    beq file.has_fault other.has_fault && (not (is_some (fixed_module m)) || same_interface file other)

abbrev pub module_change : List (List ℕ) → Interface → Interface → List Look
module_change m file other = if same_as_module m file other then [] else of_module m ∷ []

-- what differs between the files of a module that both have
abbrev pub file_changes : List (List ℕ) → Interface → Interface → List Look
file_changes m file other =
    name_changes m file other ++ (classes_changes m file.classes other.classes ++ module_change m file other)

-- ---- modules

-- what differs between these files and later ones
module _ (files others : List Interface) where
  -- a module, if it is there among the one and not among the others
  abbrev pub presence_change : List (List ℕ) → List Look
  presence_change m = if beq (has_module files m) (has_module others m) then [] else of_module m ∷ []

  -- by the modules that the first parts of a name name: none, one, and so on, fewer than n
  abbrev pub presence_changes : List (List ℕ) → ℕ → List Look
  presence_changes m zero = []
  presence_changes m (suc n) = presence_changes m n ++ presence_change (take n m)

  -- all of a file whose module is there as a file on one side alone
  abbrev pub file_looks : List (List ℕ) → Interface → List Look
  file_looks m file =
      name_looks m file
      ++ (flat_map (class_looks m) file.classes ++ (of_module m ∷ presence_changes m (length m)))

  abbrev pub found_changes : List (List ℕ) → Option Interface → Option Interface → List Look
  found_changes m (Some file) (Some other) = file_changes m file other
  found_changes m (Some file) None = file_looks m file
  found_changes m None (Some other) = file_looks m other
  found_changes m None None = []

  -- of one module: between the files that name it
  abbrev pub module_changes : List (List ℕ) → List Look
  module_changes m = found_changes m (file_of files m) (file_of others m)

-- ---- orders

-- whether both orders are known, or neither for one reason
abbrev pub same_reason : Option UnknownMro → Option UnknownMro → Bool
same_reason None None = true
same_reason (Some reason.Base) (Some reason.Base) = true
same_reason (Some reason.Cycle) (Some reason.Cycle) = true
same_reason (Some reason.Merge) (Some reason.Merge) = true
same_reason _ _ = false

abbrev pub same_order : Mro → Mro → Bool
same_order a b =
    pointwise same_class a.classes b.classes && (same_reason a.unknown b.unknown && beq a.has_call b.has_call)

module _ (files others : List Interface) where
  abbrev pub order_change : List (List ℕ) → List ℕ → List Look
  order_change m n =
      if same_order (orders_by files (user m n)) (orders_by others (user m n)) then []
      else of_order (record { module_path = m; name = n }) ∷ []

  -- of the classes of a file
  abbrev pub order_changes : Interface → List Look
  order_changes file = flat_map (λ c. order_change file.name c.name) file.classes
