-- What is seen of a name at its own module, and that it is the same among other files where nothing that is looked at differs.
use Rattle.std.proofs.Common.{◌≡◌, ℕ, Bool, true, false, if◌then◌else◌, List, [], ◌∷◌, Option, None, Some, is_some, refl, sym, ap, ◌∙◌}
use Rattle.std.proofs.lemmas.Bool.{or_parts, or_left, or_right}
use Rattle.std.proofs.lemmas.Option.{none-some, same_Some}
use Rattle.std.specs.List.{list_any}
use Rattle.pyc_bindings.specs.Bindings.{Binding}
use Rattle.pyc_bindings.specs.Redefinitions.{declaration}
use Rattle.pyc_names.specs.declared.fixed.FixedModule.{FixedModule}
use Rattle.pyc_names.specs.FixedModules.{fixed_module}
use Rattle.pyc_names.specs.Following.{QualifiedName, has_module}
use Rattle.pyc_names.specs.Interfaces.{Interface, file_of}
use Rattle.pyc_names.specs.Looks.{Look, of_name, of_module}
use Rattle.pyc_names.specs.CarryLaws.{BindingSeen, binding_seen, name_in, name_seen, fault_in, AreAlike}

-- what is seen of a name at its module: the module is not there, it is a fixed one, its source has a fault, it does not
-- bind the name, or it does
pub data NameView : Type 0 where
  away : NameView
  in_fixed : FixedModule → NameView
  in_opaque : NameView
  not_bound : NameView
  bound : Binding → NameView

abbrev pub binding_view : Option Binding → NameView
binding_view (Some b) = bound b
binding_view None = not_bound

abbrev pub source_view : Interface → List ℕ → Bool → NameView
source_view file x false = binding_view (declaration file.bindings x)
source_view file x true = in_opaque

abbrev pub file_view : List ℕ → Option Interface → NameView
file_view x (Some file) = source_view file x file.has_fault
file_view x None = not_bound

abbrev pub module_view : List Interface → QualifiedName → Option FixedModule → NameView
module_view files q (Some fixed) = in_fixed fixed
module_view files q None = file_view q.name (file_of files q.module_path)

abbrev pub name_view : List Interface → QualifiedName → NameView
name_view files q = if has_module files q.module_path then module_view files q (fixed_module q.module_path) else away

-- what is looked at beside the name
abbrev pub view_looks : QualifiedName → NameView → List Look
view_looks q (in_fixed fixed) = []
view_looks q (bound b) = []
view_looks q _ = of_module q.module_path ∷ []

-- ---- by what is seen

abbrev source_by : Bool → Option BindingSeen → NameView
source_by true seen = in_opaque
source_by false (Some seen) = bound seen.binding
source_by false None = not_bound

abbrev file_by : Option Bool → Option BindingSeen → NameView
file_by (Some fault) seen = source_by fault seen
file_by None seen = not_bound

abbrev module_by : Option FixedModule → Option Bool → Option BindingSeen → NameView
module_by (Some fixed) fault seen = in_fixed fixed
module_by None fault seen = file_by fault seen

abbrev view_by : Bool → Option FixedModule → Option Bool → Option BindingSeen → NameView
view_by true fixed fault seen = module_by fixed fault seen
view_by false fixed fault seen = away

source_is : (there : Bool) (file : Interface) (x : List ℕ) (fault : Bool) → source_view file x fault ≡ source_by fault (binding_seen there file (declaration file.bindings x))
source_is there file x true = refl
source_is there file x false = elim (declaration file.bindings x) as (λ d. binding_view d ≡ source_by false (binding_seen there file d)) [
  | Some b ↦ refl
  | None ↦ refl
]

file_is : (there : Bool) (x : List ℕ) (o : Option Interface) → file_view x o ≡ file_by (fault_in o) (name_in there x o)
file_is there x (Some file) = source_is there file x file.has_fault
file_is there x None = refl

module_is : (files : List Interface) (q : QualifiedName) (there : Bool) (o : Option FixedModule)
    → module_view files q o ≡ module_by o (fault_in (file_of files q.module_path)) (name_in there q.name (file_of files q.module_path))
module_is files q there (Some fixed) = refl
module_is files q there None = file_is there q.name (file_of files q.module_path)

view_is : (files : List Interface) (q : QualifiedName) → name_view files q ≡ view_by (has_module files q.module_path) (fixed_module q.module_path) (fault_in (file_of files q.module_path)) (name_seen files q)
view_is files q = by (has_module files q.module_path)
  where
    by : (b : Bool) → (if b then module_view files q (fixed_module q.module_path) else away)
        ≡ view_by b (fixed_module q.module_path) (fault_in (file_of files q.module_path)) (name_in b q.name (file_of files q.module_path))
    by true = module_is files q true (fixed_module q.module_path)
    by false = refl

-- a name that is bound is seen by its binding alone
seen_there : (there : Bool) (x : List ℕ) (o : Option Interface) (seen : BindingSeen) → name_in there x o ≡ Some seen → (there ≡ seen.is_there) × (fault_in o ≡ Some seen.has_fault)
seen_there there x None seen e = absurd (none-some seen e)
seen_there there x (Some file) seen e = by (declaration file.bindings x) e
  where
    by : (d : Option Binding) → binding_seen there file d ≡ Some seen → (there ≡ seen.is_there) × (Some file.has_fault ≡ Some seen.has_fault)
    by None e = absurd (none-some seen e)
    by (Some b) e = let same = same_Some _ _ e in (ap (λ (s : BindingSeen). s.is_there) same, ap (λ (s : BindingSeen). Some s.has_fault) same)

view_seen : (files : List Interface) (q : QualifiedName) (seen : BindingSeen) → name_seen files q ≡ Some seen
    → name_view files q ≡ view_by seen.is_there (fixed_module q.module_path) (Some seen.has_fault) (Some seen)
view_seen files q seen e =
    let found = seen_there (has_module files q.module_path) q.name (file_of files q.module_path) seen e in
    view_is files q
    ∙ ap (λ b. view_by b (fixed_module q.module_path) (fault_in (file_of files q.module_path)) (name_seen files q)) found.0
    ∙ ap (λ fault. view_by seen.is_there (fixed_module q.module_path) fault (name_seen files q)) found.1
    ∙ ap (λ s. view_by seen.is_there (fixed_module q.module_path) (Some seen.has_fault) s) e

-- ---- among other files

module _ (differs : Look → Bool) (files others : List Interface) (alike : AreAlike differs files others) (q : QualifiedName) where
  -- where the module does not differ either, all is the same
  by_module : differs (of_module q.module_path) ≡ false → name_seen files q ≡ name_seen others q → name_view files q ≡ name_view others q
  by_module clear seen =
      view_is files q
      ∙ ap (λ b. view_by b (fixed_module q.module_path) (fault_in (file_of files q.module_path)) (name_seen files q)) (alike.modules q.module_path clear)
      ∙ ap (λ fault. view_by (has_module others q.module_path) (fixed_module q.module_path) fault (name_seen files q)) (alike.faults q.module_path clear)
      ∙ ap (λ s. view_by (has_module others q.module_path) (fixed_module q.module_path) (fault_in (file_of others q.module_path)) s) seen
      ∙ sym (view_is others q)

  -- a fixed module is there in any files
  in_any : (some : List Interface) (fixed : FixedModule) → fixed_module q.module_path ≡ Some fixed → name_view some q ≡ in_fixed fixed
  in_any some fixed e =
      ap (λ b. if b then module_view some q (fixed_module q.module_path) else away) (or_left _ _ (or_right _ _ (ap is_some e))) ∙ ap (module_view some q) e

  -- what is looked at of a name that is not bound in a module that is no fixed one
  module_looked : (there : Bool) (fault : Option Bool) → view_looks q (view_by there None fault None) ≡ of_module q.module_path ∷ []
  module_looked false fault = refl
  module_looked true None = refl
  module_looked true (Some true) = refl
  module_looked true (Some false) = refl

  pub view_carries : differs (of_name q) ≡ false → list_any differs (view_looks q (name_view files q)) ≡ false → name_view files q ≡ name_view others q
  view_carries name clear = by (name_seen files q) (fixed_module q.module_path) refl refl
    where
      seen : name_seen files q ≡ name_seen others q
      seen = alike.names q name

      by : (o : Option BindingSeen) (fixed : Option FixedModule) → name_seen files q ≡ o → fixed_module q.module_path ≡ fixed → name_view files q ≡ name_view others q
      by (Some s) fixed e is = view_seen files q s e ∙ sym (view_seen others q s (sym seen ∙ e))
      by None (Some fixed) e is = in_any files fixed is ∙ sym (in_any others fixed is)
      by None None e is =
          let looked : view_looks q (name_view files q) ≡ of_module q.module_path ∷ [] =
          ap (view_looks q) (view_is files q
          ∙ ap (λ fixed. view_by (has_module files q.module_path) fixed (fault_in (file_of files q.module_path)) (name_seen files q)) is
          ∙ ap (λ s. view_by (has_module files q.module_path) None (fault_in (file_of files q.module_path)) s) e)
          ∙ module_looked (has_module files q.module_path) (fault_in (file_of files q.module_path)) in
          by_module (or_parts (differs (of_module q.module_path)) false (sym (ap (list_any differs) looked) ∙ clear)).0 seen

-- ---- a name in the file that binds it

-- what a module's file binds under a name, where it does, with the file
pub record IsBoundIn (files : List Interface) (q : QualifiedName) (seen : BindingSeen) : Type 0 where
  pub file : Interface
  pub is_file : file_of files q.module_path ≡ Some file
  pub is_declaration : declaration file.bindings q.name ≡ Some seen.binding
  pub is_named : file.name ≡ seen.home

pub bound_in : (files : List Interface) (q : QualifiedName) (seen : BindingSeen) → name_seen files q ≡ Some seen → IsBoundIn files q seen
bound_in files q seen e = by (file_of files q.module_path) refl e
  where
    at : (file : Interface) (d : Option Binding) → file_of files q.module_path ≡ Some file → declaration file.bindings q.name ≡ d
        → binding_seen (has_module files q.module_path) file d ≡ Some seen → IsBoundIn files q seen
    at file None is found e = absurd (none-some seen e)
    at file (Some b) is found e =
        let same = same_Some _ _ e in
        record { file = file; is_file = is; is_declaration = found ∙ ap (λ (s : BindingSeen). Some s.binding) same; is_named = ap (λ (s : BindingSeen). s.home) same }

    by : (o : Option Interface) → file_of files q.module_path ≡ o → name_in (has_module files q.module_path) q.name o ≡ Some seen → IsBoundIn files q seen
    by None is e = absurd (none-some seen e)
    by (Some file) is e = at file (declaration file.bindings q.name) is refl e

-- a name that no file binds is bound by no file of its module
pub unbound_in : (files : List Interface) (q : QualifiedName) → name_seen files q ≡ None → (file : Interface) → file_of files q.module_path ≡ Some file → declaration file.bindings q.name ≡ None
unbound_in files q e file is = by (declaration file.bindings q.name) (sym (ap (name_in (has_module files q.module_path) q.name) is) ∙ e)
  where
    by : (d : Option Binding) → binding_seen (has_module files q.module_path) file d ≡ None → d ≡ None
    by None e = refl
    by (Some b) e = absurd (none-some _ (sym e))

-- whether a file binds a name is seen of the name
pub binds_seen : (files : List Interface) (q : QualifiedName) (file : Interface) → file_of files q.module_path ≡ Some file → is_some (declaration file.bindings q.name) ≡ is_some (name_seen files q)
binds_seen files q file is = by (declaration file.bindings q.name) ∙ ap (λ o. is_some (name_in (has_module files q.module_path) q.name o)) (sym is)
  where
    by : (d : Option Binding) → is_some d ≡ is_some (binding_seen (has_module files q.module_path) file d)
    by None = refl
    by (Some b) = refl
