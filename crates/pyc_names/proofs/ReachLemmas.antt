-- What following comes to is declared under a name that is reached, which is looked at.
use Rattle.std.proofs.Common.{◌≡◌, ℕ, zero, suc, ◌&&◌, Bool, true, false, if◌then◌else◌, List, [], ◌∷◌, Option, None, Some, refl, sym, ap, ◌∙◌, arith}
use Rattle.std.proofs.lemmas.Bool.{or_parts}
use Rattle.std.specs.List.{list_any}
use Rattle.pyc_bindings.specs.Bindings.{Binding, BindingForm, import, import_from, function, class, annotated, assigned, other}
use Rattle.pyc_bindings.specs.Redefinitions.{declaration}
use Rattle.pyc_names.specs.declared.fixed.FixedModule.{FixedModule}
use Rattle.pyc_names.specs.declared.fixed.FixedName.{FixedName}
use Rattle.pyc_names.specs.FixedModules.{fixed_module, fixed_name}
use Rattle.pyc_names.specs.Imports.{named_module}
use Rattle.pyc_names.specs.Following.{QualifiedName, declared, module_itself, no_module, no_name, ends, leads, step, same_name, submodule, has_module, is_hidden_name, fixed_referent, unbound_referent, seen_step, import_step, form_step, binding_step, source_step, file_step, module_step, import_count, arrive, walk, follow}
use Rattle.pyc_names.specs.Interfaces.{Interface, file_of}
use Rattle.pyc_names.specs.ModuleName.{same_module}
use Rattle.pyc_names.specs.Rings.{onward, reached}
use Rattle.pyc_names.specs.Looks.{Look, of_name, of_module, module_looks, step_looks, follow_looks}
use Rattle.pyc_names.proofs.LookLemmas.{Clear, walk-all}
use Rattle.pyc_names.proofs.ReturnLemmas.{find_passes}
use Rattle.pyc_names.proofs.RingLemmas.{same_module-is}

-- the file of a module has its name
pub file_is_named : (files : List Interface) (m : List (List ℕ)) (file : Interface) → file_of files m ≡ Some file → file.name ≡ m
file_is_named files m file is = sym (same_module-is m file.name (find_passes (λ file. same_module m file.name) files file is))

module _ (files : List Interface) (q r : QualifiedName) where
  -- a step that ends in a declaration ends in that of its own name
  declares_unbound : (next : QualifiedName) → ends (unbound_referent files next) ≡ ends (declared r) → q ≡ r
  declares_unbound next e = elim (has_module files (submodule next)) as (λ b. ends (if b then module_itself (submodule next) else no_name) ≡ ends (declared r) → q ≡ r) [
    | true ↦ λ e. absurd (cc)
    | false ↦ λ e. absurd (cc)
  ] e

  declares_seen : (next : QualifiedName) → seen_step files next ≡ ends (declared r) → q ≡ r
  declares_seen next e = elim (is_hidden_name files next) as (λ b. (if b then ends (unbound_referent files next) else leads next) ≡ ends (declared r) → q ≡ r) [
    | true ↦ λ e. declares_unbound next e
    | false ↦ λ e. absurd (cc)
  ] e

  declares_import : (o : Option (List (List ℕ))) (name : List ℕ) → import_step files q o name ≡ ends (declared r) → q ≡ r
  declares_import None name e = absurd (cc)
  declares_import (Some m) name e =
      let next : QualifiedName = record { module_path = m; name = name } in
      elim (same_name next q && has_module files (submodule q)) as (λ b. (if b then ends (module_itself (submodule q)) else seen_step files next) ≡ ends (declared r) → q ≡ r) [
        | true ↦ λ e. absurd (cc)
        | false ↦ λ e. declares_seen next e
      ] e

  declares_form : (file : Interface) (form : BindingForm) → form_step files q file form ≡ ends (declared r) → q ≡ r
  declares_form file (import_from dots path x) e = declares_import (named_module file.is_package file.name dots path) x e
  declares_form file (import path) e = elim (has_module files path) as (λ b. ends (if b then module_itself path else no_module) ≡ ends (declared r) → q ≡ r) [
    | true ↦ λ e. absurd (cc)
    | false ↦ λ e. absurd (cc)
  ] e
  declares_form file (function head) e = cc
  declares_form file (class head) e = cc
  declares_form file (annotated found) e = cc
  declares_form file (assigned value) e = cc
  declares_form file other e = cc

  declares_binding : (file : Interface) (found : Option Binding) → binding_step files q file found ≡ ends (declared r) → q ≡ r
  declares_binding file (Some b) e = declares_form file b.form e
  declares_binding file None e = declares_unbound q e

  declares_source : (file : Interface) (fault : Bool) → source_step files q file fault ≡ ends (declared r) → q ≡ r
  declares_source file false e = declares_binding file (declaration file.bindings q.name) e
  declares_source file true e = absurd (cc)

  declares_file : (found : Option Interface) → file_step files q found ≡ ends (declared r) → q ≡ r
  declares_file (Some file) e = declares_source file file.has_fault e
  declares_file None e = declares_unbound q e

  declares_fixed : (found : Option FixedName) → ends (fixed_referent q found) ≡ ends (declared r) → q ≡ r
  declares_fixed (Some name) e = cc
  declares_fixed None e = absurd (cc)

  declares_module : (fixed : Option FixedModule) → module_step files q fixed ≡ ends (declared r) → q ≡ r
  declares_module (Some fixed) e = declares_fixed (fixed_name fixed q.name) e
  declares_module None e = declares_file (file_of files q.module_path) e

  declares_itself : step files q ≡ ends (declared r) → q ≡ r
  unfolding step
  declares_itself e = elim (has_module files q.module_path) as (λ b. (if b then module_step files q (fixed_module q.module_path) else ends no_module) ≡ ends (declared r) → q ≡ r) [
    | true ↦ λ e. declares_module (fixed_module q.module_path) e
    | false ↦ λ e. absurd (cc)
  ] e

module _ (files : List Interface) where
  declared_reached : (n : ℕ) (q r : QualifiedName) → walk n files q ≡ declared r → (k : ℕ) × (reached k files q ≡ Some r)
  declared_reached zero q r e = absurd (cc)
  declared_reached (suc n) q r e = elim (step files q) as (λ s. step files q ≡ s → arrive (walk n files) s ≡ declared r → (k : ℕ) × (reached k files q ≡ Some r)) [
    | ends found ↦ λ at e. (zero, ap Some (declares_itself files q r (at ∙ ap ends e)))
    | leads next ↦ λ at e. let rest = declared_reached n next r e in (suc rest.0, ap (onward (reached rest.0 files)) at ∙ rest.1)
  ] refl e

module _ (test : Look → Bool) (files : List Interface) where
  -- a step looks at its name
  pub name_clear : (q : QualifiedName) → Clear test (step_looks files q) → test (of_name q) ≡ false
  unfolding step_looks
  name_clear q clear =
      (or_parts (test (of_name q)) (list_any test (if has_module files q.module_path then module_looks files q (fixed_module q.module_path) else of_module q.module_path ∷ [])) clear).0

  -- what following a name comes to is looked at under the name that declares it
  pub declared_clear : (q r : QualifiedName) → Clear test (follow_looks files q) → follow files q ≡ declared r → test (of_name r) ≡ false
  unfolding follow follow_looks
  declared_clear q r clear e =
      let at = declared_reached files (suc (import_count files)) q r e in name_clear r (walk-all test files (suc (import_count files)) q (omega arith) clear at.0 r at.1)

  -- a name that is followed is looked at itself
  pub own_clear : (q : QualifiedName) → Clear test (follow_looks files q) → test (of_name q) ≡ false
  unfolding follow_looks
  own_clear q clear = name_clear q (walk-all test files (suc (import_count files)) q (omega arith) clear zero q refl)
