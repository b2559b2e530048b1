-- A step among other files, where these are the same at all that it looks at.
use Rattle.std.proofs.Common.{◌≡◌, ℕ, ◌&&◌, Bool, true, false, if◌then◌else◌, List, [], ◌∷◌, ◌++◌, Option, None, Some, is_some, refl, sym, ap, ap₂, ◌∙◌}
use Rattle.std.proofs.lemmas.Bool.{or_parts, or_left, or_right}
use Rattle.std.proofs.lemmas.Option.{none-some, same_Some}
use Rattle.std.specs.List.{list_any}
use Rattle.pyc_bindings.specs.Bindings.{Binding, BindingForm, import, import_from, function, class, annotated, assigned, other}
use Rattle.pyc_bindings.specs.Redefinitions.{declaration}
use Rattle.pyc_names.specs.declared.fixed.FixedModule.{FixedModule}
use Rattle.pyc_names.specs.FixedModules.{fixed_module}
use Rattle.pyc_names.specs.Imports.{named_module}
use Rattle.pyc_names.specs.Following.{QualifiedName, module_itself, opaque, no_module, no_name, Step, ends, leads, step, same_name, submodule, has_module, unbound_referent, is_hidden_name, seen_step, import_step, form_step, binding_step, source_step, file_step, module_step}
use Rattle.pyc_names.specs.Interfaces.{Interface, file_of}
use Rattle.pyc_names.specs.Looks.{Look, of_name, of_module, looks_by_hidden, seen_looks, own_submodule_looks, to_looks, form_looks, unbound_looks, binding_looks, source_looks, file_looks, module_looks, step_looks}
use Rattle.pyc_names.specs.CarryLaws.{BindingSeen, binding_seen, name_in, fault_in, AreAlike, StepsCarryOver}
use Rattle.pyc_names.proofs.HiddenLemmas.{hidden_carries}

module _ (differs : Look → Bool) (files others : List Interface) (alike : AreAlike differs files others) (q : QualifiedName) where
  abbrev Clear : List Look → Type 0
  Clear looks = list_any differs looks ≡ false

  first : (look : Look) (looks : List Look) → Clear (look ∷ looks) → differs look ≡ false
  first look looks clear = (or_parts (differs look) (list_any differs looks) clear).0

  rest : (look : Look) (looks : List Look) → Clear (look ∷ looks) → Clear looks
  rest look looks clear = (or_parts (differs look) (list_any differs looks) clear).1

  without_binding : (r : QualifiedName) → differs (of_module (submodule r)) ≡ false → ends (unbound_referent files r) ≡ ends (unbound_referent others r)
  without_binding r clear = ap (λ b. ends (if b then module_itself (submodule r) else no_name)) (alike.modules (submodule r) clear)

  unbound : Clear (unbound_looks q) → ends (unbound_referent files q) ≡ ends (unbound_referent others q)
  unbound clear = without_binding q (first (of_module (submodule q)) [] (rest (of_module q.module_path) (of_module (submodule q) ∷ []) clear))

  -- a name as another file sees it
  seen_by : (next : QualifiedName) (b : Bool) → b ≡ is_hidden_name others next → Clear (looks_by_hidden next b) → (if b then ends (unbound_referent files next) else leads next) ≡ seen_step others next
  seen_by next true hidden clear =
      without_binding next (first (of_module (submodule next)) [] (rest (of_name next) (of_module (submodule next) ∷ []) clear)) ∙ ap (λ b. if b then ends (unbound_referent others next) else leads next) hidden
  seen_by next false hidden clear = ap (λ b. if b then ends (unbound_referent others next) else leads next) hidden

  seen_carries : (next : QualifiedName) → Clear (seen_looks files next) → (seen_step files next ≡ seen_step others next) × (seen_looks files next ≡ seen_looks others next)
  seen_carries next clear =
      let looked = first (of_name next) (if is_hidden_name files next then of_module (submodule next) ∷ [] else []) clear in
      let hidden = hidden_carries files others next (alike.names next looked) in (seen_by next (is_hidden_name files next) hidden clear, ap (looks_by_hidden next) hidden)

  -- the step to a name, by whether it is the name that the import binds and whether its submodule is there
  abbrev next_step : List Interface → QualifiedName → Bool → Bool → Step
  next_step some next is_same is_there = if is_same && is_there then ends (module_itself (submodule q)) else seen_step some next

  next_carries : (next : QualifiedName) (b : Bool) → Clear (own_submodule_looks q b ++ seen_looks files next)
      → (next_step files next b (has_module files (submodule q)) ≡ next_step others next b (has_module others (submodule q)))
      × ((own_submodule_looks q b ++ seen_looks files next) ≡ (own_submodule_looks q b ++ seen_looks others next))
  next_carries next true clear =
      let seen = seen_carries next (rest (of_module (submodule q)) (seen_looks files next) clear) in (
        ap (next_step files next true) (alike.modules (submodule q) (first (of_module (submodule q)) (seen_looks files next) clear))
            ∙ ap (λ s. if has_module others (submodule q) then ends (module_itself (submodule q)) else s) seen.0,
        ap (λ l. of_module (submodule q) ∷ l) seen.1,
      )
  next_carries next false clear = seen_carries next clear

  import_carries : (o : Option (List (List ℕ))) (name : List ℕ) → Clear (to_looks files q o name)
      → (import_step files q o name ≡ import_step others q o name) × (to_looks files q o name ≡ to_looks others q o name)
  import_carries None name clear = (refl, refl)
  import_carries (Some m) name clear = next_carries (record { module_path = m; name = name }) (same_name (record { module_path = m; name = name }) q) clear

  form_carries : (file twin : Interface) → file.name ≡ twin.name → file.is_package ≡ twin.is_package → (form : BindingForm) → Clear (form_looks files q file form)
      → (form_step files q file form ≡ form_step others q twin form) × (form_looks files q file form ≡ form_looks others q twin form)
  form_carries file twin name pack (import_from dots path x) clear =
      let e : named_module file.is_package file.name dots path ≡ named_module twin.is_package twin.name dots path = ap₂ (λ p n. named_module p n dots path) pack name in
      let found = import_carries (named_module file.is_package file.name dots path) x clear in (found.0 ∙ ap (λ o. import_step others q o x) e, found.1 ∙ ap (λ o. to_looks others q o x) e)
  form_carries file twin name pack (import path) clear = (ap (λ b. ends (if b then module_itself path else no_module)) (alike.modules path (first (of_module path) [] clear)), refl)
  form_carries file twin name pack (function head) clear = (refl, refl)
  form_carries file twin name pack (class head) clear = (refl, refl)
  form_carries file twin name pack (annotated found) clear = (refl, refl)
  form_carries file twin name pack (assigned value) clear = (refl, refl)
  form_carries file twin name pack other clear = (refl, refl)

  -- the home is there among the others, the step is the same, and it looks at the same
  record Carried (is_there : Bool) (s t : Step) (looks more : List Look) : Type 0 where
    there : is_there ≡ true
    steps : s ≡ t
    looks_at : looks ≡ more

  module _ (here : has_module files q.module_path ≡ true) where
    home_there : differs (of_module q.module_path) ≡ false → has_module others q.module_path ≡ true
    home_there clear = sym (alike.modules q.module_path clear) ∙ here

    -- two files, of which the first binds the name
    bound : (file twin : Interface) (b : Binding) (d : Option Binding) → file.has_fault ≡ false → binding_seen true file (Some b) ≡ binding_seen (has_module others q.module_path) twin d → Clear (form_looks files q file b.form)
        → (has_module others q.module_path ≡ true) × (twin.has_fault ≡ false) × (binding_step files q file (Some b) ≡ binding_step others q twin d) × (form_looks files q file b.form ≡ binding_looks others q twin d)
    bound file twin b None fault seen clear = absurd (none-some _ (sym seen))
    bound file twin b (Some c) fault seen clear =
        let same = same_Some _ _ seen in
        let is : b ≡ c = ap (λ (s : BindingSeen). s.binding) same in
        let form = form_carries file twin (ap (λ (s : BindingSeen). s.home) same) (ap (λ (s : BindingSeen). s.is_package) same) b.form clear in (
          sym (ap (λ (s : BindingSeen). s.is_there) same),
          sym (ap (λ (s : BindingSeen). s.has_fault) same) ∙ fault,
          form.0 ∙ ap (λ (c : Binding). form_step others q twin c.form) is,
          form.1 ∙ ap (λ (c : Binding). form_looks others q twin c.form) is,
        )

    -- a file that does not bind the name either
    not_bound : (is_there : Bool) (twin : Interface) (d : Option Binding) → None ≡ binding_seen is_there twin d → d ≡ None
    not_bound is_there twin None seen = refl
    not_bound is_there twin (Some c) seen = absurd (none-some _ seen)

    source_carries : (file twin : Interface) (f : Bool) (d : Option Binding) → file.has_fault ≡ f → declaration file.bindings q.name ≡ d
        → binding_seen true file d ≡ binding_seen (has_module others q.module_path) twin (declaration twin.bindings q.name)
        → (differs (of_module q.module_path) ≡ false → Some file.has_fault ≡ Some twin.has_fault) → Clear (if f then of_module q.module_path ∷ [] else binding_looks files q file d)
        → Carried (has_module others q.module_path) (if f then ends opaque else binding_step files q file d) (source_step others q twin twin.has_fault)
        (if f then of_module q.module_path ∷ [] else binding_looks files q file d) (source_looks others q twin twin.has_fault)
    source_carries file twin true d fault is seen faults clear =
        let home = first (of_module q.module_path) [] clear in
        let same : true ≡ twin.has_fault = sym fault ∙ same_Some _ _ (faults home) in
        record { there = home_there home; steps = ap (λ f. source_step others q twin f) same; looks_at = ap (λ f. source_looks others q twin f) same }
    source_carries file twin false None fault is seen faults clear =
        let home = first (of_module q.module_path) (of_module (submodule q) ∷ []) clear in
        let same : false ≡ twin.has_fault = sym fault ∙ same_Some _ _ (faults home) in
        let none : None ≡ declaration twin.bindings q.name = sym (not_bound (has_module others q.module_path) twin (declaration twin.bindings q.name) seen) in
        record {
          there = home_there home;
          steps = unbound clear ∙ ap (λ d. binding_step others q twin d) none ∙ ap (λ f. source_step others q twin f) same;
          looks_at = ap (λ d. binding_looks others q twin d) none ∙ ap (λ f. source_looks others q twin f) same;
        }
    source_carries file twin false (Some b) fault is seen faults clear =
        let found = bound file twin b (declaration twin.bindings q.name) fault seen clear in
        record {
          there = found.0;
          steps = found.2 ∙ ap (λ f. source_step others q twin f) (sym found.1);
          looks_at = found.3 ∙ ap (λ f. source_looks others q twin f) (sym found.1);
        }

    -- a file that is not there among the others
    gone : (file : Interface) (f : Bool) (d : Option Binding) → binding_seen true file d ≡ None → (differs (of_module q.module_path) ≡ false → Some file.has_fault ≡ None)
        → Clear (if f then of_module q.module_path ∷ [] else binding_looks files q file d) → ⊥
    gone file true d seen faults clear = none-some _ (sym (faults (first (of_module q.module_path) [] clear)))
    gone file false None seen faults clear = none-some _ (sym (faults (first (of_module q.module_path) (of_module (submodule q) ∷ []) clear)))
    gone file false (Some b) seen faults clear = none-some _ (sym seen)

    source-is : (some : List Interface) (file : Interface) (f : Bool) → source_step some q file f ≡ (if f then ends opaque else binding_step some q file (declaration file.bindings q.name))
    source-is some file true = refl
    source-is some file false = refl

    looks-is : (some : List Interface) (file : Interface) (f : Bool) → source_looks some q file f ≡ (if f then of_module q.module_path ∷ [] else binding_looks some q file (declaration file.bindings q.name))
    looks-is some file true = refl
    looks-is some file false = refl

    file_carries : (o p : Option Interface) → name_in true q.name o ≡ name_in (has_module others q.module_path) q.name p → (differs (of_module q.module_path) ≡ false → fault_in o ≡ fault_in p) → Clear (file_looks files q o)
        → Carried (has_module others q.module_path) (file_step files q o) (file_step others q p) (file_looks files q o) (file_looks others q p)
    file_carries None None seen faults clear =
        record { there = home_there (first (of_module q.module_path) (of_module (submodule q) ∷ []) clear); steps = unbound clear; looks_at = refl }
    file_carries None (Some twin) seen faults clear = absurd (none-some _ (faults (first (of_module q.module_path) (of_module (submodule q) ∷ []) clear)))
    file_carries (Some file) None seen faults clear =
        absurd (gone file file.has_fault (declaration file.bindings q.name) seen faults (sym (ap (λ l. list_any differs l) (looks-is files file file.has_fault)) ∙ clear))
    file_carries (Some file) (Some twin) seen faults clear =
        let found = source_carries file twin file.has_fault (declaration file.bindings q.name) refl refl seen faults (sym (ap (λ l. list_any differs l) (looks-is files file file.has_fault)) ∙ clear) in
        record { there = found.there; steps = source-is files file file.has_fault ∙ found.steps; looks_at = looks-is files file file.has_fault ∙ found.looks_at }

    module_carries : (o : Option FixedModule) → fixed_module q.module_path ≡ o → differs (of_name q) ≡ false → Clear (module_looks files q o)
        → Carried (has_module others q.module_path) (module_step files q o) (module_step others q o) (module_looks files q o) (module_looks others q o)
    module_carries (Some fixed) e name clear =
        record { there = or_left _ _ (or_right _ _ (ap is_some e)); steps = refl; looks_at = refl }
    module_carries None e name clear =
        file_carries (file_of files q.module_path) (file_of others q.module_path) (ap (λ b. name_in b q.name (file_of files q.module_path)) (sym here) ∙ alike.names q name) (alike.faults q.module_path) clear

  by_home : (b : Bool) → has_module files q.module_path ≡ b → Clear (of_name q ∷ (if b then module_looks files q (fixed_module q.module_path) else of_module q.module_path ∷ []))
      → ((if b then module_step files q (fixed_module q.module_path) else ends no_module) ≡ (if has_module others q.module_path then module_step others q (fixed_module q.module_path) else ends no_module))
      × ((of_name q ∷ (if b then module_looks files q (fixed_module q.module_path) else of_module q.module_path ∷ [])) ≡ (of_name q ∷ (if has_module others q.module_path then module_looks others q (fixed_module q.module_path) else of_module q.module_path ∷ [])))
  by_home true here clear =
      let found = module_carries here (fixed_module q.module_path) refl (first (of_name q) (module_looks files q (fixed_module q.module_path)) clear) (rest (of_name q) (module_looks files q (fixed_module q.module_path)) clear) in (
        found.steps ∙ ap (λ b. if b then module_step others q (fixed_module q.module_path) else ends no_module) (sym found.there),
        ap (λ l. of_name q ∷ l) (found.looks_at ∙ ap (λ b. if b then module_looks others q (fixed_module q.module_path) else of_module q.module_path ∷ []) (sym found.there)),
      )
  by_home false away clear =
      let gone_too : false ≡ has_module others q.module_path = sym away ∙ alike.modules q.module_path (first (of_module q.module_path) [] (rest (of_name q) (of_module q.module_path ∷ []) clear)) in (
        ap (λ b. if b then module_step others q (fixed_module q.module_path) else ends no_module) gone_too,
        ap (λ b. of_name q ∷ (if b then module_looks others q (fixed_module q.module_path) else of_module q.module_path ∷ [])) gone_too,
      )

pub steps_carry : StepsCarryOver
unfolding step step_looks
steps_carry differs files others alike q clear = by_home differs files others alike q (has_module files q.module_path) refl clear
