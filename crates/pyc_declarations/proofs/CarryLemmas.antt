-- What files declare under names, among other files that are the same at all that is looked at.
use Rattle.std.proofs.Common.{◌≡◌, ℕ, ◌||◌, ◌&&◌, Bool, true, false, if◌then◌else◌, List, [], ◌∷◌, ◌++◌, Option, None, Some, is_some, refl, sym, ap, ap₂, subst, ◌∙◌}
use Rattle.std.proofs.lemmas.Bool.{or_parts, false≢true}
use Rattle.std.proofs.lemmas.List.Folds.{list_any-append}
use Rattle.std.specs.List.{list_any}
use Rattle.std.specs.Prelude.{flat_map}
use Rattle.pyc_annotations.specs.Annotations.{read_type}
use Rattle.pyc_annotations.specs.Meanings.{binds}
use Rattle.pyc_ast.specs.Exprs.{Expr}
use Rattle.pyc_ast.specs.Statements.{FunctionDefinition}
use Rattle.pyc_bindings.specs.Bindings.{Binding, BindingForm, import, import_from, function, class, annotated, assigned, other}
use Rattle.pyc_bindings.specs.Redefinitions.{declaration, is_decorated}
use Rattle.pyc_declarations.specs.Declarations.{annotated_type, declared_function, form_answer, found_answer, name_answer, declared_answer}
use Rattle.pyc_declarations.specs.Kinds.{Found, declared_in, answered, answer_with, of_kind, found_binding, found_in_file, fixed_found, found_declared, absent_name, faulty_name, found_referent, found_name, is_looked_up, may_be_hidden, outside_referent, attribute_referent, attributes_referent, own_referent, dotted_referent, is_fixed_any, is_alias_type, is_alias, variable_kind, class_kind, form_kind, found_kind, name_kind, kind_answer}
use Rattle.pyc_declarations.specs.Looks.{binding_looks, source_looks, file_looks, module_looks, presence_looks, outside_looks, attribute_looks, attributes_looks, own_name_looks, dotted_looks, alias_type_looks, alias_looks, referent_looks, found_name_looks, form_kind_looks, found_kind_looks, name_kind_looks, kind_looks, annotated_looks, function_looks, form_looks, found_looks, name_looks, declared_looks}
use Rattle.pyc_declarations.specs.CarryLaws.{DeclaredCarriesOver}
use Rattle.pyc_declarations.specs.Exports.{hidden_export, name_export}
use Rattle.pyc_declarations.specs.Presences.{source_presence, file_presence, unfixed_presence, module_presence, submodule_presence, binding_presence, name_in_source, name_in_file, name_in_module, name_presence}
use Rattle.pyc_names.specs.declared.fixed.FixedModule.{FixedModule}
use Rattle.pyc_names.specs.declared.fixed.FixedName.{FixedName}
use Rattle.pyc_names.specs.FixedModules.{fixed_module, fixed_name}
use Rattle.pyc_names.specs.Following as names
use Rattle.pyc_names.specs.Following.{QualifiedName, Referent, has_module, submodule, unbound_referent, is_hidden_name, follow, on_ring}
use Rattle.pyc_names.specs.Interfaces.{Interface, file_of}
use Rattle.pyc_names.specs.Looks.{Look, of_name, of_module, unbound_looks, looks_by_hidden, seen_looks, follow_looks, on_ring_looks}
use Rattle.pyc_names.specs.CarryLaws.{BindingSeen, binding_seen, name_in, name_seen, fault_in, AreAlike, SameLooks}
use Rattle.pyc_names.proofs.CarryLemmas.{follow_carries, on_ring_carries}
use Rattle.pyc_names.proofs.HiddenLemmas.{hidden_carries}
use Rattle.pyc_names.proofs.LookLemmas.{Clear, clear_parts}
use Rattle.pyc_names.proofs.ReachLemmas.{file_is_named, declared_clear, own_clear}
use Rattle.pyc_names.proofs.StepLemmas.{steps_carry}
use Rattle.pyc_names.proofs.ViewLemmas.{NameView, away, in_fixed, in_opaque, not_bound, bound, binding_view, source_view, file_view, module_view, view_looks, name_view, view_carries, bound_in, unbound_in, binds_seen}
use Rattle.pyc_reading.specs.declared.answer.Export.{Export}
use Rattle.pyc_reading.specs.declared.answer.Export.TheVariants as passed
use Rattle.pyc_reading.specs.declared.answer.Presence.{Presence}
use Rattle.pyc_reading.specs.declared.answer.Presence.TheVariants as presence
use Rattle.pyc_reading.specs.Answers.{Answer, NameKind, presence_of, name_is, export_is}
use Rattle.pyc_reading.specs.Answers as kind
use Rattle.pyc_reading.specs.Keys.{Key}
use Rattle.pyc_reading.specs.Keys as key
use Rattle.pyc_reading.specs.Readings.{result_of, asked}
use Rattle.pyc_reading.specs.Traces.{Step}
use Rattle.pyc_signatures.specs.Signatures.{function_type}
use Rattle.pyc_type_exprs.specs.TypeExprs.{TypeExpr, none_written, name_written, union_written, subscript_written, wrong_written, type_expr}
use Rattle.pyc_type_forms.specs.Types.{Ty, any}
use Rattle.pyc_declarations.proofs.CarriedLemmas.{AllOf, Carried, AreTwins, read_type-carried, function_type-carried}

pub same_both : (ws bs xs ys : List Look) → SameLooks ws bs → SameLooks xs ys → SameLooks (ws ++ xs) (bs ++ ys)
same_both ws bs xs ys first second test =
    list_any-append test ws xs ∙ ap (λ b. b || list_any test xs) (first test) ∙ ap (λ b. list_any test bs || b) (second test) ∙ sym (list_any-append test bs ys)

-- ---- readings

-- where nothing is looked at for keys that passes a test, this holds for each of them
pub all_clear : (test : Look → Bool) (looks : Key → List Look) (ks : List Key) → Clear test (flat_map looks ks) → AllOf (λ k. Clear test (looks k)) ks
all_clear test looks [] clear = tt
all_clear test looks (k ∷ ks) clear = let parts = clear_parts test (looks k) (flat_map looks ks) clear in (parts.0, all_clear test looks ks parts.1)

module _ (test : Look → Bool) (f g : Key → Answer) (looks more : Key → List Look)
    (carries : (k : Key) → Clear test (looks k) → (f k ≡ g k) × SameLooks (looks k) (more k)) where
  abbrev pub Good : Key → Type 0
  Good k = Clear test (looks k)

  pub good_holds : (k : Key) → Clear test (looks k) → f k ≡ g k
  good_holds k clear = (carries k clear).0

  all_same : (ks : List Key) → AllOf (λ k. Clear test (looks k)) ks → SameLooks (flat_map looks ks) (flat_map more ks)
  all_same [] all = λ t. refl
  all_same (k ∷ ks) all = same_both (looks k) (more k) (flat_map looks ks) (flat_map more ks) (carries k all.0).1 (all_same ks all.1)

  -- a reading comes to the same and looks at the same
  pub reading_carries : {A : Type 0} (r s : Step A) → Carried f g (λ k. Clear test (looks k)) good_holds r s → Clear test (flat_map looks (asked f r))
      → (result_of f r ≡ result_of g s) × SameLooks (flat_map looks (asked f r)) (flat_map more (asked g s))
  reading_carries r s one clear =
      let all = all_clear test looks (asked f r) clear in
      let both = one all in
      (both.0, λ t. all_same (asked f r) all t ∙ ap (λ ks. list_any t (flat_map more ks)) both.1)

-- ---- what is there

abbrev fault_presence : Option Bool → Presence
fault_presence (Some fault) = source_presence fault
fault_presence None = presence.There

file_presence-is : (o : Option Interface) → file_presence o ≡ fault_presence (fault_in o)
file_presence-is (Some file) = refl
file_presence-is None = refl

-- whether a name is there, and what is looked at for that, by what is seen of it
abbrev presence_by : List Interface → QualifiedName → NameView → Presence
presence_by files q away = presence.NoModule
presence_by files q (in_fixed fixed) = presence.There
presence_by files q in_opaque = presence.Opaque
presence_by files q not_bound = submodule_presence files q
presence_by files q (bound b) = if on_ring files q then presence.Cycle else presence.There

abbrev looks_by : List Interface → QualifiedName → NameView → List Look
looks_by files q away = of_module q.module_path ∷ []
looks_by files q (in_fixed fixed) = []
looks_by files q in_opaque = of_module q.module_path ∷ []
looks_by files q not_bound = unbound_looks q
looks_by files q (bound b) = on_ring_looks files q

module _ (files : List Interface) (q : QualifiedName) where
  presence_of_binding : (d : Option Binding) → binding_presence files q d ≡ presence_by files q (binding_view d)
  presence_of_binding (Some b) = refl
  presence_of_binding None = refl

  presence_of_source : (file : Interface) (fault : Bool) → name_in_source files q file fault ≡ presence_by files q (source_view file q.name fault)
  presence_of_source file false = presence_of_binding (declaration file.bindings q.name)
  presence_of_source file true = refl

  presence_of_file : (o : Option Interface) → name_in_file files q o ≡ presence_by files q (file_view q.name o)
  presence_of_file (Some file) = presence_of_source file file.has_fault
  presence_of_file None = refl

  presence_of_module : (o : Option FixedModule) → name_in_module files q o ≡ presence_by files q (module_view files q o)
  presence_of_module (Some fixed) = refl
  presence_of_module None = presence_of_file (file_of files q.module_path)

  presence_of_any : (b : Bool) → (if b then name_in_module files q (fixed_module q.module_path) else presence.NoModule) ≡ presence_by files q (if b then module_view files q (fixed_module q.module_path) else away)
  presence_of_any true = presence_of_module (fixed_module q.module_path)
  presence_of_any false = refl

  name_presence-is : name_presence files q ≡ presence_by files q (name_view files q)
  unfolding name_presence
  name_presence-is = presence_of_any (has_module files q.module_path)

  looks_of_binding : (d : Option Binding) → binding_looks files q d ≡ looks_by files q (binding_view d)
  looks_of_binding (Some b) = refl
  looks_of_binding None = refl

  looks_of_source : (file : Interface) (fault : Bool) → source_looks files q file fault ≡ looks_by files q (source_view file q.name fault)
  looks_of_source file false = looks_of_binding (declaration file.bindings q.name)
  looks_of_source file true = refl

  looks_of_file : (o : Option Interface) → file_looks files q o ≡ looks_by files q (file_view q.name o)
  looks_of_file (Some file) = looks_of_source file file.has_fault
  looks_of_file None = refl

  looks_of_module : (o : Option FixedModule) → module_looks files q o ≡ looks_by files q (module_view files q o)
  looks_of_module (Some fixed) = refl
  looks_of_module None = looks_of_file (file_of files q.module_path)

  looks_of_any : (b : Bool) → (if b then module_looks files q (fixed_module q.module_path) else (of_module q.module_path ∷ [])) ≡ looks_by files q (if b then module_view files q (fixed_module q.module_path) else away)
  looks_of_any true = looks_of_module (fixed_module q.module_path)
  looks_of_any false = refl

  presence_looks-is : presence_looks files q ≡ of_name q ∷ looks_by files q (name_view files q)
  unfolding presence_looks
  presence_looks-is = ap (λ l. of_name q ∷ l) (looks_of_any (has_module files q.module_path))

-- two files of a module, one in each list; one of a fixed module is the same in both
pub record TwinFiles (files others : List Interface) (file twin : Interface) : Type 0 where
  pub home : List (List ℕ)
  pub is_file : file_of files home ≡ Some file
  pub is_twin : file_of others home ≡ Some twin
  pub file_named : file.name ≡ home
  pub twin_named : twin.name ≡ home
  pub is_fixed : is_some (fixed_module home) ≡ true → file ≡ twin

module _ (differs : Look → Bool) (files others : List Interface) (alike : AreAlike differs files others) where
  one_first : (look : Look) (looks : List Look) → Clear differs (look ∷ looks) → differs look ≡ false
  one_first look looks clear = (or_parts (differs look) (list_any differs looks) clear).0

  one_rest : (look : Look) (looks : List Look) → Clear differs (look ∷ looks) → Clear differs looks
  one_rest look looks clear = (or_parts (differs look) (list_any differs looks) clear).1

  pub followed : (q : QualifiedName) → Clear differs (follow_looks files q) → (follow files q ≡ follow others q) × SameLooks (follow_looks files q) (follow_looks others q)
  followed q clear = follow_carries differs files others (steps_carry differs files others alike) q clear

  -- a name whose kind or type is asked is looked at itself
  pub own_found_clear : (q : QualifiedName) → Clear differs (found_name_looks files q) → differs (of_name q) ≡ false
  own_found_clear q clear = own_clear differs files q (clear_parts differs (follow_looks files q) (referent_looks q (follow files q)) clear).0

  -- ---- whether things are there

  module_carries : (m : List (List ℕ)) → differs (of_module m) ≡ false → module_presence files m ≡ module_presence others m
  unfolding module_presence
  module_carries m clear =
      ap (λ b. if b then unfixed_presence files m (fixed_module m) else presence.NoModule) (alike.modules m clear)
      ∙ ap (λ p. if has_module others m then p else presence.NoModule) (unfixed (fixed_module m))
    where
      unfixed : (o : Option FixedModule) → unfixed_presence files m o ≡ unfixed_presence others m o
      unfixed (Some fixed) = refl
      unfixed None = file_presence-is (file_of files m) ∙ ap fault_presence (alike.faults m clear) ∙ sym (file_presence-is (file_of others m))

  seen_carries : (q : QualifiedName) (v : NameView) → Clear differs (looks_by files q v) → (presence_by files q v ≡ presence_by others q v) × SameLooks (looks_by files q v) (looks_by others q v)
  seen_carries q away clear = (refl, λ t. refl)
  seen_carries q (in_fixed fixed) clear = (refl, λ t. refl)
  seen_carries q in_opaque clear = (refl, λ t. refl)
  seen_carries q not_bound clear = (
    ap (λ b. if b then presence.There else presence.NoName) (alike.modules (submodule q) (one_first (of_module (submodule q)) [] (one_rest (of_module q.module_path) (of_module (submodule q) ∷ []) clear))),
    λ t. refl,
  )
  seen_carries q (bound b) clear =
      let ring = on_ring_carries differs files others (steps_carry differs files others alike) q clear in
      (ap (λ b. if b then presence.Cycle else presence.There) ring.0, ring.1)

  seen_clear : (q : QualifiedName) (v : NameView) → Clear differs (looks_by files q v) → Clear differs (view_looks q v)
  seen_clear q away clear = clear
  seen_clear q (in_fixed fixed) clear = refl
  seen_clear q in_opaque clear = clear
  seen_clear q not_bound clear = ap (λ b. b || false) (one_first (of_module q.module_path) (of_module (submodule q) ∷ []) clear)
  seen_clear q (bound b) clear = refl

  presence_carries : (q : QualifiedName) → Clear differs (presence_looks files q) → (name_presence files q ≡ name_presence others q) × SameLooks (presence_looks files q) (presence_looks others q)
  presence_carries q clear =
      let whole : Clear differs (of_name q ∷ looks_by files q (name_view files q)) = sym (ap (list_any differs) (presence_looks-is files q)) ∙ clear in
      let rest = one_rest (of_name q) (looks_by files q (name_view files q)) whole in
      let same = view_carries differs files others alike q (one_first (of_name q) (looks_by files q (name_view files q)) whole) (seen_clear q (name_view files q) rest) in
      let both = seen_carries q (name_view files q) rest in (
        name_presence-is files q ∙ both.0 ∙ ap (presence_by others q) same ∙ sym (name_presence-is others q),
        λ t. ap (list_any t) (presence_looks-is files q)
            ∙ ap (λ b. t (of_name q) || b) (both.1 t ∙ ap (λ v. list_any t (looks_by others q v)) same)
            ∙ ap (list_any t) (sym (presence_looks-is others q)),
      )

  -- ---- what other files see

  hidden_alike : (q : QualifiedName) → Clear differs (seen_looks files q) → is_hidden_name files q ≡ is_hidden_name others q
  hidden_alike q clear = hidden_carries files others q (alike.names q (one_first (of_name q) (if is_hidden_name files q then of_module (submodule q) ∷ [] else []) clear))

  hidden_module : (q : QualifiedName) → Clear differs (looks_by_hidden q true) → has_module files (submodule q) ≡ has_module others (submodule q)
  hidden_module q clear = alike.modules (submodule q) (one_first (of_module (submodule q)) [] (one_rest (of_name q) (of_module (submodule q) ∷ []) clear))

  abbrev export_by : List Interface → QualifiedName → Bool → Export
  export_by some q b = if b then hidden_export some q else passed.Open

  export_hidden : (q : QualifiedName) (b : Bool) → Clear differs (looks_by_hidden q b) → export_by files q b ≡ export_by others q b
  export_hidden q true clear = ap (λ there. if there then passed.Submodule else passed.Hidden) (hidden_module q clear)
  export_hidden q false clear = refl

  export_carries : (q : QualifiedName) → Clear differs (seen_looks files q) → (name_export files q ≡ name_export others q) × SameLooks (seen_looks files q) (seen_looks others q)
  unfolding name_export
  export_carries q clear =
      let same = hidden_alike q clear in (export_hidden q (is_hidden_name files q) clear ∙ ap (export_by others q) same, λ t. ap (λ b. list_any t (looks_by_hidden q b)) same)

  -- a name that stands for this, by whether its module hides it
  abbrev outside_by : List Interface → QualifiedName → Referent → Bool → Referent
  outside_by some q found b = if may_be_hidden found && b then unbound_referent some q else found

  outside_hidden : (q : QualifiedName) (found : Referent) (b : Bool) → Clear differs (looks_by_hidden q b) → outside_by files q found b ≡ outside_by others q found b
  outside_hidden q found true clear =
      ap (λ there. if may_be_hidden found && true then (if there then names.module_itself (submodule q) else names.no_name) else found) (hidden_module q clear)
  outside_hidden q found false clear = elim (may_be_hidden found) as (λ b. (if b && false then unbound_referent files q else found) ≡ (if b && false then unbound_referent others q else found)) [
    | true ↦ refl
    | false ↦ refl
  ]

  outside_carries : (q : QualifiedName) → Clear differs (outside_looks files q) → (outside_referent files q ≡ outside_referent others q) × SameLooks (outside_looks files q) (outside_looks others q)
  outside_carries q clear =
      let parts = clear_parts differs (follow_looks files q) (seen_looks files q) clear in
      let found = followed q parts.0 in
      let same = hidden_alike q parts.1 in (
        outside_hidden q (follow files q) (is_hidden_name files q) parts.1 ∙ ap (λ r. outside_by others q r (is_hidden_name files q)) found.0 ∙ ap (outside_by others q (follow others q)) same,
        same_both (follow_looks files q) (follow_looks others q) (seen_looks files q) (seen_looks others q) found.1 (λ t. ap (λ b. list_any t (looks_by_hidden q b)) same),
      )

  -- ---- two files of a module

  module _ (file twin : Interface) (twins : TwinFiles files others file twin) where
    pub bind_alike : (x : List ℕ) → differs (of_name (record { module_path = twins.home; name = x })) ≡ false → binds file x ≡ binds twin x
    bind_alike x clear =
        let q : QualifiedName = record { module_path = twins.home; name = x } in
        binds_seen files q file twins.is_file ∙ ap is_some (alike.names q clear) ∙ sym (binds_seen others q twin twins.is_twin)

    -- files of a fixed module bind alike
    pub fixed_alike : (x : List ℕ) → is_some (fixed_module file.name) ≡ true → binds file x ≡ binds twin x
    fixed_alike x fixed = ap (λ (f : Interface). binds f x) (twins.is_fixed (sym (ap (λ m. is_some (fixed_module m)) twins.file_named) ∙ fixed))

  -- ---- aliases

  attribute_carries : (found : Referent) (n : List ℕ) → Clear differs (attribute_looks files found n)
      → (attribute_referent files found n ≡ attribute_referent others found n) × SameLooks (attribute_looks files found n) (attribute_looks others found n)
  attribute_carries (names.module_itself m) n clear =
      let q : QualifiedName = record { module_path = m; name = n } in
      elim (is_looked_up m n) as (λ b. Clear differs (if b then outside_looks files q else [])
      → ((if b then outside_referent files q else names.no_name) ≡ (if b then outside_referent others q else names.no_name)) × SameLooks (if b then outside_looks files q else []) (if b then outside_looks others q else [])) [
        | true ↦ λ clear. outside_carries q clear
        | false ↦ λ clear. (refl, λ t. refl)
      ] clear
  attribute_carries (names.declared q) n clear = (refl, λ t. refl)
  attribute_carries names.opaque n clear = (refl, λ t. refl)
  attribute_carries names.fixed_any n clear = (refl, λ t. refl)
  attribute_carries names.no_module n clear = (refl, λ t. refl)
  attribute_carries names.no_name n clear = (refl, λ t. refl)
  attribute_carries names.cycle n clear = (refl, λ t. refl)

  attributes_carry : (found : Referent) (ns : List (List ℕ)) → Clear differs (attributes_looks files found ns)
      → (attributes_referent files found ns ≡ attributes_referent others found ns) × SameLooks (attributes_looks files found ns) (attributes_looks others found ns)
  attributes_carry found [] clear = (refl, λ t. refl)
  attributes_carry found (n ∷ ns) clear =
      let parts = clear_parts differs (attribute_looks files found n) (attributes_looks files (attribute_referent files found n) ns) clear in
      let one = attribute_carries found n parts.0 in
      let later = attributes_carry (attribute_referent files found n) ns parts.1 in (
        later.0 ∙ ap (λ r. attributes_referent others r ns) one.0,
        same_both (attribute_looks files found n) (attribute_looks others found n) (attributes_looks files (attribute_referent files found n) ns) (attributes_looks others (attribute_referent others found n) ns)
            one.1 (λ t. later.1 t ∙ ap (λ r. list_any t (attributes_looks others r ns)) one.0),
      )

  -- a name of a module, by whether its file binds it
  abbrev own_by : List Interface → QualifiedName → Bool → Referent
  own_by some q b = if b then follow some q else names.no_name

  abbrev own_looks_by : List Interface → QualifiedName → Bool → List Look
  own_looks_by some q b = if b then follow_looks some q else (of_name q ∷ [])

  own_looked : (q : QualifiedName) (b : Bool) → Clear differs (own_looks_by files q b) → differs (of_name q) ≡ false
  own_looked q true clear = own_clear differs files q clear
  own_looked q false clear = one_first (of_name q) [] clear

  own_carries_by : (q : QualifiedName) (b : Bool) → Clear differs (own_looks_by files q b) → (own_by files q b ≡ own_by others q b) × SameLooks (own_looks_by files q b) (own_looks_by others q b)
  own_carries_by q true clear = followed q clear
  own_carries_by q false clear = (refl, λ t. refl)

  module _ (file twin : Interface) (twins : TwinFiles files others file twin) where
    own_carries : (x : List ℕ) → Clear differs (own_name_looks files file x)
        → (own_referent files file x ≡ own_referent others twin x) × SameLooks (own_name_looks files file x) (own_name_looks others twin x)
    own_carries x clear =
        let q : List (List ℕ) → QualifiedName = λ m. record { module_path = m; name = x } in
        let here : Clear differs (own_looks_by files (q twins.home) (binds file x)) = sym (ap (λ m. list_any differs (own_looks_by files (q m) (binds file x))) twins.file_named) ∙ clear in
        let same = bind_alike file twin twins x (own_looked (q twins.home) (binds file x) here) in
        let both = own_carries_by (q twins.home) (binds file x) here in (
          ap (λ m. own_by files (q m) (binds file x)) twins.file_named ∙ both.0 ∙ ap (own_by others (q twins.home)) same ∙ ap (λ m. own_by others (q m) (binds twin x)) (sym twins.twin_named),
          λ t. ap (λ m. list_any t (own_looks_by files (q m) (binds file x))) twins.file_named ∙ both.1 t
              ∙ ap (λ b. list_any t (own_looks_by others (q twins.home) b)) same ∙ ap (λ m. list_any t (own_looks_by others (q m) (binds twin x))) (sym twins.twin_named),
        )

    dotted_carries : (ns : List (List ℕ)) → Clear differs (dotted_looks files file ns)
        → (dotted_referent files file ns ≡ dotted_referent others twin ns) × SameLooks (dotted_looks files file ns) (dotted_looks others twin ns)
    dotted_carries [] clear = (refl, λ t. refl)
    dotted_carries (x ∷ ns) clear =
        let parts = clear_parts differs (own_name_looks files file x) (attributes_looks files (own_referent files file x) ns) clear in
        let one = own_carries x parts.0 in
        let later = attributes_carry (own_referent files file x) ns parts.1 in (
          later.0 ∙ ap (λ r. attributes_referent others r ns) one.0,
          same_both (own_name_looks files file x) (own_name_looks others twin x) (attributes_looks files (own_referent files file x) ns) (attributes_looks others (own_referent others twin x) ns)
              one.1 (λ t. later.1 t ∙ ap (λ r. list_any t (attributes_looks others r ns)) one.0),
        )

    alias_type_carries : (e : TypeExpr) → Clear differs (alias_type_looks files file e)
        → (is_alias_type files file e ≡ is_alias_type others twin e) × SameLooks (alias_type_looks files file e) (alias_type_looks others twin e)
    alias_type_carries (name_written at found) clear = let one = dotted_carries found.names clear in (ap is_fixed_any one.0, one.1)
    alias_type_carries none_written clear = (refl, λ t. refl)
    alias_type_carries (union_written left right) clear = (refl, λ t. refl)
    alias_type_carries (subscript_written at found is_nested xs) clear = (refl, λ t. refl)
    alias_type_carries (wrong_written at) clear = (refl, λ t. refl)

    pub alias_carries : (e : Expr) → Clear differs (alias_looks files file e) → (is_alias files file e ≡ is_alias others twin e) × SameLooks (alias_looks files file e) (alias_looks others twin e)
    unfolding is_alias alias_looks
    alias_carries e clear = alias_type_carries (type_expr e) clear

    -- ---- kinds

    form_kind_carries : (form : BindingForm) → Clear differs (form_kind_looks files file form)
        → (form_kind files file form ≡ form_kind others twin form) × SameLooks (form_kind_looks files file form) (form_kind_looks others twin form)
    form_kind_carries (function head) clear = (refl, λ t. refl)
    form_kind_carries (class head) clear = (ap (λ m. class_kind m head.name) (twins.file_named ∙ sym twins.twin_named), λ t. refl)
    form_kind_carries (annotated found) clear = let one = alias_carries found.annotation clear in (ap (λ b. of_kind (variable_kind b)) one.0, one.1)
    form_kind_carries (assigned value) clear = (refl, λ t. refl)
    form_kind_carries (import path) clear = (refl, λ t. refl)
    form_kind_carries (import_from dots path x) clear = (refl, λ t. refl)
    form_kind_carries other clear = (refl, λ t. refl)

  -- ---- what a name leads to

  -- both are a declaration of one form in two files of a module, or the same answer
  abbrev pub FoundAlike : Found → Found → Type 0
  FoundAlike (declared_in file form) (declared_in twin more) = TwinFiles files others file twin × (form ≡ more)
  FoundAlike (answered a) (answered b) = a ≡ b
  FoundAlike _ _ = ⊥

  fixed_same : (o : Option FixedName) → FoundAlike (fixed_found o) (fixed_found o)
  fixed_same (Some found) = refl
  fixed_same None = refl

  binding_same : (file twin : Interface) → TwinFiles files others file twin → (b : Binding) → FoundAlike (found_binding file (Some b)) (found_binding twin (Some b))
  binding_same file twin twins b = elim (is_decorated b.form) as (λ d. FoundAlike (if d then answered (of_kind kind.unknown) else declared_in file b.form) (if d then answered (of_kind kind.unknown) else declared_in twin b.form)) [
    | true ↦ refl
    | false ↦ (twins, refl)
  ]

  -- a name that its module's file does not bind declares nothing that is known
  unbound_found : (some : List Interface) (r : QualifiedName) → name_seen some r ≡ None → found_in_file r (file_of some r.module_path) ≡ answered (of_kind kind.unknown)
  unbound_found some r none = by (file_of some r.module_path) refl
    where
      by : (o : Option Interface) → file_of some r.module_path ≡ o → found_in_file r o ≡ answered (of_kind kind.unknown)
      by None is = refl
      by (Some file) is = ap (found_binding file) (unbound_in some r none file is)

  unfixed_found : (r : QualifiedName) → fixed_module r.module_path ≡ None → name_seen files r ≡ name_seen others r
      → FoundAlike (found_in_file r (file_of files r.module_path)) (found_in_file r (file_of others r.module_path))
  unfixed_found r unfixed same = by (name_seen files r) refl
    where
      by : (o : Option BindingSeen) → name_seen files r ≡ o → FoundAlike (found_in_file r (file_of files r.module_path)) (found_in_file r (file_of others r.module_path))
      by None is =
          subst (λ (y : Found). FoundAlike (found_in_file r (file_of files r.module_path)) y) (sym (unbound_found others r (sym same ∙ is)))
          (subst (λ (x : Found). FoundAlike x (answered (of_kind kind.unknown))) (sym (unbound_found files r is)) refl)
      by (Some s) is =
          let here = bound_in files r s is in
          let there = bound_in others r s (sym same ∙ is) in
          let twins : TwinFiles files others here.file there.file = record {
            home = r.module_path;
            is_file = here.is_file;
            is_twin = there.is_file;
            file_named = file_is_named files r.module_path here.file here.is_file;
            twin_named = file_is_named others r.module_path there.file there.is_file;
            is_fixed = λ fixed. absurd (false≢true (sym (ap is_some unfixed) ∙ fixed));
          } in
          let first : found_in_file r (file_of files r.module_path) ≡ found_binding here.file (Some s.binding) = ap (found_in_file r) here.is_file ∙ ap (found_binding here.file) here.is_declaration in
          let second : found_in_file r (file_of others r.module_path) ≡ found_binding there.file (Some s.binding) = ap (found_in_file r) there.is_file ∙ ap (found_binding there.file) there.is_declaration in
          subst (λ (y : Found). FoundAlike (found_in_file r (file_of files r.module_path)) y) (sym second)
          (subst (λ (x : Found). FoundAlike x (found_binding there.file (Some s.binding))) (sym first) (binding_same here.file there.file twins s.binding))

  declared_alike : (r : QualifiedName) (o : Option FixedModule) → fixed_module r.module_path ≡ o → name_seen files r ≡ name_seen others r → FoundAlike (found_declared files r o) (found_declared others r o)
  declared_alike r (Some fixed) is same = fixed_same (fixed_name fixed r.name)
  declared_alike r None is same = unfixed_found r is same

  absent-is : (some : List Interface) (q : QualifiedName) (o : Option Interface)
      → absent_name o q.name ≡ (if is_some (name_in (has_module some q.module_path) q.name o) then kind.no_target else kind.no_name)
  absent-is some q None = refl
  absent-is some q (Some file) = by (declaration file.bindings q.name)
    where
      by : (d : Option Binding) → (if is_some d then kind.no_target else kind.no_name) ≡ (if is_some (binding_seen (has_module some q.module_path) file d) then kind.no_target else kind.no_name)
      by None = refl
      by (Some b) = refl

  abbrev faulty_by : Option Bool → NameKind
  faulty_by (Some fault) = if fault then kind.opaque else kind.unknown
  faulty_by None = kind.unknown

  faulty-is : (o : Option Interface) → faulty_name o ≡ faulty_by (fault_in o)
  faulty-is (Some file) = refl
  faulty-is None = refl

  referent_alike : (q : QualifiedName) (found : Referent) → follow files q ≡ found → Clear differs (follow_looks files q) → Clear differs (referent_looks q found) → FoundAlike (found_referent files q found) (found_referent others q found)
  referent_alike q (names.declared r) is clear more = declared_alike r (fixed_module r.module_path) refl (alike.names r (declared_clear differs files q r clear is))
  referent_alike q (names.module_itself m) is clear more = refl
  referent_alike q names.opaque is clear more =
      ap of_kind (faulty-is (file_of files q.module_path) ∙ ap faulty_by (alike.faults q.module_path (one_first (of_module q.module_path) [] more)) ∙ sym (faulty-is (file_of others q.module_path)))
  referent_alike q names.fixed_any is clear more = refl
  referent_alike q names.no_module is clear more = refl
  referent_alike q names.no_name is clear more =
      ap of_kind (absent-is files q (file_of files q.module_path)
      ∙ ap (λ s. if is_some s then kind.no_target else kind.no_name) (alike.names q (own_clear differs files q clear))
      ∙ sym (absent-is others q (file_of others q.module_path)))
  referent_alike q names.cycle is clear more = refl

  pub found_alike : (q : QualifiedName) → Clear differs (found_name_looks files q) → FoundAlike (found_name files q) (found_name others q)
  unfolding found_name
  found_alike q clear =
      let parts = clear_parts differs (follow_looks files q) (referent_looks q (follow files q)) clear in
      subst (λ (found : Referent). FoundAlike (found_referent files q (follow files q)) (found_referent others q found)) (followed q parts.0).0 (referent_alike q (follow files q) refl parts.0 parts.1)

  pub found_looks_same : (q : QualifiedName) → Clear differs (found_name_looks files q) → SameLooks (found_name_looks files q) (found_name_looks others q)
  found_looks_same q clear =
      let found = followed q (clear_parts differs (follow_looks files q) (referent_looks q (follow files q)) clear).0 in
      same_both (follow_looks files q) (follow_looks others q) (referent_looks q (follow files q)) (referent_looks q (follow others q)) found.1 (λ t. ap (λ r. list_any t (referent_looks q r)) found.0)

  found_kind_carries : (x y : Found) → FoundAlike x y → Clear differs (found_kind_looks files x) → (found_kind files x ≡ found_kind others y) × SameLooks (found_kind_looks files x) (found_kind_looks others y)
  found_kind_carries (declared_in file form) (declared_in twin more) both clear =
      let one = form_kind_carries file twin both.0 form clear in
      (one.0 ∙ ap (form_kind others twin) both.1, λ t. one.1 t ∙ ap (λ f. list_any t (form_kind_looks others twin f)) both.1)
  found_kind_carries (declared_in file form) (answered b) none clear = absurd none
  found_kind_carries (answered a) (declared_in twin more) none clear = absurd none
  found_kind_carries (answered a) (answered b) same clear = (same, λ t. refl)

  name_kind_carries : (q : QualifiedName) → Clear differs (name_kind_looks files q) → (name_kind files q ≡ name_kind others q) × SameLooks (name_kind_looks files q) (name_kind_looks others q)
  name_kind_carries q clear =
      let parts = clear_parts differs (found_name_looks files q) (found_kind_looks files (found_name files q)) clear in
      let one = found_kind_carries (found_name files q) (found_name others q) (found_alike q parts.0) parts.1 in
      (one.0, same_both (found_name_looks files q) (found_name_looks others q) (found_kind_looks files (found_name files q)) (found_kind_looks others (found_name others q)) (found_looks_same q parts.0) one.1)

  pub kind_carries : (k : Key) → Clear differs (kind_looks files k) → (kind_answer files k ≡ kind_answer others k) × SameLooks (kind_looks files k) (kind_looks others k)
  kind_carries (key.has_module m) clear = (ap presence_of (module_carries m (one_first (of_module m) [] clear)), λ t. refl)
  kind_carries (key.has_name q) clear = let one = presence_carries q clear in (ap presence_of one.0, one.1)
  kind_carries (key.name q) clear = let one = name_kind_carries q clear in (ap name_is one.0, one.1)
  kind_carries (key.class c) clear = (refl, λ t. refl)
  kind_carries (key.member c) clear = (refl, λ t. refl)
  kind_carries (key.export q) clear = let one = export_carries q clear in (ap export_is one.0, one.1)

  -- ---- the types of declarations

  abbrev KindClear : Key → Type 0
  KindClear k = Clear differs (kind_looks files k)

  kinds_hold : (k : Key) → Clear differs (kind_looks files k) → kind_answer files k ≡ kind_answer others k
  kinds_hold = good_holds differs (kind_answer files) (kind_answer others) (kind_looks files) (kind_looks others) kind_carries

  module _ (file twin : Interface) (twins : TwinFiles files others file twin) where
    kind_twins : AreTwins (kind_answer files) (kind_answer others) (λ k. Clear differs (kind_looks files k)) kinds_hold file twin
    kind_twins = record {
      named = twins.file_named ∙ sym twins.twin_named;
      by_key = λ x clear.
          let q : QualifiedName = record { module_path = file.name; name = x } in
          let looked = own_found_clear q (clear_parts differs (found_name_looks files q) (found_kind_looks files (found_name files q)) clear).0 in
          bind_alike file twin twins x (sym (ap (λ (m : List (List ℕ)). differs (of_name (record { module_path = m; name = x }))) twins.file_named) ∙ looked);
      in_fixed = fixed_alike file twin twins;
    }

    pub annotated_carries : (e : Expr) → Clear differs (annotated_looks files file e)
        → (annotated_type files file e ≡ annotated_type others twin e) × SameLooks (annotated_looks files file e) (annotated_looks others twin e)
    unfolding annotated_type annotated_looks
    annotated_carries e clear =
        let one = reading_carries differs (kind_answer files) (kind_answer others) (kind_looks files) (kind_looks others) kind_carries (read_type file (type_expr e)) (read_type twin (type_expr e))
        (read_type-carried (kind_answer files) (kind_answer others) (λ k. Clear differs (kind_looks files k)) kinds_hold file twin kind_twins (type_expr e)) clear in
        (ap (λ a. a.ty) one.0, one.1)

    pub function_carries : (receiver : Ty) (head : FunctionDefinition) → Clear differs (function_looks files file receiver head)
        → (declared_function files file receiver head ≡ declared_function others twin receiver head) × SameLooks (function_looks files file receiver head) (function_looks others twin receiver head)
    unfolding declared_function function_looks
    function_carries receiver head clear =
        reading_carries differs (kind_answer files) (kind_answer others) (kind_looks files) (kind_looks others) kind_carries (function_type file receiver head) (function_type twin receiver head)
        (function_type-carried (kind_answer files) (kind_answer others) (λ k. Clear differs (kind_looks files k)) kinds_hold file twin kind_twins receiver head) clear

    form_carries : (form : BindingForm) → Clear differs (form_looks files file form)
        → (form_answer files file form ≡ form_answer others twin form) × SameLooks (form_looks files file form) (form_looks others twin form)
    form_carries (function head) clear = let one = function_carries any head clear in (ap (answer_with kind.function_name) one.0, one.1)
    form_carries (annotated found) clear =
        let parts = clear_parts differs (alias_looks files file found.annotation) (annotated_looks files file found.annotation) clear in
        let one = alias_carries file twin twins found.annotation parts.0 in
        let two = annotated_carries found.annotation parts.1 in (
          ap₂ (λ b ty. answer_with (variable_kind b) ty) one.0 two.0,
          same_both (alias_looks files file found.annotation) (alias_looks others twin found.annotation) (annotated_looks files file found.annotation) (annotated_looks others twin found.annotation) one.1 two.1,
        )
    form_carries (class head) clear = (ap (λ m. class_kind m head.name) (twins.file_named ∙ sym twins.twin_named), λ t. refl)
    form_carries (assigned value) clear = (refl, λ t. refl)
    form_carries (import path) clear = (refl, λ t. refl)
    form_carries (import_from dots path x) clear = (refl, λ t. refl)
    form_carries other clear = (refl, λ t. refl)

  found_carries : (x y : Found) → FoundAlike x y → Clear differs (found_looks files x) → (found_answer files x ≡ found_answer others y) × SameLooks (found_looks files x) (found_looks others y)
  found_carries (declared_in file form) (declared_in twin more) both clear =
      let one = form_carries file twin both.0 form clear in
      (one.0 ∙ ap (form_answer others twin) both.1, λ t. one.1 t ∙ ap (λ f. list_any t (form_looks others twin f)) both.1)
  found_carries (declared_in file form) (answered b) none clear = absurd none
  found_carries (answered a) (declared_in twin more) none clear = absurd none
  found_carries (answered a) (answered b) same clear = (same, λ t. refl)

  name_carries : (q : QualifiedName) → Clear differs (name_looks files q) → (name_answer files q ≡ name_answer others q) × SameLooks (name_looks files q) (name_looks others q)
  name_carries q clear =
      let parts = clear_parts differs (found_name_looks files q) (found_looks files (found_name files q)) clear in
      let one = found_carries (found_name files q) (found_name others q) (found_alike q parts.0) parts.1 in
      (one.0, same_both (found_name_looks files q) (found_name_looks others q) (found_looks files (found_name files q)) (found_looks others (found_name others q)) (found_looks_same q parts.0) one.1)

  pub declared_carries : (k : Key) → Clear differs (declared_looks files k) → (declared_answer files k ≡ declared_answer others k) × SameLooks (declared_looks files k) (declared_looks others k)
  declared_carries (key.has_module m) clear = (ap presence_of (module_carries m (one_first (of_module m) [] clear)), λ t. refl)
  declared_carries (key.has_name q) clear = let one = presence_carries q clear in (ap presence_of one.0, one.1)
  declared_carries (key.name q) clear = let one = name_carries q clear in (ap name_is one.0, one.1)
  declared_carries (key.class c) clear = (refl, λ t. refl)
  declared_carries (key.member c) clear = (refl, λ t. refl)
  declared_carries (key.export q) clear = let one = export_carries q clear in (ap export_is one.0, one.1)

pub declared_carry : DeclaredCarriesOver
declared_carry differs files others k alike clear = declared_carries differs files others alike k clear
