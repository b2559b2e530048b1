-- What names stand for does not depend on positions.
use Rattle.std.proofs.Common.{◌≡◌, ℕ, zero, suc, ◌+◌, Bool, true, false, not, ◌&&◌, ◌||◌, List, [], ◌∷◌, map, Option, None, Some, is_some, if◌then◌else◌, cond, count_by, refl, sym, ap, ap₂, ◌∙◌}
use Rattle.std.proofs.lemmas.List.Sums.{sum_by-cons}
use Rattle.std.specs.Prelude.{option_map}
use Rattle.pyc_ast.specs.Exprs.{Expr}
use Rattle.pyc_bindings.specs.Bindings.{Binding, BindingForm, is_import, import, import_from, function, class, annotated, assigned, other}
use Rattle.pyc_bindings.specs.Redefinitions.{declaration, is_decorated}
use Rattle.pyc_declarations.specs.Exports.{hidden_export, name_export}
use Rattle.pyc_declarations.specs.Kinds.{faulty_name, may_be_hidden, seen_referent, outside_referent, Found, declared_in, answered, of_kind, found_binding, found_in_file, fixed_found, found_declared, absent_name, found_referent, found_name, is_looked_up, module_attribute, attribute_referent, attributes_referent, own_referent, dotted_referent, is_alias_type, is_alias, variable_kind, form_kind, found_kind, name_kind, kind_answer, answer_with, is_fixed_any}
use Rattle.pyc_declarations.specs.Presences.{file_presence, unfixed_presence, module_presence, submodule_presence, binding_presence, name_in_source, name_in_file, name_in_module, name_presence}
use Rattle.pyc_interfaces.specs.BareExpressions.{bare}
use Rattle.pyc_interfaces.specs.BareInterfaces.{bare_form, bare_binding, bare_interface}
use Rattle.pyc_interfaces.proofs.HeadLemmas.{find-map, is_decorated-bare, declaration-bare, is_bound-bare, initialiser_type-bare}
use Rattle.pyc_interfaces.proofs.TypeLemmas.{drop_type, type_expr-bare}
use Rattle.pyc_names.specs.declared.fixed.FixedModule.{FixedModule}
use Rattle.pyc_names.specs.FixedModules.{fixed_module, fixed_name}
use Rattle.pyc_names.specs.Following as names
use Rattle.pyc_names.specs.Following.{QualifiedName, Referent, Step, ends, leads, has_module, module_referent, submodule, unbound_referent, is_hidden_name, seen_step, step_to, import_step, form_step, binding_step, source_step, file_step, module_step, step, is_import_from, import_count, arrive, walk, follow, comes_to, leads_to, on_ring, same_name}
use Rattle.pyc_names.specs.Hidden.{hides, hides_from, hides_in, is_hidden}
use Rattle.pyc_names.specs.Imports.{named_module}
use Rattle.pyc_names.specs.Interfaces.{Interface, file_of}
use Rattle.pyc_names.specs.ModuleName.{same_module}
use Rattle.pyc_names.specs.Presence.{is_there}
use Rattle.pyc_reading.specs.Answers.{Answer, NameAnswer, presence_of, name_is, order_is, member_is, export_is}
use Rattle.pyc_reading.specs.Answers as kind
use Rattle.pyc_reading.specs.declared.answer.Export.TheVariants as passed
use Rattle.pyc_reading.specs.declared.answer.Presence.TheVariants as presence
use Rattle.pyc_reading.specs.Keys.{Key, MemberName}
use Rattle.pyc_reading.specs.Keys as key
use Rattle.pyc_type_exprs.specs.TypeExprs.{TypeExpr, none_written, name_written, union_written, subscript_written, wrong_written, type_expr}

-- ---- files

is_import_from-bare : (form : BindingForm) → is_import_from (bare_form form) ≡ is_import_from form
is_import_from-bare (import path) = refl
is_import_from-bare (import_from dots path n) = refl
is_import_from-bare (function head) = refl
is_import_from-bare (class head) = refl
is_import_from-bare (annotated found) = refl
is_import_from-bare (assigned value) = refl
is_import_from-bare other = refl

is_import-bare : (form : BindingForm) → is_import (bare_form form) ≡ is_import form
is_import-bare (import path) = refl
is_import-bare (import_from dots path n) = refl
is_import-bare (function head) = refl
is_import-bare (class head) = refl
is_import-bare (annotated found) = refl
is_import-bare (assigned value) = refl
is_import-bare other = refl

is_hidden-bare : (o : Option Binding) → is_hidden (option_map bare_binding o) ≡ is_hidden o
is_hidden-bare None = refl
is_hidden-bare (Some b) = ap (λ i. i && not b.is_passed_on) (is_import-bare b.form)

hides-bare : (file : Interface) (x : List ℕ) → hides (bare_interface file) x ≡ hides file x
hides-bare file x =
    ap (λ o. file.is_stub && is_hidden o) (declaration-bare file.bindings x) ∙ ap (λ h. file.is_stub && h) (is_hidden-bare (declaration file.bindings x))

hides_in-bare : (o : Option Interface) (x : List ℕ) → hides_in (option_map bare_interface o) x ≡ hides_in o x
hides_in-bare None x = refl
hides_in-bare (Some file) x = hides-bare file x

count-bare : (bindings : List Binding) → count_by (λ (b : Binding). is_import_from b.form) (map bare_binding bindings) ≡ count_by (λ (b : Binding). is_import_from b.form) bindings
count-bare [] = refl
count-bare (b ∷ bindings) =
    let one : Binding → ℕ = λ b. cond (is_import_from b.form) 1 0 in
    sum_by-cons one (bare_binding b) (map bare_binding bindings) ∙ ap₂ (λ m n. m + n) (ap (λ i. cond i 1 0) (is_import_from-bare b.form)) (count-bare bindings)
    ∙ sym (sum_by-cons one b bindings)

pub import_count-bare : (files : List Interface) → import_count (map bare_interface files) ≡ import_count files
import_count-bare [] = refl
import_count-bare (file ∷ files) = ap₂ (λ m n. m + n) (count-bare file.bindings) (import_count-bare files)

names-bare : (files : List Interface) → map (λ (file : Interface). file.name) (map bare_interface files) ≡ map (λ (file : Interface). file.name) files
names-bare [] = refl
names-bare (file ∷ files) = ap (λ l. file.name ∷ l) (names-bare files)

pub file_of-bare : (files : List Interface) (m : List (List ℕ)) → file_of (map bare_interface files) m ≡ option_map bare_interface (file_of files m)
file_of-bare files m = find-map (λ (file : Interface). same_module m file.name) bare_interface (λ file. refl) files

-- what a name leads to
abbrev pub bare_found : Found → Found
bare_found (declared_in file form) = declared_in (bare_interface file) (bare_form form)
bare_found (answered found) = answered found

module _ (files : List Interface) where
  abbrev alike : List Interface
  alike = map bare_interface files

  pub has_module-bare : (m : List (List ℕ)) → has_module alike m ≡ has_module files m
  has_module-bare m = ap (λ all. is_there all m) (names-bare files)

  -- ---- steps

  module_referent-bare : (m : List (List ℕ)) → module_referent alike m ≡ module_referent files m
  module_referent-bare m = ap (λ b. if b then names.module_itself m else names.no_module) (has_module-bare m)

  unbound_referent-bare : (q : QualifiedName) → unbound_referent alike q ≡ unbound_referent files q
  unbound_referent-bare q = ap (λ b. if b then names.module_itself (submodule q) else names.no_name) (has_module-bare (submodule q))

  hides_from-bare : (m : List (List ℕ)) (x : List ℕ) (fixed : Option FixedModule) → hides_from alike m x fixed ≡ hides_from files m x fixed
  hides_from-bare m x (Some fixed) = refl
  hides_from-bare m x None = ap (λ o. hides_in o x) (file_of-bare files m) ∙ hides_in-bare (file_of files m) x

  pub is_hidden_name-bare : (q : QualifiedName) → is_hidden_name alike q ≡ is_hidden_name files q
  is_hidden_name-bare q = hides_from-bare q.module_path q.name (fixed_module q.module_path)

  seen_step-bare : (next : QualifiedName) → seen_step alike next ≡ seen_step files next
  seen_step-bare next = ap₂ (λ b r. if b then ends r else leads next) (is_hidden_name-bare next) (unbound_referent-bare next)

  step_to-bare : (q next : QualifiedName) → step_to alike q next ≡ step_to files q next
  step_to-bare q next =
      ap₂ (λ b s. if same_name next q && b then ends (names.module_itself (submodule q)) else s) (has_module-bare (submodule q)) (seen_step-bare next)

  import_step-bare : (q : QualifiedName) (module_path : Option (List (List ℕ))) (n : List ℕ) → import_step alike q module_path n ≡ import_step files q module_path n
  import_step-bare q None n = refl
  import_step-bare q (Some m) n = step_to-bare q (record { module_path = m; name = n })

  form_step-bare : (q : QualifiedName) (file : Interface) (form : BindingForm) → form_step alike q (bare_interface file) (bare_form form) ≡ form_step files q file form
  form_step-bare q file (import path) = ap ends (module_referent-bare path)
  form_step-bare q file (import_from dots path n) = import_step-bare q (named_module file.is_package file.name dots path) n
  form_step-bare q file (function head) = refl
  form_step-bare q file (class head) = refl
  form_step-bare q file (annotated found) = refl
  form_step-bare q file (assigned value) = refl
  form_step-bare q file other = refl

  binding_step-bare : (q : QualifiedName) (file : Interface) (o : Option Binding) → binding_step alike q (bare_interface file) (option_map bare_binding o) ≡ binding_step files q file o
  binding_step-bare q file (Some b) = form_step-bare q file b.form
  binding_step-bare q file None = ap ends (unbound_referent-bare q)

  source_step-bare : (q : QualifiedName) (file : Interface) (has_fault : Bool) → source_step alike q (bare_interface file) has_fault ≡ source_step files q file has_fault
  source_step-bare q file true = refl
  source_step-bare q file false = ap (binding_step alike q (bare_interface file)) (declaration-bare file.bindings q.name) ∙ binding_step-bare q file (declaration file.bindings q.name)

  file_step-bare : (q : QualifiedName) (o : Option Interface) → file_step alike q (option_map bare_interface o) ≡ file_step files q o
  file_step-bare q (Some file) = source_step-bare q file file.has_fault
  file_step-bare q None = ap ends (unbound_referent-bare q)

  module_step-bare : (q : QualifiedName) (fixed : Option FixedModule) → module_step alike q fixed ≡ module_step files q fixed
  module_step-bare q (Some fixed) = refl
  module_step-bare q None = ap (file_step alike q) (file_of-bare files q.module_path) ∙ file_step-bare q (file_of files q.module_path)

  pub step-bare : (q : QualifiedName) → step alike q ≡ step files q
  unfolding step
  step-bare q =
      ap (λ b. if b then module_step alike q (fixed_module q.module_path) else ends names.no_module) (has_module-bare q.module_path)
      ∙ ap (λ s. if has_module files q.module_path then s else ends names.no_module) (module_step-bare q (fixed_module q.module_path))

  arrive-same : (f g : QualifiedName → Referent) → ((q : QualifiedName) → f q ≡ g q) → (s : Step) → arrive f s ≡ arrive g s
  arrive-same f g same (ends found) = refl
  arrive-same f g same (leads next) = same next

  walk-bare : (n : ℕ) (q : QualifiedName) → walk n alike q ≡ walk n files q
  walk-bare zero q = refl
  walk-bare (suc n) q = ap (arrive (walk n alike)) (step-bare q) ∙ arrive-same (walk n alike) (walk n files) (walk-bare n) (step files q)

  pub follow-bare : (q : QualifiedName) → follow alike q ≡ follow files q
  unfolding follow
  follow-bare q = ap (λ n. walk (suc n) alike q) (import_count-bare files) ∙ walk-bare (suc (import_count files)) q

  comes_to-same : (f g : QualifiedName → Bool) (to : QualifiedName) → ((q : QualifiedName) → f q ≡ g q) → (s : Step) → comes_to f to s ≡ comes_to g to s
  comes_to-same f g to same (ends found) = refl
  comes_to-same f g to same (leads next) = ap (λ b. same_name next to || b) (same next)

  leads_to-bare : (n : ℕ) (to q : QualifiedName) → leads_to n alike to q ≡ leads_to n files to q
  leads_to-bare zero to q = refl
  leads_to-bare (suc n) to q =
      ap (comes_to (leads_to n alike to) to) (step-bare q) ∙ comes_to-same (leads_to n alike to) (leads_to n files to) to (leads_to-bare n to) (step files q)

  on_ring-bare : (q : QualifiedName) → on_ring alike q ≡ on_ring files q
  unfolding on_ring
  on_ring-bare q = ap (λ n. leads_to n alike q q) (import_count-bare files) ∙ leads_to-bare (import_count files) q q

  -- ---- presence

  file_presence-bare : (o : Option Interface) → file_presence (option_map bare_interface o) ≡ file_presence o
  file_presence-bare (Some file) = refl
  file_presence-bare None = refl

  unfixed_presence-bare : (m : List (List ℕ)) (fixed : Option FixedModule) → unfixed_presence alike m fixed ≡ unfixed_presence files m fixed
  unfixed_presence-bare m (Some fixed) = refl
  unfixed_presence-bare m None = ap file_presence (file_of-bare files m) ∙ file_presence-bare (file_of files m)

  module_presence-bare : (m : List (List ℕ)) → module_presence alike m ≡ module_presence files m
  unfolding module_presence
  module_presence-bare m =
      ap (λ b. if b then unfixed_presence alike m (fixed_module m) else presence.NoModule) (has_module-bare m)
      ∙ ap (λ p. if has_module files m then p else presence.NoModule) (unfixed_presence-bare m (fixed_module m))

  submodule_presence-bare : (q : QualifiedName) → submodule_presence alike q ≡ submodule_presence files q
  submodule_presence-bare q = ap (λ b. if b then presence.There else presence.NoName) (has_module-bare (submodule q))

  binding_presence-bare : (q : QualifiedName) (o : Option Binding) → binding_presence alike q (option_map bare_binding o) ≡ binding_presence files q o
  binding_presence-bare q (Some b) = ap (λ r. if r then presence.Cycle else presence.There) (on_ring-bare q)
  binding_presence-bare q None = submodule_presence-bare q

  name_in_source-bare : (q : QualifiedName) (file : Interface) (has_fault : Bool) → name_in_source alike q (bare_interface file) has_fault ≡ name_in_source files q file has_fault
  name_in_source-bare q file true = refl
  name_in_source-bare q file false = ap (binding_presence alike q) (declaration-bare file.bindings q.name) ∙ binding_presence-bare q (declaration file.bindings q.name)

  name_in_file-bare : (q : QualifiedName) (o : Option Interface) → name_in_file alike q (option_map bare_interface o) ≡ name_in_file files q o
  name_in_file-bare q (Some file) = name_in_source-bare q file file.has_fault
  name_in_file-bare q None = submodule_presence-bare q

  name_in_module-bare : (q : QualifiedName) (fixed : Option FixedModule) → name_in_module alike q fixed ≡ name_in_module files q fixed
  name_in_module-bare q (Some fixed) = refl
  name_in_module-bare q None = ap (name_in_file alike q) (file_of-bare files q.module_path) ∙ name_in_file-bare q (file_of files q.module_path)

  name_presence-bare : (q : QualifiedName) → name_presence alike q ≡ name_presence files q
  unfolding name_presence
  name_presence-bare q =
      ap (λ b. if b then name_in_module alike q (fixed_module q.module_path) else presence.NoModule) (has_module-bare q.module_path)
      ∙ ap (λ p. if has_module files q.module_path then p else presence.NoModule) (name_in_module-bare q (fixed_module q.module_path))

  -- ---- what names lead to

  found_by : (file : Interface) (form : BindingForm) (b : Bool)
      → (if b then answered (of_kind kind.unknown) else declared_in (bare_interface file) (bare_form form)) ≡ bare_found (if b then answered (of_kind kind.unknown) else declared_in file form)
  found_by file form true = refl
  found_by file form false = refl

  found_binding-bare : (file : Interface) (o : Option Binding) → found_binding (bare_interface file) (option_map bare_binding o) ≡ bare_found (found_binding file o)
  found_binding-bare file None = refl
  found_binding-bare file (Some b) =
      ap (λ d. if d then answered (of_kind kind.unknown) else declared_in (bare_interface file) (bare_form b.form)) (is_decorated-bare b.form) ∙ found_by file b.form (is_decorated b.form)

  found_in_file-bare : (q : QualifiedName) (o : Option Interface) → found_in_file q (option_map bare_interface o) ≡ bare_found (found_in_file q o)
  found_in_file-bare q None = refl
  found_in_file-bare q (Some file) = ap (found_binding (bare_interface file)) (declaration-bare file.bindings q.name) ∙ found_binding-bare file (declaration file.bindings q.name)

  fixed_found-bare : (q : QualifiedName) (m : FixedModule) → fixed_found (fixed_name m q.name) ≡ bare_found (fixed_found (fixed_name m q.name))
  fixed_found-bare q m = elim (fixed_name m q.name) as (λ o. fixed_found o ≡ bare_found (fixed_found o)) [ Some found ↦ refl | None ↦ refl ]

  found_declared-bare : (q : QualifiedName) (fixed : Option FixedModule) → found_declared alike q fixed ≡ bare_found (found_declared files q fixed)
  found_declared-bare q (Some m) = fixed_found-bare q m
  found_declared-bare q None = ap (found_in_file q) (file_of-bare files q.module_path) ∙ found_in_file-bare q (file_of files q.module_path)

  absent_name-bare : (o : Option Interface) (x : List ℕ) → absent_name (option_map bare_interface o) x ≡ absent_name o x
  absent_name-bare None x = refl
  absent_name-bare (Some file) x = ap (λ b. if b then kind.no_target else kind.no_name) (is_bound-bare file.bindings x)

  faulty_name-bare : (o : Option Interface) → faulty_name (option_map bare_interface o) ≡ faulty_name o
  faulty_name-bare None = refl
  faulty_name-bare (Some file) = refl

  found_referent-bare : (q : QualifiedName) (r : Referent) → found_referent alike q r ≡ bare_found (found_referent files q r)
  found_referent-bare q (names.declared r) = found_declared-bare r (fixed_module r.module_path)
  found_referent-bare q (names.module_itself m) = refl
  found_referent-bare q names.opaque =
      ap (λ o. answered (of_kind (faulty_name o))) (file_of-bare files q.module_path) ∙ ap (λ k. answered (of_kind k)) (faulty_name-bare (file_of files q.module_path))
  found_referent-bare q names.fixed_any = refl
  found_referent-bare q names.no_module = refl
  found_referent-bare q names.no_name =
      ap (λ o. answered (of_kind (absent_name o q.name))) (file_of-bare files q.module_path) ∙ ap (λ k. answered (of_kind k)) (absent_name-bare (file_of files q.module_path) q.name)
  found_referent-bare q names.cycle = refl

  pub found_name-bare : (q : QualifiedName) → found_name alike q ≡ bare_found (found_name files q)
  unfolding found_name
  found_name-bare q = ap (found_referent alike q) (follow-bare q) ∙ found_referent-bare q (follow files q)

  -- ---- aliases

  seen_referent-bare : (q : QualifiedName) (r : Referent) → seen_referent alike q r ≡ seen_referent files q r
  seen_referent-bare q r = ap₂ (λ b s. if may_be_hidden r && b then s else r) (is_hidden_name-bare q) (unbound_referent-bare q)

  outside_referent-bare : (q : QualifiedName) → outside_referent alike q ≡ outside_referent files q
  outside_referent-bare q = ap (seen_referent alike q) (follow-bare q) ∙ seen_referent-bare q (follow files q)

  module_attribute-bare : (m : List (List ℕ)) (n : List ℕ) → module_attribute alike m n ≡ module_attribute files m n
  module_attribute-bare m n = ap (λ r. if is_looked_up m n then r else names.no_name) (outside_referent-bare (record { module_path = m; name = n }))

  pub attribute_referent-bare : (r : Referent) (n : List ℕ) → attribute_referent alike r n ≡ attribute_referent files r n
  attribute_referent-bare (names.module_itself m) n = module_attribute-bare m n
  attribute_referent-bare (names.declared r) n = refl
  attribute_referent-bare names.opaque n = refl
  attribute_referent-bare names.fixed_any n = refl
  attribute_referent-bare names.no_module n = refl
  attribute_referent-bare names.no_name n = refl
  attribute_referent-bare names.cycle n = refl

  attributes_referent-bare : (r : Referent) (ns : List (List ℕ)) → attributes_referent alike r ns ≡ attributes_referent files r ns
  attributes_referent-bare r [] = refl
  attributes_referent-bare r (n ∷ ns) = ap (λ s. attributes_referent alike s ns) (attribute_referent-bare r n) ∙ attributes_referent-bare (attribute_referent files r n) ns

  pub own_referent-bare : (file : Interface) (x : List ℕ) → own_referent alike (bare_interface file) x ≡ own_referent files file x
  own_referent-bare file x =
      ap (λ b. if b then follow alike (record { module_path = file.name; name = x }) else names.no_name) (is_bound-bare file.bindings x)
      ∙ ap (λ r. if is_some (declaration file.bindings x) then r else names.no_name) (follow-bare (record { module_path = file.name; name = x }))

  dotted_referent-bare : (file : Interface) (ns : List (List ℕ)) → dotted_referent alike (bare_interface file) ns ≡ dotted_referent files file ns
  dotted_referent-bare file [] = refl
  dotted_referent-bare file (x ∷ ns) = ap (λ r. attributes_referent alike r ns) (own_referent-bare file x) ∙ attributes_referent-bare (own_referent files file x) ns

  is_alias_type-bare : (file : Interface) (t : TypeExpr) → is_alias_type alike (bare_interface file) (drop_type t) ≡ is_alias_type files file t
  is_alias_type-bare file none_written = refl
  is_alias_type-bare file (name_written at found) = ap is_fixed_any (dotted_referent-bare file found.names)
  is_alias_type-bare file (union_written left right) = refl
  is_alias_type-bare file (subscript_written at found is_nested arguments) = refl
  is_alias_type-bare file (wrong_written at) = refl

  pub is_alias-bare : (file : Interface) (e : Expr) → is_alias alike (bare_interface file) (bare e) ≡ is_alias files file e
  unfolding is_alias
  is_alias-bare file e = ap (is_alias_type alike (bare_interface file)) (type_expr-bare e) ∙ is_alias_type-bare file (type_expr e)

  -- ---- kinds

  pub form_kind-bare : (file : Interface) (form : BindingForm) → form_kind alike (bare_interface file) (bare_form form) ≡ form_kind files file form
  form_kind-bare file (import path) = refl
  form_kind-bare file (import_from dots path n) = refl
  form_kind-bare file (function head) = refl
  form_kind-bare file (class head) = refl
  form_kind-bare file (annotated found) = ap (λ b. of_kind (variable_kind b)) (is_alias-bare file found.annotation)
  form_kind-bare file (assigned value) = ap (answer_with kind.variable) (initialiser_type-bare value)
  form_kind-bare file other = refl

  found_kind-bare : (x : Found) → found_kind alike (bare_found x) ≡ found_kind files x
  found_kind-bare (declared_in file form) = form_kind-bare file form
  found_kind-bare (answered found) = refl

  name_kind-bare : (q : QualifiedName) → name_kind alike q ≡ name_kind files q
  name_kind-bare q = ap (found_kind alike) (found_name-bare q) ∙ found_kind-bare (found_name files q)

  pub presences-bare : (m : List (List ℕ)) → presence_of (module_presence alike m) ≡ presence_of (module_presence files m)
  presences-bare m = ap presence_of (module_presence-bare m)

  pub name_presences-bare : (q : QualifiedName) → presence_of (name_presence alike q) ≡ presence_of (name_presence files q)
  name_presences-bare q = ap presence_of (name_presence-bare q)

  hidden_export-bare : (q : QualifiedName) → hidden_export alike q ≡ hidden_export files q
  hidden_export-bare q = ap (λ b. if b then passed.Submodule else passed.Hidden) (has_module-bare (submodule q))

  name_export-bare : (q : QualifiedName) → name_export alike q ≡ name_export files q
  unfolding name_export
  name_export-bare q = ap₂ (λ b found. if b then found else passed.Open) (is_hidden_name-bare q) (hidden_export-bare q)

  pub exports-bare : (q : QualifiedName) → export_is (name_export alike q) ≡ export_is (name_export files q)
  exports-bare q = ap export_is (name_export-bare q)

  kind_answer-bare : (k : Key) → kind_answer alike k ≡ kind_answer files k
  kind_answer-bare (key.has_module m) = presences-bare m
  kind_answer-bare (key.has_name q) = name_presences-bare q
  kind_answer-bare (key.name q) = ap name_is (name_kind-bare q)
  kind_answer-bare (key.class c) = refl
  kind_answer-bare (key.member c) = refl
  kind_answer-bare (key.export q) = exports-bare q

  pub kinds-bare : kind_answer alike ≡ kind_answer files
  kinds-bare = λ t k. kind_answer-bare k t
