-- What is looked at for what interfaces answer does not depend on positions.
use Rattle.std.proofs.Common.{◌≡◌, ℕ, zero, suc, Bool, true, false, List, [], ◌∷◌, ◌++◌, map, Option, None, Some, is_some, if◌then◌else◌, refl, sym, ap, ap₂, ◌∙◌}
use Rattle.std.specs.List.{list_any}
use Rattle.std.specs.Prelude.{flat_map, option_map}
use Rattle.pyc_annotations.specs.Annotations.{Annotation, read_type}
use Rattle.pyc_annotations.specs.Bases.{Base, bases}
use Rattle.pyc_ast.specs.declared.parameter.ParameterKind.{ParameterKind}
use Rattle.pyc_ast.specs.declared.parameter.ParameterKind.TheVariants as parameter
use Rattle.pyc_ast.specs.Exprs.{Expr, Argument}
use Rattle.pyc_ast.specs.Statements.{FunctionDefinition, Parameter}
use Rattle.pyc_bindings.specs.Bindings.{Binding, BindingForm, import, import_from, function, class, annotated, assigned, other}
use Rattle.pyc_bindings.specs.Decorators.{has_setter}
use Rattle.pyc_bindings.specs.Redefinitions.{declaration, is_decorated}
use Rattle.pyc_class_ids.specs.declared.builtin_class.BuiltinClass.{BuiltinClass}
use Rattle.pyc_class_ids.specs.Class.{Id, builtin_of}
use Rattle.pyc_class_ids.specs.Mro.{MroTable}
use Rattle.pyc_declarations.specs.Declarations.{declared_answer}
use Rattle.pyc_declarations.specs.Kinds.{Found, declared_in, answered, found_name, is_looked_up, attribute_referent, own_referent, kind_answer}
use Rattle.pyc_declarations.specs.Looks as look
use Rattle.pyc_declarations.specs.Looks.{presence_looks, outside_looks, module_attribute_looks, attribute_looks, attributes_looks, own_name_looks, dotted_looks, alias_type_looks, alias_looks, referent_looks, found_name_looks, form_kind_looks, found_kind_looks, name_kind_looks, kind_looks, annotated_looks, function_looks, form_looks, found_looks, name_looks, declared_looks, fixed_looks, bases_looks, class_looks, entries_looks}
use Rattle.pyc_iface.specs.Answers.{orders_by}
use Rattle.pyc_iface.specs.Looks as member
use Rattle.pyc_iface.specs.Looks.{method_type_looks, property_looks, method_looks, form_member_looks, bound_member_looks, plain_looks, parameter_looks, value_by_name_looks, value_looks, attribute_type_looks, own_looks, deciding_looks, declared_in_user_looks, assigned_in_user_looks, declared_by_kind_looks, assigned_by_kind_looks, unless_found, first_declared_looks, first_assigned_looks, order_looks, member_looks, answer_looks}
use Rattle.pyc_iface.specs.Members.{Declared, declared_of, parameter_named, name_written}
use Rattle.pyc_iface.proofs.CarryLemmas.{answers_carry}
use Rattle.pyc_interfaces.proofs.HeadLemmas.{has_setter-bare, method_kind-bare, is_decorated-bare, declaration-bare, is_bound-bare, annotation-same, function_type-same, bases-same}
use Rattle.pyc_interfaces.proofs.NameLemmas.{bare_found, file_of-bare, import_count-bare, has_module-bare, is_hidden_name-bare, step-bare, follow-bare, found_name-bare, attribute_referent-bare, own_referent-bare, kinds-bare}
use Rattle.pyc_interfaces.proofs.ReadingLemmas.{Came}
use Rattle.pyc_interfaces.proofs.TypeLemmas.{drop_type, type_expr-bare}
use Rattle.pyc_interfaces.proofs.WorldLemmas.{bare_own, in_body-bare, assigned_through-bare, same_names, name_written-bare, bare_at, parameter_named-bare, declared_of-bare, declared_by_kind-bare, assigned_by_kind-bare, first_declared-bare, declared-bare, orders-bare, answer_by-bare}
use Rattle.pyc_interfaces.specs.BareExpressions.{bare, bare_argument, bare_value}
use Rattle.pyc_interfaces.specs.BareInterfaces.{bare_parameter, bare_function, bare_form, bare_binding, bare_attribute_form, bare_declared, bare_interface}
use Rattle.pyc_interfaces.specs.CarryLaws.{PositionsChangeNoLook, PositionsChangeNoEntry, FilesCarryOver}
use Rattle.pyc_members.specs.declared.method.MethodKind.{MethodKind}
use Rattle.pyc_members.specs.declared.method.MethodKind.TheVariants as method
use Rattle.pyc_members.specs.Attributes.{AttributeForm}
use Rattle.pyc_members.specs.Attributes as attribute
use Rattle.pyc_members.specs.ClassBodies.{OwnMember, in_body_or_annotated, assigned_through_self}
use Rattle.pyc_members.specs.ClassBodies as own
use Rattle.pyc_members.specs.DeclaredClasses.{DeclaredClass}
use Rattle.pyc_members.specs.Methods.{method_kind}
use Rattle.pyc_names.specs.declared.fixed.FixedModule.{FixedModule}
use Rattle.pyc_names.specs.FixedModules.{fixed_module}
use Rattle.pyc_names.specs.Following as names
use Rattle.pyc_names.specs.Following.{QualifiedName, Referent, Step, ends, leads, has_module, step, same_name, import_count}
use Rattle.pyc_names.specs.Imports.{named_module}
use Rattle.pyc_names.specs.Interfaces.{Interface, file_of}
use Rattle.pyc_names.specs.Looks as step_look
use Rattle.pyc_names.specs.Looks.{Look, of_name, of_module, looks_by_hidden, seen_looks, own_submodule_looks, to_looks, step_looks, looks_on, walk_looks, follow_looks, looks_on_to, ring_looks, on_ring_looks}
use Rattle.pyc_reading.specs.Answers.{Answer}
use Rattle.pyc_reading.specs.Keys.{Key, MemberName}
use Rattle.pyc_reading.specs.Keys as key
use Rattle.pyc_reading.specs.Readings.{asked}
use Rattle.pyc_signatures.specs.Signatures.{function_type}
use Rattle.pyc_type_exprs.specs.TypeExprs.{TypeExpr, type_expr}
use Rattle.pyc_type_exprs.specs.TypeExprs as written
use Rattle.pyc_type_forms.specs.Types.{Ty, any, class_object, instance}

module _ (files : List Interface) where
  abbrev alike : List Interface
  alike = map bare_interface files

  -- ---- steps

  seen_looks-bare : (q : QualifiedName) → seen_looks alike q ≡ seen_looks files q
  seen_looks-bare q = ap (looks_by_hidden q) (is_hidden_name-bare files q)

  to_step-looks : (q : QualifiedName) (m : Option (List (List ℕ))) (n : List ℕ) → to_looks alike q m n ≡ to_looks files q m n
  to_step-looks q None n = refl
  to_step-looks q (Some m) n =
      let next : QualifiedName = record { module_path = m; name = n } in
      ap (λ (l : List Look). own_submodule_looks q (same_name next q) ++ l) (seen_looks-bare next)

  form_step-looks : (q : QualifiedName) (file : Interface) (form : BindingForm) → step_look.form_looks alike q (bare_interface file) (bare_form form) ≡ step_look.form_looks files q file form
  form_step-looks q file (import path) = refl
  form_step-looks q file (import_from dots path n) = to_step-looks q (named_module file.is_package file.name dots path) n
  form_step-looks q file (function head) = refl
  form_step-looks q file (class head) = refl
  form_step-looks q file (annotated found) = refl
  form_step-looks q file (assigned value) = refl
  form_step-looks q file other = refl

  binding_step-looks : (q : QualifiedName) (file : Interface) (o : Option Binding) → step_look.binding_looks alike q (bare_interface file) (option_map bare_binding o) ≡ step_look.binding_looks files q file o
  binding_step-looks q file (Some b) = form_step-looks q file b.form
  binding_step-looks q file None = refl

  source_step-looks : (q : QualifiedName) (file : Interface) (has_fault : Bool) → step_look.source_looks alike q (bare_interface file) has_fault ≡ step_look.source_looks files q file has_fault
  source_step-looks q file true = refl
  source_step-looks q file false = ap (step_look.binding_looks alike q (bare_interface file)) (declaration-bare file.bindings q.name) ∙ binding_step-looks q file (declaration file.bindings q.name)

  file_step-looks : (q : QualifiedName) (o : Option Interface) → step_look.file_looks alike q (option_map bare_interface o) ≡ step_look.file_looks files q o
  file_step-looks q (Some file) = source_step-looks q file file.has_fault
  file_step-looks q None = refl

  module_step-looks : (q : QualifiedName) (fixed : Option FixedModule) → step_look.module_looks alike q fixed ≡ step_look.module_looks files q fixed
  module_step-looks q (Some fixed) = refl
  module_step-looks q None = ap (step_look.file_looks alike q) (file_of-bare files q.module_path) ∙ file_step-looks q (file_of files q.module_path)

  step_looks-bare : (q : QualifiedName) → step_looks alike q ≡ step_looks files q
  unfolding step_looks
  step_looks-bare q =
      ap (λ b. of_name q ∷ (if b then step_look.module_looks alike q (fixed_module q.module_path) else of_module q.module_path ∷ [])) (has_module-bare files q.module_path)
      ∙ ap (λ l. of_name q ∷ (if has_module files q.module_path then l else of_module q.module_path ∷ [])) (module_step-looks q (fixed_module q.module_path))

  looks_on-same : (f g : QualifiedName → List Look) → ((q : QualifiedName) → f q ≡ g q) → (s : Step) → looks_on f s ≡ looks_on g s
  looks_on-same f g same (ends found) = refl
  looks_on-same f g same (leads next) = same next

  walk_looks-bare : (n : ℕ) (q : QualifiedName) → walk_looks n alike q ≡ walk_looks n files q
  walk_looks-bare zero q = refl
  walk_looks-bare (suc n) q =
      ap₂ (λ (xs ys : List Look). xs ++ ys) (step_looks-bare q)
      (ap (looks_on (walk_looks n alike)) (step-bare files q) ∙ looks_on-same (walk_looks n alike) (walk_looks n files) (walk_looks-bare n) (step files q))

  follow_looks-bare : (q : QualifiedName) → follow_looks alike q ≡ follow_looks files q
  unfolding follow_looks
  follow_looks-bare q = ap (λ n. walk_looks (suc n) alike q) (import_count-bare files) ∙ walk_looks-bare (suc (import_count files)) q

  looks_on_to-same : (f g : QualifiedName → List Look) (to : QualifiedName) → ((q : QualifiedName) → f q ≡ g q) → (s : Step) → looks_on_to f to s ≡ looks_on_to g to s
  looks_on_to-same f g to same (ends found) = refl
  looks_on_to-same f g to same (leads next) = ap (λ l. if same_name next to then [] else l) (same next)

  ring_looks-bare : (n : ℕ) (to q : QualifiedName) → ring_looks n alike to q ≡ ring_looks n files to q
  ring_looks-bare zero to q = refl
  ring_looks-bare (suc n) to q =
      ap₂ (λ (xs ys : List Look). xs ++ ys) (step_looks-bare q)
      (ap (looks_on_to (ring_looks n alike to) to) (step-bare files q) ∙ looks_on_to-same (ring_looks n alike to) (ring_looks n files to) to (ring_looks-bare n to) (step files q))

  on_ring_looks-bare : (q : QualifiedName) → on_ring_looks alike q ≡ on_ring_looks files q
  unfolding on_ring_looks
  on_ring_looks-bare q = ap (λ n. ring_looks (suc n) alike q q) (import_count-bare files) ∙ ring_looks-bare (suc (import_count files)) q q

  -- ---- presence

  binding_looks-bare : (q : QualifiedName) (o : Option Binding) → look.binding_looks alike q (option_map bare_binding o) ≡ look.binding_looks files q o
  binding_looks-bare q (Some b) = on_ring_looks-bare q
  binding_looks-bare q None = refl

  source_looks-bare : (q : QualifiedName) (file : Interface) (has_fault : Bool) → look.source_looks alike q (bare_interface file) has_fault ≡ look.source_looks files q file has_fault
  source_looks-bare q file true = refl
  source_looks-bare q file false = ap (look.binding_looks alike q) (declaration-bare file.bindings q.name) ∙ binding_looks-bare q (declaration file.bindings q.name)

  file_looks-bare : (q : QualifiedName) (o : Option Interface) → look.file_looks alike q (option_map bare_interface o) ≡ look.file_looks files q o
  file_looks-bare q (Some file) = source_looks-bare q file file.has_fault
  file_looks-bare q None = refl

  module_looks-bare : (q : QualifiedName) (fixed : Option FixedModule) → look.module_looks alike q fixed ≡ look.module_looks files q fixed
  module_looks-bare q (Some fixed) = refl
  module_looks-bare q None = ap (look.file_looks alike q) (file_of-bare files q.module_path) ∙ file_looks-bare q (file_of files q.module_path)

  presence_looks-bare : (q : QualifiedName) → presence_looks alike q ≡ presence_looks files q
  unfolding presence_looks
  presence_looks-bare q =
      ap (λ b. of_name q ∷ (if b then look.module_looks alike q (fixed_module q.module_path) else of_module q.module_path ∷ [])) (has_module-bare files q.module_path)
      ∙ ap (λ l. of_name q ∷ (if has_module files q.module_path then l else of_module q.module_path ∷ [])) (module_looks-bare q (fixed_module q.module_path))

  -- ---- aliases

  outside-looks : (q : QualifiedName) → outside_looks alike q ≡ outside_looks files q
  outside-looks q = ap₂ (λ (xs ys : List Look). xs ++ ys) (follow_looks-bare q) (seen_looks-bare q)

  module_attribute-looks : (m : List (List ℕ)) (n : List ℕ) → module_attribute_looks alike m n ≡ module_attribute_looks files m n
  module_attribute-looks m n = ap (λ l. if is_looked_up m n then l else []) (outside-looks (record { module_path = m; name = n }))

  attribute-looks : (r : Referent) (n : List ℕ) → attribute_looks alike r n ≡ attribute_looks files r n
  attribute-looks (names.module_itself m) n = module_attribute-looks m n
  attribute-looks (names.declared r) n = refl
  attribute-looks names.opaque n = refl
  attribute-looks names.fixed_any n = refl
  attribute-looks names.no_module n = refl
  attribute-looks names.no_name n = refl
  attribute-looks names.cycle n = refl

  attributes-looks : (r : Referent) (ns : List (List ℕ)) → attributes_looks alike r ns ≡ attributes_looks files r ns
  attributes-looks r [] = refl
  attributes-looks r (n ∷ ns) =
      ap₂ (λ (xs ys : List Look). xs ++ ys) (attribute-looks r n)
      (ap (λ s. attributes_looks alike s ns) (attribute_referent-bare files r n) ∙ attributes-looks (attribute_referent files r n) ns)

  own_name-looks : (file : Interface) (x : List ℕ) → own_name_looks alike (bare_interface file) x ≡ own_name_looks files file x
  own_name-looks file x =
      let q : QualifiedName = record { module_path = file.name; name = x } in
      ap (λ b. if b then follow_looks alike q else of_name q ∷ []) (is_bound-bare file.bindings x)
      ∙ ap (λ l. if is_some (declaration file.bindings x) then l else of_name q ∷ []) (follow_looks-bare q)

  dotted-looks : (file : Interface) (ns : List (List ℕ)) → dotted_looks alike (bare_interface file) ns ≡ dotted_looks files file ns
  dotted-looks file [] = refl
  dotted-looks file (x ∷ ns) =
      ap₂ (λ (xs ys : List Look). xs ++ ys) (own_name-looks file x)
      (ap (λ r. attributes_looks alike r ns) (own_referent-bare files file x) ∙ attributes-looks (own_referent files file x) ns)

  alias_type-looks : (file : Interface) (t : TypeExpr) → alias_type_looks alike (bare_interface file) (drop_type t) ≡ alias_type_looks files file t
  alias_type-looks file written.none_written = refl
  alias_type-looks file (written.name_written at found) = dotted-looks file found.names
  alias_type-looks file (written.union_written left right) = refl
  alias_type-looks file (written.subscript_written at found is_nested arguments) = refl
  alias_type-looks file (written.wrong_written at) = refl

  alias-looks : (file : Interface) (e : Expr) → alias_looks alike (bare_interface file) (bare e) ≡ alias_looks files file e
  unfolding alias_looks
  alias-looks file e = ap (alias_type_looks alike (bare_interface file)) (type_expr-bare e) ∙ alias_type-looks file (type_expr e)

  -- ---- kinds

  form_kind-looks : (file : Interface) (form : BindingForm) → form_kind_looks alike (bare_interface file) (bare_form form) ≡ form_kind_looks files file form
  form_kind-looks file (import path) = refl
  form_kind-looks file (import_from dots path n) = refl
  form_kind-looks file (function head) = refl
  form_kind-looks file (class head) = refl
  form_kind-looks file (annotated found) = alias-looks file found.annotation
  form_kind-looks file (assigned value) = refl
  form_kind-looks file other = refl

  found_kind-looks : (x : Found) → found_kind_looks alike (bare_found x) ≡ found_kind_looks files x
  found_kind-looks (declared_in file form) = form_kind-looks file form
  found_kind-looks (answered found) = refl

  found_name-looks : (q : QualifiedName) → found_name_looks alike q ≡ found_name_looks files q
  found_name-looks q = ap₂ (λ (xs ys : List Look). xs ++ ys) (follow_looks-bare q) (ap (referent_looks q) (follow-bare files q))

  name_kind-looks : (q : QualifiedName) → name_kind_looks alike q ≡ name_kind_looks files q
  name_kind-looks q =
      ap₂ (λ (xs ys : List Look). xs ++ ys) (found_name-looks q) (ap (found_kind_looks alike) (found_name-bare files q) ∙ found_kind-looks (found_name files q))

  kind_looks-bare : (k : Key) → kind_looks alike k ≡ kind_looks files k
  kind_looks-bare (key.has_module m) = refl
  kind_looks-bare (key.has_name q) = presence_looks-bare q
  kind_looks-bare (key.name q) = name_kind-looks q
  kind_looks-bare (key.class c) = refl
  kind_looks-bare (key.member c) = refl
  kind_looks-bare (key.export q) = seen_looks-bare q

  all_kind_looks : kind_looks alike ≡ kind_looks files
  all_kind_looks = λ t k. kind_looks-bare k t

  -- ---- the types of declarations

  annotated-looks : (file : Interface) (e : Expr) → annotated_looks alike (bare_interface file) (bare e) ≡ annotated_looks files file e
  unfolding annotated_looks
  annotated-looks file e =
      ap (λ (looks : Key → List Look). flat_map looks (asked (kind_answer alike) (read_type (bare_interface file) (type_expr (bare e))))) all_kind_looks
      ∙ ap (λ (f : Key → Answer). flat_map (kind_looks files) (asked f (read_type (bare_interface file) (type_expr (bare e))))) (kinds-bare files)
      ∙ ap (λ (c : Came Annotation). flat_map (kind_looks files) c.keys) (sym (annotation-same (kind_answer files) file (bare_interface file) (same_names file) e))

  function-looks : (file : Interface) (receiver : Ty) (head : FunctionDefinition) → function_looks alike (bare_interface file) receiver (bare_function head) ≡ function_looks files file receiver head
  unfolding function_looks
  function-looks file receiver head =
      ap (λ (looks : Key → List Look). flat_map looks (asked (kind_answer alike) (function_type (bare_interface file) receiver (bare_function head)))) all_kind_looks
      ∙ ap (λ (f : Key → Answer). flat_map (kind_looks files) (asked f (function_type (bare_interface file) receiver (bare_function head)))) (kinds-bare files)
      ∙ ap (λ (c : Came Ty). flat_map (kind_looks files) c.keys) (sym (function_type-same (kind_answer files) file (bare_interface file) (same_names file) receiver head))

  form-looks : (file : Interface) (form : BindingForm) → form_looks alike (bare_interface file) (bare_form form) ≡ form_looks files file form
  form-looks file (function head) = function-looks file any head
  form-looks file (annotated found) = ap₂ (λ (xs ys : List Look). xs ++ ys) (alias-looks file found.annotation) (annotated-looks file found.annotation)
  form-looks file (import path) = refl
  form-looks file (import_from dots path n) = refl
  form-looks file (class head) = refl
  form-looks file (assigned value) = refl
  form-looks file other = refl

  found-looks : (x : Found) → found_looks alike (bare_found x) ≡ found_looks files x
  found-looks (declared_in file form) = form-looks file form
  found-looks (answered found) = refl

  name-looks : (q : QualifiedName) → name_looks alike q ≡ name_looks files q
  name-looks q = ap₂ (λ (xs ys : List Look). xs ++ ys) (found_name-looks q) (ap (found_looks alike) (found_name-bare files q) ∙ found-looks (found_name files q))

  declared-looks : (k : Key) → declared_looks alike k ≡ declared_looks files k
  declared-looks (key.has_module m) = refl
  declared-looks (key.has_name q) = presence_looks-bare q
  declared-looks (key.name q) = name-looks q
  declared-looks (key.class c) = refl
  declared-looks (key.member c) = refl
  declared-looks (key.export q) = seen_looks-bare q

  all_declared_looks : declared_looks alike ≡ declared_looks files
  all_declared_looks = λ t k. declared-looks k t

  -- ---- classes

  bases-looks : (file : Interface) (xs : List Argument) → bases_looks alike (bare_interface file) (map bare_argument xs) ≡ bases_looks files file xs
  unfolding bases_looks
  bases-looks file xs =
      ap (λ (l : List Look). fixed_looks file.name (fixed_module file.name) ++ l)
      (ap (λ (looks : Key → List Look). flat_map looks (asked (declared_answer alike) (bases (bare_interface file) (map bare_argument xs)))) all_declared_looks
      ∙ ap (λ (f : Key → Answer). flat_map (declared_looks files) (asked f (bases (bare_interface file) (map bare_argument xs)))) (declared-bare files)
      ∙ ap (λ (c : Came (List Base)). flat_map (declared_looks files) c.keys) (sym (bases-same (declared_answer files) file (bare_interface file) (same_names file) xs)))

  classes-looks : (file : Interface) (cs : List DeclaredClass) → flat_map (class_looks alike (bare_interface file)) (map bare_declared cs) ≡ flat_map (class_looks files file) cs
  classes-looks file [] = refl
  classes-looks file (c ∷ cs) = ap₂ (λ (xs ys : List Look). xs ++ ys) (bases-looks file c.head.arguments) (classes-looks file cs)

  all_classes-looks : (more : List Interface)
      → flat_map (λ file. flat_map (class_looks alike file) file.classes) (map bare_interface more) ≡ flat_map (λ file. flat_map (class_looks files file) file.classes) more
  all_classes-looks [] = refl
  all_classes-looks (file ∷ more) = ap₂ (λ (xs ys : List Look). xs ++ ys) (classes-looks file file.classes) (all_classes-looks more)

  pub entries_looks-bare : entries_looks alike ≡ entries_looks files
  unfolding entries_looks
  entries_looks-bare = all_classes-looks files

  -- ---- members

  property-looks : (c : Declared) (head : FunctionDefinition) → property_looks alike (bare_at c) (bare_function head) ≡ property_looks files c head
  property-looks c head =
      ap (λ b. if b then [] else method_type_looks alike (bare_at c) (bare_function head)) (has_setter-bare head.decorators)
      ∙ ap (λ l. if has_setter head.decorators then [] else l) (function-looks c.file (instance c.id) head)

  method-looks : (c : Declared) (head : FunctionDefinition) (k : MethodKind) → method_looks alike (bare_at c) (bare_function head) k ≡ method_looks files c head k
  method-looks c head method.Property = property-looks c head
  method-looks c head method.Static = function-looks c.file any head
  method-looks c head method.Class = function-looks c.file (class_object c.id) head
  method-looks c head method.Plain = function-looks c.file (instance c.id) head

  form_member-looks : (c : Declared) (form : BindingForm) → form_member_looks alike (bare_at c) (bare_form form) ≡ form_member_looks files c form
  form_member-looks c (function head) =
      ap (method_looks alike (bare_at c) (bare_function head)) (method_kind-bare head.decorators) ∙ method-looks c head (method_kind head.decorators)
  form_member-looks c (annotated found) = annotated-looks c.file found.annotation
  form_member-looks c (assigned value) = refl
  form_member-looks c (import path) = refl
  form_member-looks c (import_from dots path n) = refl
  form_member-looks c (class head) = refl
  form_member-looks c other = refl

  bound_member-looks : (c : Declared) (b : Binding) → bound_member_looks alike (bare_at c) (bare_binding b) ≡ bound_member_looks files c b
  bound_member-looks c b =
      ap (λ d. if d then [] else form_member_looks alike (bare_at c) (bare_form b.form)) (is_decorated-bare b.form)
      ∙ ap (λ l. if is_decorated b.form then [] else l) (form_member-looks c b.form)

  plain-looks : (file : Interface) (k : ParameterKind) (o : Option Expr) → plain_looks alike (bare_interface file) k (option_map bare o) ≡ plain_looks files file k o
  plain-looks file parameter.Plain (Some e) = annotated-looks file e
  plain-looks file parameter.Plain None = refl
  plain-looks file parameter.Star (Some e) = refl
  plain-looks file parameter.Star None = refl
  plain-looks file parameter.KeywordOnly (Some e) = refl
  plain-looks file parameter.KeywordOnly None = refl
  plain-looks file parameter.DoubleStar (Some e) = refl
  plain-looks file parameter.DoubleStar None = refl

  parameter-looks : (file : Interface) (o : Option Parameter) → parameter_looks alike (bare_interface file) (option_map bare_parameter o) ≡ parameter_looks files file o
  parameter-looks file (Some p) = plain-looks file p.kind p.annotation
  parameter-looks file None = refl

  value_by_name-looks : (file : Interface) (ps : List Parameter) (o : Option (List ℕ)) → value_by_name_looks alike (bare_interface file) (map bare_parameter ps) o ≡ value_by_name_looks files file ps o
  value_by_name-looks file ps (Some n) = ap (parameter_looks alike (bare_interface file)) (parameter_named-bare files ps n) ∙ parameter-looks file (parameter_named ps n)
  value_by_name-looks file ps None = refl

  value-looks : (file : Interface) (ps : List Parameter) (e : Expr) → value_looks alike (bare_interface file) (map bare_parameter ps) (bare_value e) ≡ value_looks files file ps e
  value-looks file ps e = ap (value_by_name_looks alike (bare_interface file) (map bare_parameter ps)) (name_written-bare e) ∙ value_by_name-looks file ps (name_written e)

  attribute_type-looks : (file : Interface) (head : FunctionDefinition) (form : AttributeForm)
      → attribute_type_looks alike (bare_interface file) (bare_function head) (bare_attribute_form form) ≡ attribute_type_looks files file head form
  attribute_type-looks file head (attribute.annotated found) = annotated-looks file found.annotation
  attribute_type-looks file head (attribute.assigned value) = value-looks file head.parameters value
  attribute_type-looks file head attribute.other = refl

  own-looks : (c : Declared) (m : OwnMember) → own_looks alike (bare_at c) (bare_own m) ≡ own_looks files c m
  own-looks c (own.bound b) = bound_member-looks c b
  own-looks c (own.annotated a) = attribute_type-looks c.file a.method a.form
  own-looks c (own.assigned a) = attribute_type-looks c.file a.method a.form

  deciding-looks : (c : Declared) (o : Option OwnMember) → deciding_looks alike (bare_at c) (option_map bare_own o) ≡ deciding_looks files c o
  deciding-looks c (Some m) = own-looks c m
  deciding-looks c None = refl

  declared_in_user-looks : (x : List ℕ) (o : Option Declared) → declared_in_user_looks alike x (option_map bare_at o) ≡ declared_in_user_looks files x o
  declared_in_user-looks x None = refl
  declared_in_user-looks x (Some c) = ap (deciding_looks alike (bare_at c)) (in_body-bare c.body x) ∙ deciding-looks c (in_body_or_annotated c.body x)

  assigned_in_user-looks : (x : List ℕ) (o : Option Declared) → assigned_in_user_looks alike x (option_map bare_at o) ≡ assigned_in_user_looks files x o
  assigned_in_user-looks x None = refl
  assigned_in_user-looks x (Some c) = ap (deciding_looks alike (bare_at c)) (assigned_through-bare c.body x) ∙ deciding-looks c (assigned_through_self c.body x)

  declared_by_kind-looks : (c : Id) (x : List ℕ) (o : Option BuiltinClass) → declared_by_kind_looks alike c x o ≡ declared_by_kind_looks files c x o
  declared_by_kind-looks c x (Some b) = refl
  declared_by_kind-looks c x None =
      ap (λ (l : List Look). member.class_looks c x ++ l) (ap (declared_in_user_looks alike x) (declared_of-bare files c) ∙ declared_in_user-looks x (declared_of files c))

  assigned_by_kind-looks : (c : Id) (x : List ℕ) (o : Option BuiltinClass) → assigned_by_kind_looks alike c x o ≡ assigned_by_kind_looks files c x o
  assigned_by_kind-looks c x (Some b) = refl
  assigned_by_kind-looks c x None =
      ap (λ (l : List Look). member.class_looks c x ++ l) (ap (assigned_in_user_looks alike x) (declared_of-bare files c) ∙ assigned_in_user-looks x (declared_of files c))

  first_declared-looks : (cs : List Id) (x : List ℕ) → first_declared_looks alike cs x ≡ first_declared_looks files cs x
  first_declared-looks [] x = refl
  first_declared-looks (c ∷ cs) x =
      ap₂ (λ (xs ys : List Look). xs ++ ys) (declared_by_kind-looks c x (builtin_of c))
      (ap₂ unless_found (declared_by_kind-bare files c x (builtin_of c)) (first_declared-looks cs x))

  first_assigned-looks : (cs : List Id) (x : List ℕ) → first_assigned_looks alike cs x ≡ first_assigned_looks files cs x
  first_assigned-looks [] x = refl
  first_assigned-looks (c ∷ cs) x =
      ap₂ (λ (xs ys : List Look). xs ++ ys) (assigned_by_kind-looks c x (builtin_of c))
      (ap₂ unless_found (assigned_by_kind-bare files c x (builtin_of c)) (first_assigned-looks cs x))

  member-looks : (m : MemberName) → member_looks alike (orders_by alike) m ≡ member_looks files (orders_by files) m
  member-looks m =
      ap (λ (o : MroTable). member_looks alike o m) (orders-bare files)
      ∙ ap (λ (l : List Look). order_looks m.class ++ l)
      (ap₂ (λ (xs ys : List Look). xs ++ ys) (first_declared-looks (orders_by files m.class).classes m.name)
      (ap₂ unless_found (first_declared-bare files (orders_by files m.class).classes m.name) (first_assigned-looks (orders_by files m.class).classes m.name)))

  pub answer_looks-bare : (k : Key) → answer_looks alike k ≡ answer_looks files k
  answer_looks-bare (key.has_module m) = refl
  answer_looks-bare (key.has_name q) = presence_looks-bare q
  answer_looks-bare (key.name q) = name-looks q
  answer_looks-bare (key.class c) = refl
  answer_looks-bare (key.member m) = member-looks m
  answer_looks-bare (key.export q) = seen_looks-bare q

pub positions_change_no_look : PositionsChangeNoLook
positions_change_no_look interfaces k = answer_looks-bare interfaces k

pub positions_change_no_entry : PositionsChangeNoEntry
positions_change_no_entry interfaces = entries_looks-bare interfaces

pub files_carry : FilesCarryOver
files_carry differs files others alike k clear =
    let one = answers_carry differs (map bare_interface files) (map bare_interface others) alike k (ap (list_any differs) (answer_looks-bare files k) ∙ clear) in (
      sym (answer_by-bare files k) ∙ one.0 ∙ answer_by-bare others k,
      λ t. ap (list_any t) (sym (answer_looks-bare files k)) ∙ one.1 t ∙ ap (list_any t) (answer_looks-bare others k),
    )
