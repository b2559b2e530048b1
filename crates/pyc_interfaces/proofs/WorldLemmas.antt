-- What interfaces answer does not depend on positions.
use Rattle.std.proofs.Common.{◌≡◌, ℕ, Bool, not, ◌&&◌, List, [], ◌∷◌, ◌++◌, map, Option, None, Some, is_some, if◌then◌else◌, bytes_eq, codes, refl, sym, ap, ap₂, ◌∙◌}
use Rattle.std.specs.Prelude.{flat_map, option_map}
use Rattle.pyc_annotations.specs.Annotations.{Annotation, read_type}
use Rattle.pyc_annotations.specs.Bases.{Base, bases}
use Rattle.pyc_ast.specs.declared.parameter.ParameterKind.{ParameterKind}
use Rattle.pyc_ast.specs.declared.parameter.ParameterKind.TheVariants as parameter
use Rattle.pyc_ast.specs.Exprs.{Expr, expr, Argument}
use Rattle.pyc_ast.specs.Exprs as plain
use Rattle.pyc_ast.specs.Statements.{FunctionDefinition, Parameter}
use Rattle.pyc_bindings.specs.Bindings.{Binding, BindingForm, import, import_from, function, class, annotated, assigned, other}
use Rattle.pyc_bindings.specs.Decorators.{has_setter}
use Rattle.pyc_bindings.specs.Redefinitions.{declaration, is_decorated}
use Rattle.pyc_class_ids.specs.declared.builtin_class.BuiltinClass.{BuiltinClass}
use Rattle.pyc_class_ids.specs.Class.{Id, builtin_of, module_of, name_of, user}
use Rattle.pyc_class_ids.specs.Mro.{MroTable}
use Rattle.pyc_class_table.specs.declared.class_entry.WrittenBase.{WrittenBase}
use Rattle.pyc_class_table.specs.ClassMros.{orders_of}
use Rattle.pyc_class_table.specs.Entries.{Entry}
use Rattle.pyc_declarations.specs.ClassEntries.{written_base, written_bases, class_entry, file_entries, class_entries}
use Rattle.pyc_declarations.specs.Declarations.{annotated_type, declared_function, form_answer, found_answer, name_answer, declared_answer}
use Rattle.pyc_declarations.specs.Kinds.{Found, declared_in, answered, found_name, kind_answer, answer_with, variable_kind}
use Rattle.pyc_iface.specs.Answers.{orders_by, answer_by}
use Rattle.pyc_iface.specs.Members.{Declared, class_named, declared_class, class_in_file, declared_of, member_of, variable, result_of_callable, property_kind, method_type, property_type, method_member, form_member, bound_member, plain_type, parameter_type, parameter_named, name_written, value_by_name, value_type, attribute_type, own_answer, declared_in_user, declared_by_kind, assigned_in_user, assigned_by_kind, or_else, first_declared, first_assigned, member_answer}
use Rattle.pyc_interfaces.specs.BareExpressions.{bare, bare_argument, bare_value}
use Rattle.pyc_interfaces.specs.BareInterfaces.{bare_parameter, bare_function, bare_form, bare_binding, bare_attribute_form, bare_attribute, bare_body, bare_declared, bare_interface}
use Rattle.pyc_interfaces.specs.InterfaceLaws.{PositionsChangeNoAnswer, AlikeFilesAnswerAlike}
use Rattle.pyc_interfaces.proofs.HeadLemmas.{find-map, any-map, is_some-map, has_setter-bare, method_kind-bare, is_decorated-bare, declaration-bare, is_bound-bare, initialiser_type-bare, annotation-same, function_type-same, bases-same}
use Rattle.pyc_interfaces.proofs.NameLemmas.{bare_found, file_of-bare, found_name-bare, is_alias-bare, form_kind-bare, presences-bare, name_presences-bare, exports-bare, kinds-bare}
use Rattle.pyc_interfaces.proofs.ReadingLemmas.{SameNames, Came}
use Rattle.pyc_members.specs.Attributes.{AttributeForm, SelfAttribute}
use Rattle.pyc_members.specs.Attributes as attribute
use Rattle.pyc_members.specs.ClassBodies.{ClassBody, OwnMember, is_annotated, first_annotated, annotated_through_self, assigned_through_self, in_body_or_annotated, own_member, is_setter, is_settable}
use Rattle.pyc_members.specs.ClassBodies as own
use Rattle.pyc_members.specs.DeclaredClasses.{DeclaredClass}
use Rattle.pyc_members.specs.declared.method.MethodKind.{MethodKind}
use Rattle.pyc_members.specs.declared.method.MethodKind.TheVariants as method
use Rattle.pyc_members.specs.Methods.{method_kind}
use Rattle.pyc_names.specs.Following.{QualifiedName}
use Rattle.pyc_names.specs.Interfaces.{Interface, file_of, interface_of}
use Rattle.pyc_names.specs.SourceFiles.{SourceFile}
use Rattle.pyc_reading.specs.Answers.{Answer, name_is, order_is, member_is}
use Rattle.pyc_reading.specs.Answers as kind
use Rattle.pyc_reading.specs.declared.answer.MemberKind.TheVariants as member_kind
use Rattle.pyc_reading.specs.Keys.{Key, MemberName}
use Rattle.pyc_reading.specs.Keys as key
use Rattle.pyc_reading.specs.Readings.{result_of}
use Rattle.pyc_signatures.specs.Signatures.{function_type}
use Rattle.pyc_type_exprs.specs.TypeExprs.{type_expr}
use Rattle.pyc_type_forms.specs.Types.{Ty, any, class_object, instance}

-- ---- members of one class

abbrev pub bare_own : OwnMember → OwnMember
bare_own (own.bound b) = own.bound (bare_binding b)
bare_own (own.annotated a) = own.annotated (bare_attribute a)
bare_own (own.assigned a) = own.assigned (bare_attribute a)

is_annotated-bare : (form : AttributeForm) → is_annotated (bare_attribute_form form) ≡ is_annotated form
is_annotated-bare (attribute.annotated found) = refl
is_annotated-bare (attribute.assigned value) = refl
is_annotated-bare attribute.other = refl

first_annotated-bare : (xs : List SelfAttribute) (n : List ℕ) → first_annotated (map bare_attribute xs) n ≡ option_map bare_attribute (first_annotated xs n)
first_annotated-bare xs n =
    find-map (λ (a : SelfAttribute). bytes_eq a.name n && is_annotated a.form) bare_attribute (λ a. ap (λ b. bytes_eq a.name n && b) (is_annotated-bare a.form)) xs

first_assigned-bare : (xs : List SelfAttribute) (n : List ℕ) → own.first_assigned (map bare_attribute xs) n ≡ option_map bare_attribute (own.first_assigned xs n)
first_assigned-bare xs n =
    find-map (λ (a : SelfAttribute). bytes_eq a.name n && not (is_annotated a.form)) bare_attribute (λ a. ap (λ b. bytes_eq a.name n && not b) (is_annotated-bare a.form)) xs

map-annotated : (o : Option SelfAttribute) → option_map own.annotated (option_map bare_attribute o) ≡ option_map bare_own (option_map own.annotated o)
map-annotated (Some a) = refl
map-annotated None = refl

map-assigned : (o : Option SelfAttribute) → option_map own.assigned (option_map bare_attribute o) ≡ option_map bare_own (option_map own.assigned o)
map-assigned (Some a) = refl
map-assigned None = refl

map-bound : (o : Option Binding) → option_map own.bound (option_map bare_binding o) ≡ option_map bare_own (option_map own.bound o)
map-bound (Some b) = refl
map-bound None = refl

own_or-bare : (a b : Option OwnMember) → own.or_else (option_map bare_own a) (option_map bare_own b) ≡ option_map bare_own (own.or_else a b)
own_or-bare (Some x) b = refl
own_or-bare None b = refl

annotated_through-bare : (body : ClassBody) (n : List ℕ) → annotated_through_self (bare_body body) n ≡ option_map bare_own (annotated_through_self body n)
annotated_through-bare body n = ap (option_map own.annotated) (first_annotated-bare body.attributes n) ∙ map-annotated (first_annotated body.attributes n)

pub assigned_through-bare : (body : ClassBody) (n : List ℕ) → assigned_through_self (bare_body body) n ≡ option_map bare_own (assigned_through_self body n)
assigned_through-bare body n = ap (option_map own.assigned) (first_assigned-bare body.attributes n) ∙ map-assigned (own.first_assigned body.attributes n)

pub in_body-bare : (body : ClassBody) (n : List ℕ) → in_body_or_annotated (bare_body body) n ≡ option_map bare_own (in_body_or_annotated body n)
in_body-bare body n =
    ap₂ own.or_else (ap (option_map own.bound) (declaration-bare body.bindings n) ∙ map-bound (declaration body.bindings n)) (annotated_through-bare body n)
    ∙ own_or-bare (option_map own.bound (declaration body.bindings n)) (annotated_through_self body n)

pub own_member-bare : (body : ClassBody) (n : List ℕ) → own_member (bare_body body) n ≡ option_map bare_own (own_member body n)
own_member-bare body n = ap₂ own.or_else (in_body-bare body n) (assigned_through-bare body n) ∙ own_or-bare (in_body_or_annotated body n) (assigned_through_self body n)

is_setter-bare : (form : BindingForm) → is_setter (bare_form form) ≡ is_setter form
is_setter-bare (import path) = refl
is_setter-bare (import_from dots path n) = refl
is_setter-bare (function head) = has_setter-bare head.decorators
is_setter-bare (class head) = refl
is_setter-bare (annotated found) = refl
is_setter-bare (assigned value) = refl
is_setter-bare other = refl

is_settable-bare : (body : ClassBody) (n : List ℕ) → is_settable (bare_body body) n ≡ is_settable body n
is_settable-bare body n = any-map (λ (b : Binding). bytes_eq b.name n && is_setter b.form) bare_binding (λ b. ap (λ s. bytes_eq b.name n && s) (is_setter-bare b.form)) body.bindings

pub same_names : (file : Interface) → SameNames file (bare_interface file)
same_names file = record { name = refl; binds = λ x. sym (is_bound-bare file.bindings x) }

pub name_written-bare : (e : Expr) → name_written (bare_value e) ≡ name_written e
name_written-bare (expr at inside (plain.name x)) = refl
name_written-bare (expr at inside (plain.constant c)) = refl
name_written-bare (expr at inside (plain.string_annotation x)) = refl
name_written-bare (expr at inside (plain.tuple xs)) = refl
name_written-bare (expr at inside (plain.list xs)) = refl
name_written-bare (expr at inside (plain.set xs)) = refl
name_written-bare (expr at inside (plain.dict xs)) = refl
name_written-bare (expr at inside (plain.unchecked o)) = refl
name_written-bare (expr at inside (plain.attribute x n)) = refl
name_written-bare (expr at inside (plain.call x xs)) = refl
name_written-bare (expr at inside (plain.subscript x i)) = refl
name_written-bare (expr at inside (plain.unary o x)) = refl
name_written-bare (expr at inside (plain.binary o x y)) = refl
name_written-bare (expr at inside (plain.boolean o x y)) = refl
name_written-bare (expr at inside (plain.compare x xs)) = refl
name_written-bare (expr at inside (plain.conditional t x y)) = refl
name_written-bare (expr at inside (plain.await x)) = refl
name_written-bare (expr at inside (plain.yield x)) = refl
name_written-bare (expr at inside (plain.yield_from x)) = refl

-- a class where it is declared
abbrev pub bare_at : Declared → Declared
bare_at c = record { id = c.id; file = bare_interface c.file; body = bare_body c.body }

option_map-same : {X Y : Type 0} (f g : X → Y) (h : X → X) → ((x : X) → f (h x) ≡ g x) → (o : Option X) → option_map f (option_map h o) ≡ option_map g o
option_map-same f g h same (Some x) = ap Some (same x)
option_map-same f g h same None = refl

module _ (files : List Interface) where
  abbrev alike : List Interface
  alike = map bare_interface files

  -- ---- types of declarations

  annotated_type-bare : (file : Interface) (e : Expr) → annotated_type alike (bare_interface file) (bare e) ≡ annotated_type files file e
  unfolding annotated_type
  annotated_type-bare file e =
      ap (λ (f : Key → Answer). (result_of f (read_type (bare_interface file) (type_expr (bare e)))).ty) (kinds-bare files)
      ∙ ap (λ (c : Came Annotation). c.result.ty) (sym (annotation-same (kind_answer files) file (bare_interface file) (same_names file) e))

  declared_function-bare : (file : Interface) (receiver : Ty) (head : FunctionDefinition) → declared_function alike (bare_interface file) receiver (bare_function head) ≡ declared_function files file receiver head
  unfolding declared_function
  declared_function-bare file receiver head =
      ap (λ (f : Key → Answer). result_of f (function_type (bare_interface file) receiver (bare_function head))) (kinds-bare files)
      ∙ ap (λ (c : Came Ty). c.result) (sym (function_type-same (kind_answer files) file (bare_interface file) (same_names file) receiver head))

  -- ---- names

  form_answer-bare : (file : Interface) (form : BindingForm) → form_answer alike (bare_interface file) (bare_form form) ≡ form_answer files file form
  form_answer-bare file (function head) = ap (answer_with kind.function_name) (declared_function-bare file any head)
  form_answer-bare file (annotated found) =
      ap₂ (λ b ty. answer_with (variable_kind b) ty) (is_alias-bare files file found.annotation) (annotated_type-bare file found.annotation)
  form_answer-bare file (import path) = form_kind-bare files file (import path)
  form_answer-bare file (import_from dots path n) = form_kind-bare files file (import_from dots path n)
  form_answer-bare file (class head) = form_kind-bare files file (class head)
  form_answer-bare file (assigned value) = form_kind-bare files file (assigned value)
  form_answer-bare file other = form_kind-bare files file other

  found_answer-bare : (x : Found) → found_answer alike (bare_found x) ≡ found_answer files x
  found_answer-bare (declared_in file form) = form_answer-bare file form
  found_answer-bare (answered found) = refl

  name_answer-bare : (q : QualifiedName) → name_answer alike q ≡ name_answer files q
  name_answer-bare q = ap (found_answer alike) (found_name-bare files q) ∙ found_answer-bare (found_name files q)

  declared_answer-bare : (k : Key) → declared_answer alike k ≡ declared_answer files k
  declared_answer-bare (key.has_module m) = presences-bare files m
  declared_answer-bare (key.has_name q) = name_presences-bare files q
  declared_answer-bare (key.name q) = ap name_is (name_answer-bare q)
  declared_answer-bare (key.class c) = refl
  declared_answer-bare (key.member c) = refl
  declared_answer-bare (key.export q) = exports-bare files q

  pub declared-bare : declared_answer alike ≡ declared_answer files
  declared-bare = λ t k. declared_answer-bare k t

  -- ---- classes

  written_bases-bare : (file : Interface) (xs : List Argument) → written_bases alike (bare_interface file) (map bare_argument xs) ≡ written_bases files file xs
  unfolding written_bases
  written_bases-bare file xs =
      ap (λ (f : Key → Answer). map written_base (result_of f (bases (bare_interface file) (map bare_argument xs)))) declared-bare
      ∙ ap (λ (c : Came (List Base)). map written_base c.result) (sym (bases-same (declared_answer files) file (bare_interface file) (same_names file) xs))

  class_entry-bare : (file : Interface) (c : DeclaredClass) → class_entry alike (bare_interface file) (bare_declared c) ≡ class_entry files file c
  class_entry-bare file c =
      let made : List WrittenBase → Bool → Entry = λ bases has_call. record { id = user file.name c.name; bases = bases; has_call = has_call } in
      ap₂ made (written_bases-bare file c.head.arguments)
      (ap is_some (own_member-bare c.body (codes "__call__")) ∙ is_some-map bare_own (own_member c.body (codes "__call__")))

  entries-bare : (file : Interface) (cs : List DeclaredClass) → map (class_entry alike (bare_interface file)) (map bare_declared cs) ≡ map (class_entry files file) cs
  entries-bare file [] = refl
  entries-bare file (c ∷ cs) = ap₂ (λ x xs. x ∷ xs) (class_entry-bare file c) (entries-bare file cs)

  all_entries-bare : (more : List Interface) → flat_map (file_entries alike) (map bare_interface more) ≡ flat_map (file_entries files) more
  all_entries-bare [] = refl
  all_entries-bare (file ∷ more) = ap₂ (λ xs ys. xs ++ ys) (entries-bare file file.classes) (all_entries-bare more)

  class_entries-bare : class_entries alike ≡ class_entries files
  unfolding class_entries
  class_entries-bare = all_entries-bare files

  pub orders-bare : orders_by alike ≡ orders_by files
  unfolding orders_by
  orders-bare = ap orders_of class_entries-bare

  class_named-bare : (cs : List DeclaredClass) (x : List ℕ) → class_named (map bare_declared cs) x ≡ option_map bare_declared (class_named cs x)
  class_named-bare cs x = find-map (λ (c : DeclaredClass). bytes_eq c.name x) bare_declared (λ c. refl) cs

  declared_class-bare : (id : Id) (file : Interface) (o : Option DeclaredClass) → declared_class id (bare_interface file) (option_map bare_declared o) ≡ option_map bare_at (declared_class id file o)
  declared_class-bare id file (Some c) = refl
  declared_class-bare id file None = refl

  class_in_file-bare : (id : Id) (o : Option Interface) → class_in_file id (option_map bare_interface o) ≡ option_map bare_at (class_in_file id o)
  class_in_file-bare id None = refl
  class_in_file-bare id (Some file) =
      ap (declared_class id (bare_interface file)) (class_named-bare file.classes (name_of id)) ∙ declared_class-bare id file (class_named file.classes (name_of id))

  pub declared_of-bare : (id : Id) → declared_of alike id ≡ option_map bare_at (declared_of files id)
  declared_of-bare id = ap (class_in_file id) (file_of-bare files (module_of id)) ∙ class_in_file-bare id (file_of files (module_of id))

  -- ---- members

  method_type-bare : (c : Declared) (head : FunctionDefinition) → method_type alike (bare_at c) (bare_function head) ≡ method_type files c head
  method_type-bare c head = declared_function-bare c.file (instance c.id) head

  property_type-bare : (c : Declared) (head : FunctionDefinition) → property_type alike (bare_at c) (bare_function head) ≡ property_type files c head
  property_type-bare c head =
      ap (λ b. if b then any else result_of_callable (method_type alike (bare_at c) (bare_function head))) (has_setter-bare head.decorators)
      ∙ ap (λ ty. if has_setter head.decorators then any else result_of_callable ty) (method_type-bare c head)

  method_member-bare : (c : Declared) (x : List ℕ) (head : FunctionDefinition) (k : MethodKind) → method_member alike (bare_at c) x (bare_function head) k ≡ method_member files c x head k
  method_member-bare c x head method.Property =
      ap₂ (λ b ty. member_of c (property_kind b) ty) (is_settable-bare c.body x) (property_type-bare c head)
  method_member-bare c x head method.Static = ap (member_of c member_kind.StaticMethod) (declared_function-bare c.file any head)
  method_member-bare c x head method.Class = ap (member_of c member_kind.ClassMethod) (declared_function-bare c.file (class_object c.id) head)
  method_member-bare c x head method.Plain = ap (member_of c member_kind.Method) (method_type-bare c head)

  form_member-bare : (c : Declared) (x : List ℕ) (form : BindingForm) → form_member alike (bare_at c) x (bare_form form) ≡ form_member files c x form
  form_member-bare c x (function head) =
      ap (method_member alike (bare_at c) x (bare_function head)) (method_kind-bare head.decorators) ∙ method_member-bare c x head (method_kind head.decorators)
  form_member-bare c x (annotated found) = ap (variable c) (annotated_type-bare c.file found.annotation)
  form_member-bare c x (assigned value) = ap (variable c) (initialiser_type-bare value)
  form_member-bare c x (import path) = refl
  form_member-bare c x (import_from dots path n) = refl
  form_member-bare c x (class head) = refl
  form_member-bare c x other = refl

  bound_member-bare : (c : Declared) (x : List ℕ) (b : Binding) → bound_member alike (bare_at c) x (bare_binding b) ≡ bound_member files c x b
  bound_member-bare c x b =
      ap (λ d. if d then variable c any else form_member alike (bare_at c) x (bare_form b.form)) (is_decorated-bare b.form)
      ∙ ap (λ m. if is_decorated b.form then variable c any else m) (form_member-bare c x b.form)

  plain_type-bare : (file : Interface) (k : ParameterKind) (o : Option Expr) → plain_type alike (bare_interface file) k (option_map bare o) ≡ plain_type files file k o
  plain_type-bare file parameter.Plain (Some e) = annotated_type-bare file e
  plain_type-bare file parameter.Plain None = refl
  plain_type-bare file parameter.Star (Some e) = refl
  plain_type-bare file parameter.Star None = refl
  plain_type-bare file parameter.KeywordOnly (Some e) = refl
  plain_type-bare file parameter.KeywordOnly None = refl
  plain_type-bare file parameter.DoubleStar (Some e) = refl
  plain_type-bare file parameter.DoubleStar None = refl

  parameter_type-bare : (file : Interface) (o : Option Parameter) → parameter_type alike (bare_interface file) (option_map bare_parameter o) ≡ parameter_type files file o
  parameter_type-bare file (Some p) = plain_type-bare file p.kind p.annotation
  parameter_type-bare file None = refl

  pub parameter_named-bare : (ps : List Parameter) (n : List ℕ) → parameter_named (map bare_parameter ps) n ≡ option_map bare_parameter (parameter_named ps n)
  parameter_named-bare ps n = find-map (λ (p : Parameter). bytes_eq p.name n) bare_parameter (λ p. refl) ps

  value_by_name-bare : (file : Interface) (ps : List Parameter) (e : Expr) (o : Option (List ℕ)) → value_by_name alike (bare_interface file) (map bare_parameter ps) (bare_value e) o ≡ value_by_name files file ps e o
  value_by_name-bare file ps e (Some n) = ap (parameter_type alike (bare_interface file)) (parameter_named-bare ps n) ∙ parameter_type-bare file (parameter_named ps n)
  value_by_name-bare file ps e None = initialiser_type-bare e

  value_type-bare : (file : Interface) (ps : List Parameter) (e : Expr) → value_type alike (bare_interface file) (map bare_parameter ps) (bare_value e) ≡ value_type files file ps e
  value_type-bare file ps e =
      ap (value_by_name alike (bare_interface file) (map bare_parameter ps) (bare_value e)) (name_written-bare e) ∙ value_by_name-bare file ps e (name_written e)

  attribute_type-bare : (file : Interface) (head : FunctionDefinition) (form : AttributeForm) → attribute_type alike (bare_interface file) (bare_function head) (bare_attribute_form form) ≡ attribute_type files file head form
  attribute_type-bare file head (attribute.annotated found) = annotated_type-bare file found.annotation
  attribute_type-bare file head (attribute.assigned value) = value_type-bare file head.parameters value
  attribute_type-bare file head attribute.other = refl

  own_answer-bare : (c : Declared) (x : List ℕ) (m : OwnMember) → own_answer alike (bare_at c) x (bare_own m) ≡ own_answer files c x m
  own_answer-bare c x (own.bound b) = bound_member-bare c x b
  own_answer-bare c x (own.annotated a) = ap (variable c) (attribute_type-bare c.file a.method a.form)
  own_answer-bare c x (own.assigned a) = ap (variable c) (attribute_type-bare c.file a.method a.form)

  declared_in_user-bare : (x : List ℕ) (o : Option Declared) → declared_in_user alike x (option_map bare_at o) ≡ declared_in_user files x o
  declared_in_user-bare x None = refl
  declared_in_user-bare x (Some c) =
      ap (option_map (own_answer alike (bare_at c) x)) (in_body-bare c.body x)
      ∙ option_map-same (own_answer alike (bare_at c) x) (own_answer files c x) bare_own (own_answer-bare c x) (in_body_or_annotated c.body x)

  pub declared_by_kind-bare : (c : Id) (x : List ℕ) (o : Option BuiltinClass) → declared_by_kind alike c x o ≡ declared_by_kind files c x o
  declared_by_kind-bare c x (Some b) = refl
  declared_by_kind-bare c x None = ap (declared_in_user alike x) (declared_of-bare c) ∙ declared_in_user-bare x (declared_of files c)

  assigned_in_user-bare : (x : List ℕ) (o : Option Declared) → assigned_in_user alike x (option_map bare_at o) ≡ assigned_in_user files x o
  assigned_in_user-bare x None = refl
  assigned_in_user-bare x (Some c) =
      ap (option_map (own_answer alike (bare_at c) x)) (assigned_through-bare c.body x)
      ∙ option_map-same (own_answer alike (bare_at c) x) (own_answer files c x) bare_own (own_answer-bare c x) (assigned_through_self c.body x)

  pub assigned_by_kind-bare : (c : Id) (x : List ℕ) (o : Option BuiltinClass) → assigned_by_kind alike c x o ≡ assigned_by_kind files c x o
  assigned_by_kind-bare c x (Some b) = refl
  assigned_by_kind-bare c x None = ap (assigned_in_user alike x) (declared_of-bare c) ∙ assigned_in_user-bare x (declared_of files c)

  pub first_declared-bare : (cs : List Id) (x : List ℕ) → first_declared alike cs x ≡ first_declared files cs x
  first_declared-bare [] x = refl
  first_declared-bare (c ∷ cs) x = ap₂ or_else (declared_by_kind-bare c x (builtin_of c)) (first_declared-bare cs x)

  first_assigned-all : (cs : List Id) (x : List ℕ) → first_assigned alike cs x ≡ first_assigned files cs x
  first_assigned-all [] x = refl
  first_assigned-all (c ∷ cs) x = ap₂ or_else (assigned_by_kind-bare c x (builtin_of c)) (first_assigned-all cs x)

  member_answer-bare : (m : MemberName) → member_answer alike (orders_by alike) m ≡ member_answer files (orders_by files) m
  member_answer-bare m =
      ap (λ (o : MroTable). member_answer alike o m) orders-bare
      ∙ ap₂ or_else (first_declared-bare (orders_by files m.class).classes m.name) (first_assigned-all (orders_by files m.class).classes m.name)

  pub answer_by-bare : (k : Key) → answer_by alike k ≡ answer_by files k
  answer_by-bare (key.has_module m) = declared_answer-bare (key.has_module m)
  answer_by-bare (key.has_name q) = declared_answer-bare (key.has_name q)
  answer_by-bare (key.name q) = declared_answer-bare (key.name q)
  answer_by-bare (key.class c) = ap (λ (o : MroTable). order_is (o c)) orders-bare
  answer_by-bare (key.member m) = ap member_is (member_answer-bare m)
  answer_by-bare (key.export q) = declared_answer-bare (key.export q)

-- positions change no answer
pub positions_change_no_answer : PositionsChangeNoAnswer
positions_change_no_answer interfaces k = answer_by-bare interfaces k

bare-files : (files : List SourceFile) → map bare_interface (map interface_of files) ≡ map (λ file. bare_interface (interface_of file)) files
bare-files [] = refl
bare-files (file ∷ files) = ap (λ l. bare_interface (interface_of file) ∷ l) (bare-files files)

-- files that are alike but for positions answer alike
pub alike_files_answer_alike : AlikeFilesAnswerAlike
alike_files_answer_alike files others same k =
    sym (answer_by-bare (map interface_of files) k)
    ∙ ap (λ interfaces. answer_by interfaces k) (bare-files files ∙ same ∙ sym (bare-files others))
    ∙ answer_by-bare (map interface_of others) k
