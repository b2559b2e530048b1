-- What files answer, among other files that are the same at all that is looked at.
use Rattle.std.proofs.Common.{◌≡◌, ℕ, Bool, true, false, if◌then◌else◌, List, [], ◌∷◌, ◌++◌, Option, None, Some, refl, sym, ap, ◌∙◌}
use Rattle.std.proofs.lemmas.Bool.{or_parts}
use Rattle.std.proofs.lemmas.Option.{none-some, same_Some}
use Rattle.std.specs.List.{list_any}
use Rattle.std.specs.Prelude.{option_map}
use Rattle.pyc_ast.specs.declared.parameter.ParameterKind.{ParameterKind}
use Rattle.pyc_ast.specs.declared.parameter.ParameterKind.TheVariants as parameter
use Rattle.pyc_ast.specs.Exprs.{Expr}
use Rattle.pyc_ast.specs.Statements.{FunctionDefinition, Parameter}
use Rattle.pyc_bindings.specs.Bindings.{Binding, BindingForm, import, import_from, function, class, annotated, assigned, other}
use Rattle.pyc_bindings.specs.Decorators.{has_setter}
use Rattle.pyc_bindings.specs.Redefinitions.{is_decorated}
use Rattle.pyc_class_ids.specs.Class.{Id, builtin, user, module_of, name_of}
use Rattle.pyc_class_ids.specs.Mro.{Mro}
use Rattle.pyc_class_table.specs.ClassMros.{orders_of}
use Rattle.pyc_declarations.proofs.CarryLemmas.{TwinFiles, same_both, annotated_carries, function_carries, declared_carries}
use Rattle.pyc_declarations.proofs.EntryLemmas.{fixed_clear, entries_carry}
use Rattle.pyc_declarations.specs.Declarations.{annotated_type, declared_function}
use Rattle.pyc_declarations.specs.DeclaredTypes.{initialiser_type}
use Rattle.pyc_declarations.specs.Looks.{function_looks, fixed_looks}
use Rattle.pyc_iface.specs.Answers.{orders_by, answer_by}
use Rattle.pyc_iface.specs.CarryLaws.{MemberSeen, class_seen, if_decided, declared_seen, AreAllAlike, AnswersCarryOver, MrosCarryOver}
use Rattle.pyc_iface.specs.Looks.{class_name, method_type_looks, property_looks, method_looks, form_member_looks, bound_member_looks, plain_looks, parameter_looks, value_by_name_looks, attribute_type_looks, attribute_member_looks, own_looks, deciding_looks, declared_in_user_looks, assigned_in_user_looks, class_looks, declared_in_looks, assigned_in_looks, unless_found, first_declared_looks, first_assigned_looks, order_looks, member_looks, answer_looks}
use Rattle.pyc_iface.specs.Members.{Declared, class_named, declared_class, class_in_file, declared_of, variable, result_of_callable, property_kind, method_type, property_type, method_member, form_member, bound_member, plain_type, parameter_type, parameter_named, name_written, value_by_name, attribute_type, attribute_member, own_answer, declared_in_user, declared_in, assigned_in_user, assigned_in, or_else, first_declared, first_assigned, member_answer}
use Rattle.pyc_members.specs.declared.method.MethodKind.{MethodKind}
use Rattle.pyc_members.specs.declared.method.MethodKind.TheVariants as method
use Rattle.pyc_members.specs.Attributes.{SelfAttribute, AttributeForm}
use Rattle.pyc_members.specs.Attributes as attribute
use Rattle.pyc_members.specs.ClassBodies.{OwnMember, in_body_or_annotated, assigned_through_self, is_settable}
use Rattle.pyc_members.specs.ClassBodies as own
use Rattle.pyc_members.specs.DeclaredClasses.{DeclaredClass}
use Rattle.pyc_members.specs.Methods.{method_kind}
use Rattle.pyc_names.proofs.LookLemmas.{Clear, clear_parts}
use Rattle.pyc_names.proofs.ReachLemmas.{file_is_named}
use Rattle.pyc_names.specs.CarryLaws.{SameLooks}
use Rattle.pyc_names.specs.FixedModules.{fixed_module}
use Rattle.pyc_names.specs.Interfaces.{Interface, file_of}
use Rattle.pyc_names.specs.Looks.{Look, of_member, of_order}
use Rattle.pyc_reading.specs.Answers.{MemberAnswer, order_is, member_is}
use Rattle.pyc_reading.specs.declared.answer.MemberKind.{MemberKind}
use Rattle.pyc_reading.specs.declared.answer.MemberKind.TheVariants as kind
use Rattle.pyc_reading.specs.Keys.{Key, MemberName}
use Rattle.pyc_reading.specs.Keys as key
use Rattle.pyc_type_forms.specs.Types.{Ty, any, class_object, instance}

-- a member of a class, of this kind and type
abbrev made : Id → MemberKind → Ty → MemberAnswer
made c k ty = record { class = c; kind = k; ty = ty }

same_made : (a b : Id) (k l : MemberKind) (s t : Ty) → a ≡ b → k ≡ l → s ≡ t → made a k s ≡ made b l t
same_made a b k l s t class_same kind_same same = ap (λ c. made c k s) class_same ∙ ap (λ k. made b k s) kind_same ∙ ap (made b l) same

-- ---- a class where it is declared

record IsDeclaredIn (files : List Interface) (id : Id) (c : Declared) : Type 0 where
  is_file : file_of files (module_of id) ≡ Some c.file
  is_class : c.id ≡ id

declared_at : (files : List Interface) (id : Id) (c : Declared) → declared_of files id ≡ Some c → IsDeclaredIn files id c
declared_at files id c e = by (file_of files (module_of id)) refl e
  where
    at : (file : Interface) (d : Option DeclaredClass) → file_of files (module_of id) ≡ Some file → declared_class id file d ≡ Some c → IsDeclaredIn files id c
    at file None is e = absurd (none-some c e)
    at file (Some k) is e =
        let same = same_Some _ c e in
        record { is_file = is ∙ ap (λ (c : Declared). Some c.file) same; is_class = sym (ap (λ (c : Declared). c.id) same) }

    by : (o : Option Interface) → file_of files (module_of id) ≡ o → class_in_file id o ≡ Some c → IsDeclaredIn files id c
    by None is e = absurd (none-some c e)
    by (Some file) is e = at file (class_named file.classes (name_of id)) is e

-- what is seen of a name of a class where something decides of it
record IsDecided (x : List ℕ) (o : Option Declared) (seen : MemberSeen) : Type 0 where
  c : Declared
  is_declared : o ≡ Some c
  declares : in_body_or_annotated c.body x ≡ seen.declared
  assigns : assigned_through_self c.body x ≡ seen.assigned
  settable : is_settable c.body x ≡ seen.is_settable

decided : (x : List ℕ) (o : Option Declared) (seen : MemberSeen) → declared_seen x o ≡ Some seen → IsDecided x o seen
decided x None seen e = absurd (none-some seen e)
decided x (Some c) seen e = by (in_body_or_annotated c.body x) (assigned_through_self c.body x) e
  where
    with_same : class_seen x c ≡ seen → IsDecided x (Some c) seen
    with_same same = record { c = c; is_declared = refl; declares = ap (λ (s : MemberSeen). s.declared) same; assigns = ap (λ (s : MemberSeen). s.assigned) same; settable = ap (λ (s : MemberSeen). s.is_settable) same }

    by : (a b : Option OwnMember) → if_decided (class_seen x c) a b ≡ Some seen → IsDecided x (Some c) seen
    by None None e = absurd (none-some seen e)
    by (Some a) b e = with_same (same_Some (class_seen x c) seen e)
    by None (Some b) e = with_same (same_Some (class_seen x c) seen e)

-- and where nothing does
undecided : (x : List ℕ) (c : Declared) → declared_seen x (Some c) ≡ None → (in_body_or_annotated c.body x ≡ None) × (assigned_through_self c.body x ≡ None)
undecided x c e = by (in_body_or_annotated c.body x) (assigned_through_self c.body x) e
  where
    by : (a b : Option OwnMember) → if_decided (class_seen x c) a b ≡ None → (a ≡ None) × (b ≡ None)
    by None None e = (refl, refl)
    by (Some a) b e = absurd (none-some (class_seen x c) (sym e))
    by None (Some b) e = absurd (none-some (class_seen x c) (sym e))

undeclared_looks : (files : List Interface) (x : List ℕ) (o : Option Declared) → declared_seen x o ≡ None → (declared_in_user files x o ≡ None) × (declared_in_user_looks files x o ≡ [])
undeclared_looks files x None e = (refl, refl)
undeclared_looks files x (Some c) e = let none = (undecided x c e).0 in (ap (option_map (own_answer files c x)) none, ap (deciding_looks files c) none)

unassigned_looks : (files : List Interface) (x : List ℕ) (o : Option Declared) → declared_seen x o ≡ None → (assigned_in_user files x o ≡ None) × (assigned_in_user_looks files x o ≡ [])
unassigned_looks files x None e = (refl, refl)
unassigned_looks files x (Some c) e = let none = (undecided x c e).1 in (ap (option_map (own_answer files c x)) none, ap (deciding_looks files c) none)

module _ (differs : Look → Bool) (files others : List Interface) (alike : AreAllAlike differs files others) where
  one_first : (look : Look) (looks : List Look) → Clear differs (look ∷ looks) → differs look ≡ false
  one_first look looks clear = (or_parts (differs look) (list_any differs looks) clear).0

  one_rest : (look : Look) (looks : List Look) → Clear differs (look ∷ looks) → Clear differs looks
  one_rest look looks clear = (or_parts (differs look) (list_any differs looks) clear).1

  module _ (c twin : Declared) (twins : TwinFiles files others c.file twin.file) (same_id : c.id ≡ twin.id) where
    -- ---- methods

    function_at : (receiver more : Ty) → receiver ≡ more → (head : FunctionDefinition) → Clear differs (function_looks files c.file receiver head)
        → (declared_function files c.file receiver head ≡ declared_function others twin.file more head) × SameLooks (function_looks files c.file receiver head) (function_looks others twin.file more head)
    function_at receiver more same head clear =
        let one = function_carries differs files others alike.names c.file twin.file twins receiver head clear in
        (one.0 ∙ ap (λ (r : Ty). declared_function others twin.file r head) same, λ t. one.1 t ∙ ap (λ (r : Ty). list_any t (function_looks others twin.file r head)) same)

    method_type_carries : (head : FunctionDefinition) → Clear differs (method_type_looks files c head)
        → (method_type files c head ≡ method_type others twin head) × SameLooks (method_type_looks files c head) (method_type_looks others twin head)
    method_type_carries head clear = function_at (instance c.id) (instance twin.id) (ap instance same_id) head clear

    property_carries : (head : FunctionDefinition) → Clear differs (property_looks files c head)
        → (property_type files c head ≡ property_type others twin head) × SameLooks (property_looks files c head) (property_looks others twin head)
    property_carries head clear = elim (has_setter head.decorators) as (λ b. Clear differs (if b then [] else method_type_looks files c head)
        → ((if b then any else result_of_callable (method_type files c head)) ≡ (if b then any else result_of_callable (method_type others twin head)))
        × SameLooks (if b then [] else method_type_looks files c head) (if b then [] else method_type_looks others twin head)) [
          | true ↦ λ clear. (refl, λ t. refl)
          | false ↦ λ clear. let one = method_type_carries head clear in (ap result_of_callable one.0, one.1)
        ] clear

    module _ (x : List ℕ) (same_setter : is_settable c.body x ≡ is_settable twin.body x) where
      method_carries : (head : FunctionDefinition) (k : MethodKind) → Clear differs (method_looks files c head k)
          → (method_member files c x head k ≡ method_member others twin x head k) × SameLooks (method_looks files c head k) (method_looks others twin head k)
      method_carries head method.Property clear =
          let one = property_carries head clear in
          (same_made c.id twin.id (property_kind (is_settable c.body x)) (property_kind (is_settable twin.body x)) (property_type files c head) (property_type others twin head) same_id (ap property_kind same_setter) one.0, one.1)
      method_carries head method.Static clear =
          let one = function_at any any refl head clear in
          (same_made c.id twin.id kind.StaticMethod kind.StaticMethod (declared_function files c.file any head) (declared_function others twin.file any head) same_id refl one.0, one.1)
      method_carries head method.Class clear =
          let one = function_at (class_object c.id) (class_object twin.id) (ap class_object same_id) head clear in
          (same_made c.id twin.id kind.ClassMethod kind.ClassMethod (declared_function files c.file (class_object c.id) head) (declared_function others twin.file (class_object twin.id) head) same_id refl one.0, one.1)
      method_carries head method.Plain clear =
          let one = method_type_carries head clear in
          (same_made c.id twin.id kind.Method kind.Method (method_type files c head) (method_type others twin head) same_id refl one.0, one.1)

      -- a variable of both classes
      variable_carries : (s t : Ty) → s ≡ t → variable c s ≡ variable twin t
      variable_carries s t same = same_made c.id twin.id kind.Variable kind.Variable s t same_id refl same

      -- ---- what a class binds

      form_carries : (form : BindingForm) → Clear differs (form_member_looks files c form)
          → (form_member files c x form ≡ form_member others twin x form) × SameLooks (form_member_looks files c form) (form_member_looks others twin form)
      form_carries (function head) clear = method_carries head (method_kind head.decorators) clear
      form_carries (annotated found) clear =
          let one = annotated_carries differs files others alike.names c.file twin.file twins found.annotation clear in
          (variable_carries (annotated_type files c.file found.annotation) (annotated_type others twin.file found.annotation) one.0, one.1)
      form_carries (assigned value) clear = (variable_carries (initialiser_type value) (initialiser_type value) refl, λ t. refl)
      form_carries (import path) clear = (variable_carries any any refl, λ t. refl)
      form_carries (import_from dots path n) clear = (variable_carries any any refl, λ t. refl)
      form_carries (class head) clear = (variable_carries any any refl, λ t. refl)
      form_carries other clear = (variable_carries any any refl, λ t. refl)

      bound_carries : (b : Binding) → Clear differs (bound_member_looks files c b)
          → (bound_member files c x b ≡ bound_member others twin x b) × SameLooks (bound_member_looks files c b) (bound_member_looks others twin b)
      bound_carries b clear = elim (is_decorated b.form) as (λ d. Clear differs (if d then [] else form_member_looks files c b.form)
          → ((if d then variable c any else form_member files c x b.form) ≡ (if d then variable twin any else form_member others twin x b.form))
          × SameLooks (if d then [] else form_member_looks files c b.form) (if d then [] else form_member_looks others twin b.form)) [
            | true ↦ λ clear. (variable_carries any any refl, λ t. refl)
            | false ↦ λ clear. form_carries b.form clear
          ] clear

      -- ---- what a class binds through the instance

      plain_carries : (k : ParameterKind) (o : Option Expr) → Clear differs (plain_looks files c.file k o)
          → (plain_type files c.file k o ≡ plain_type others twin.file k o) × SameLooks (plain_looks files c.file k o) (plain_looks others twin.file k o)
      plain_carries parameter.Plain (Some e) clear = annotated_carries differs files others alike.names c.file twin.file twins e clear
      plain_carries parameter.Plain None clear = (refl, λ t. refl)
      plain_carries parameter.Star (Some e) clear = (refl, λ t. refl)
      plain_carries parameter.Star None clear = (refl, λ t. refl)
      plain_carries parameter.KeywordOnly (Some e) clear = (refl, λ t. refl)
      plain_carries parameter.KeywordOnly None clear = (refl, λ t. refl)
      plain_carries parameter.DoubleStar (Some e) clear = (refl, λ t. refl)
      plain_carries parameter.DoubleStar None clear = (refl, λ t. refl)

      parameter_carries : (o : Option Parameter) → Clear differs (parameter_looks files c.file o)
          → (parameter_type files c.file o ≡ parameter_type others twin.file o) × SameLooks (parameter_looks files c.file o) (parameter_looks others twin.file o)
      parameter_carries (Some p) clear = plain_carries p.kind p.annotation clear
      parameter_carries None clear = (refl, λ t. refl)

      value_by_carries : (ps : List Parameter) (e : Expr) (o : Option (List ℕ)) → Clear differs (value_by_name_looks files c.file ps o)
          → (value_by_name files c.file ps e o ≡ value_by_name others twin.file ps e o) × SameLooks (value_by_name_looks files c.file ps o) (value_by_name_looks others twin.file ps o)
      value_by_carries ps e (Some n) clear = parameter_carries (parameter_named ps n) clear
      value_by_carries ps e None clear = (refl, λ t. refl)

      attribute_type_carries : (head : FunctionDefinition) (form : AttributeForm) → Clear differs (attribute_type_looks files c.file head form)
          → (attribute_type files c.file head form ≡ attribute_type others twin.file head form) × SameLooks (attribute_type_looks files c.file head form) (attribute_type_looks others twin.file head form)
      attribute_type_carries head (attribute.annotated found) clear = annotated_carries differs files others alike.names c.file twin.file twins found.annotation clear
      attribute_type_carries head (attribute.assigned value) clear = value_by_carries head.parameters value (name_written value) clear
      attribute_type_carries head attribute.other clear = (refl, λ t. refl)

      attribute_carries : (a : SelfAttribute) → Clear differs (attribute_member_looks files c a)
          → (attribute_member files c a ≡ attribute_member others twin a) × SameLooks (attribute_member_looks files c a) (attribute_member_looks others twin a)
      attribute_carries a clear =
          let one = attribute_type_carries a.method a.form clear in
          (variable_carries (attribute_type files c.file a.method a.form) (attribute_type others twin.file a.method a.form) one.0, one.1)

      own_carries : (found : OwnMember) → Clear differs (own_looks files c found)
          → (own_answer files c x found ≡ own_answer others twin x found) × SameLooks (own_looks files c found) (own_looks others twin found)
      own_carries (own.bound b) clear = bound_carries b clear
      own_carries (own.annotated a) clear = attribute_carries a clear
      own_carries (own.assigned a) clear = attribute_carries a clear

      deciding_carries : (o : Option OwnMember) → Clear differs (deciding_looks files c o)
          → (option_map (own_answer files c x) o ≡ option_map (own_answer others twin x) o) × SameLooks (deciding_looks files c o) (deciding_looks others twin o)
      deciding_carries (Some found) clear = let one = own_carries found clear in (ap Some one.0, one.1)
      deciding_carries None clear = (refl, λ t. refl)

  -- ---- a class of a source

  module _ (m : List (List ℕ)) (n x : List ℕ) where
    abbrev name_looks : List Look
    name_looks = class_looks (user m n) x

    twin_files : (c twin : Declared) → declared_of files (user m n) ≡ Some c → declared_of others (user m n) ≡ Some twin → Clear differs name_looks → TwinFiles files others c.file twin.file
    twin_files c twin here there clear =
        let one = declared_at files (user m n) c here in
        let two = declared_at others (user m n) twin there in
        record {
          home = m;
          is_file = one.is_file;
          is_twin = two.is_file;
          file_named = file_is_named files m c.file one.is_file;
          twin_named = file_is_named others m twin.file two.is_file;
          is_fixed = λ fixed. same_Some c.file twin.file
              (sym one.is_file
              ∙ alike.fixed m fixed (fixed_clear differs m (fixed_module m) fixed (one_rest (of_member (class_name (user m n)) x) (fixed_looks m (fixed_module m)) clear))
              ∙ two.is_file);
        }

    same_ids : (c twin : Declared) → declared_of files (user m n) ≡ Some c → declared_of others (user m n) ≡ Some twin → c.id ≡ twin.id
    same_ids c twin here there = (declared_at files (user m n) c here).is_class ∙ sym (declared_at others (user m n) twin there).is_class

    seen_same : Clear differs name_looks → declared_seen x (declared_of files (user m n)) ≡ declared_seen x (declared_of others (user m n))
    seen_same clear = alike.members (record { module_path = m; name = n }) x (one_first (of_member (class_name (user m n)) x) (fixed_looks m (fixed_module m)) clear)

    declared_user : Clear differs name_looks → Clear differs (declared_in_user_looks files x (declared_of files (user m n)))
        → (declared_in_user files x (declared_of files (user m n)) ≡ declared_in_user others x (declared_of others (user m n)))
        × SameLooks (declared_in_user_looks files x (declared_of files (user m n))) (declared_in_user_looks others x (declared_of others (user m n)))
    declared_user named clear = by (declared_seen x (declared_of files (user m n))) refl
      where
        by : (o : Option MemberSeen) → declared_seen x (declared_of files (user m n)) ≡ o
            → (declared_in_user files x (declared_of files (user m n)) ≡ declared_in_user others x (declared_of others (user m n)))
            × SameLooks (declared_in_user_looks files x (declared_of files (user m n))) (declared_in_user_looks others x (declared_of others (user m n)))
        by None e =
            let here = undeclared_looks files x (declared_of files (user m n)) e in
            let there = undeclared_looks others x (declared_of others (user m n)) (sym (seen_same named) ∙ e) in
            (here.0 ∙ sym there.0, λ t. ap (list_any t) (here.1 ∙ sym there.1))
        by (Some seen) e =
            let here = decided x (declared_of files (user m n)) seen e in
            let there = decided x (declared_of others (user m n)) seen (sym (seen_same named) ∙ e) in
            let looked : Clear differs (deciding_looks files here.c seen.declared) =
            sym (ap (λ o. list_any differs (declared_in_user_looks files x o)) here.is_declared ∙ ap (λ o. list_any differs (deciding_looks files here.c o)) here.declares) ∙ clear in
            let one = deciding_carries here.c there.c (twin_files here.c there.c here.is_declared there.is_declared named) (same_ids here.c there.c here.is_declared there.is_declared) x
            (here.settable ∙ sym there.settable) seen.declared looked in (
              ap (declared_in_user files x) here.is_declared ∙ ap (option_map (own_answer files here.c x)) here.declares ∙ one.0
                  ∙ ap (option_map (own_answer others there.c x)) (sym there.declares) ∙ ap (declared_in_user others x) (sym there.is_declared),
              λ t. ap (λ o. list_any t (declared_in_user_looks files x o)) here.is_declared ∙ ap (λ o. list_any t (deciding_looks files here.c o)) here.declares ∙ one.1 t
                  ∙ ap (λ o. list_any t (deciding_looks others there.c o)) (sym there.declares) ∙ ap (λ o. list_any t (declared_in_user_looks others x o)) (sym there.is_declared),
            )

    assigned_user : Clear differs name_looks → Clear differs (assigned_in_user_looks files x (declared_of files (user m n)))
        → (assigned_in_user files x (declared_of files (user m n)) ≡ assigned_in_user others x (declared_of others (user m n)))
        × SameLooks (assigned_in_user_looks files x (declared_of files (user m n))) (assigned_in_user_looks others x (declared_of others (user m n)))
    assigned_user named clear = by (declared_seen x (declared_of files (user m n))) refl
      where
        by : (o : Option MemberSeen) → declared_seen x (declared_of files (user m n)) ≡ o
            → (assigned_in_user files x (declared_of files (user m n)) ≡ assigned_in_user others x (declared_of others (user m n)))
            × SameLooks (assigned_in_user_looks files x (declared_of files (user m n))) (assigned_in_user_looks others x (declared_of others (user m n)))
        by None e =
            let here = unassigned_looks files x (declared_of files (user m n)) e in
            let there = unassigned_looks others x (declared_of others (user m n)) (sym (seen_same named) ∙ e) in
            (here.0 ∙ sym there.0, λ t. ap (list_any t) (here.1 ∙ sym there.1))
        by (Some seen) e =
            let here = decided x (declared_of files (user m n)) seen e in
            let there = decided x (declared_of others (user m n)) seen (sym (seen_same named) ∙ e) in
            let looked : Clear differs (deciding_looks files here.c seen.assigned) =
            sym (ap (λ o. list_any differs (assigned_in_user_looks files x o)) here.is_declared ∙ ap (λ o. list_any differs (deciding_looks files here.c o)) here.assigns) ∙ clear in
            let one = deciding_carries here.c there.c (twin_files here.c there.c here.is_declared there.is_declared named) (same_ids here.c there.c here.is_declared there.is_declared) x
            (here.settable ∙ sym there.settable) seen.assigned looked in (
              ap (assigned_in_user files x) here.is_declared ∙ ap (option_map (own_answer files here.c x)) here.assigns ∙ one.0
                  ∙ ap (option_map (own_answer others there.c x)) (sym there.assigns) ∙ ap (assigned_in_user others x) (sym there.is_declared),
              λ t. ap (λ o. list_any t (assigned_in_user_looks files x o)) here.is_declared ∙ ap (λ o. list_any t (deciding_looks files here.c o)) here.assigns ∙ one.1 t
                  ∙ ap (λ o. list_any t (deciding_looks others there.c o)) (sym there.assigns) ∙ ap (λ o. list_any t (assigned_in_user_looks others x o)) (sym there.is_declared),
            )

  declared_in_carries : (c : Id) (x : List ℕ) → Clear differs (declared_in_looks files c x) → (declared_in files c x ≡ declared_in others c x) × SameLooks (declared_in_looks files c x) (declared_in_looks others c x)
  declared_in_carries (builtin b) x clear = (refl, λ t. refl)
  declared_in_carries (user m n) x clear =
      let parts = clear_parts differs (class_looks (user m n) x) (declared_in_user_looks files x (declared_of files (user m n))) clear in
      let one = declared_user m n x parts.0 parts.1 in
      (one.0, same_both (class_looks (user m n) x) (class_looks (user m n) x) (declared_in_user_looks files x (declared_of files (user m n))) (declared_in_user_looks others x (declared_of others (user m n))) (λ t. refl) one.1)

  assigned_in_carries : (c : Id) (x : List ℕ) → Clear differs (assigned_in_looks files c x) → (assigned_in files c x ≡ assigned_in others c x) × SameLooks (assigned_in_looks files c x) (assigned_in_looks others c x)
  assigned_in_carries (builtin b) x clear = (refl, λ t. refl)
  assigned_in_carries (user m n) x clear =
      let parts = clear_parts differs (class_looks (user m n) x) (assigned_in_user_looks files x (declared_of files (user m n))) clear in
      let one = assigned_user m n x parts.0 parts.1 in
      (one.0, same_both (class_looks (user m n) x) (class_looks (user m n) x) (assigned_in_user_looks files x (declared_of files (user m n))) (assigned_in_user_looks others x (declared_of others (user m n))) (λ t. refl) one.1)

  -- ---- along an order

  -- what is found first, or what is found later, which is looked at where nothing is found
  later_carries : (o p : Option MemberAnswer) → o ≡ p → (r s : Option MemberAnswer) (looks more : List Look) → (Clear differs looks → (r ≡ s) × SameLooks looks more) → Clear differs (unless_found o looks)
      → (or_else o r ≡ or_else p s) × SameLooks (unless_found o looks) (unless_found p more)
  later_carries o p same r s looks more later clear =
      let one = by o clear in
      (one.0 ∙ ap (λ (q : Option MemberAnswer). or_else q s) same, λ t. one.1 t ∙ ap (λ (q : Option MemberAnswer). list_any t (unless_found q more)) same)
    where
      by : (q : Option MemberAnswer) → Clear differs (unless_found q looks) → (or_else q r ≡ or_else q s) × SameLooks (unless_found q looks) (unless_found q more)
      by (Some found) clear = (refl, λ t. refl)
      by None clear = later clear

  first_declared_carries : (cs : List Id) (x : List ℕ) → Clear differs (first_declared_looks files cs x)
      → (first_declared files cs x ≡ first_declared others cs x) × SameLooks (first_declared_looks files cs x) (first_declared_looks others cs x)
  first_declared_carries [] x clear = (refl, λ t. refl)
  first_declared_carries (c ∷ cs) x clear =
      let parts = clear_parts differs (declared_in_looks files c x) (unless_found (declared_in files c x) (first_declared_looks files cs x)) clear in
      let one = declared_in_carries c x parts.0 in
      let two = later_carries (declared_in files c x) (declared_in others c x) one.0 (first_declared files cs x) (first_declared others cs x) (first_declared_looks files cs x) (first_declared_looks others cs x)
      (λ clear. first_declared_carries cs x clear) parts.1 in
      (two.0, same_both (declared_in_looks files c x) (declared_in_looks others c x) (unless_found (declared_in files c x) (first_declared_looks files cs x)) (unless_found (declared_in others c x) (first_declared_looks others cs x)) one.1 two.1)

  first_assigned_carries : (cs : List Id) (x : List ℕ) → Clear differs (first_assigned_looks files cs x)
      → (first_assigned files cs x ≡ first_assigned others cs x) × SameLooks (first_assigned_looks files cs x) (first_assigned_looks others cs x)
  first_assigned_carries [] x clear = (refl, λ t. refl)
  first_assigned_carries (c ∷ cs) x clear =
      let parts = clear_parts differs (assigned_in_looks files c x) (unless_found (assigned_in files c x) (first_assigned_looks files cs x)) clear in
      let one = assigned_in_carries c x parts.0 in
      let two = later_carries (assigned_in files c x) (assigned_in others c x) one.0 (first_assigned files cs x) (first_assigned others cs x) (first_assigned_looks files cs x) (first_assigned_looks others cs x)
      (λ clear. first_assigned_carries cs x clear) parts.1 in
      (two.0, same_both (assigned_in_looks files c x) (assigned_in_looks others c x) (unless_found (assigned_in files c x) (first_assigned_looks files cs x)) (unless_found (assigned_in others c x) (first_assigned_looks others cs x)) one.1 two.1)

  order_carries : (c : Id) → Clear differs (order_looks c) → orders_by files c ≡ orders_by others c
  unfolding orders_by
  order_carries (builtin b) clear = refl
  order_carries (user m n) clear = alike.orders (record { module_path = m; name = n }) (one_first (of_order (record { module_path = m; name = n })) [] clear)

  -- what is found along some classes, and what is looked at for that
  abbrev found_along : List Interface → List Id → List ℕ → Option MemberAnswer
  found_along some cs x = or_else (first_declared some cs x) (first_assigned some cs x)

  abbrev looked_along : List Interface → List Id → List ℕ → List Look
  looked_along some cs x = first_declared_looks some cs x ++ unless_found (first_declared some cs x) (first_assigned_looks some cs x)

  along_carries : (cs : List Id) (x : List ℕ) → Clear differs (looked_along files cs x) → (found_along files cs x ≡ found_along others cs x) × SameLooks (looked_along files cs x) (looked_along others cs x)
  along_carries cs x clear =
      let parts = clear_parts differs (first_declared_looks files cs x) (unless_found (first_declared files cs x) (first_assigned_looks files cs x)) clear in
      let one = first_declared_carries cs x parts.0 in
      let two = later_carries (first_declared files cs x) (first_declared others cs x) one.0 (first_assigned files cs x) (first_assigned others cs x) (first_assigned_looks files cs x) (first_assigned_looks others cs x)
      (λ clear. first_assigned_carries cs x clear) parts.1 in
      (two.0, same_both (first_declared_looks files cs x) (first_declared_looks others cs x) (unless_found (first_declared files cs x) (first_assigned_looks files cs x)) (unless_found (first_declared others cs x) (first_assigned_looks others cs x)) one.1 two.1)

  member_carries : (name : MemberName) → Clear differs (member_looks files (orders_by files) name)
      → (member_answer files (orders_by files) name ≡ member_answer others (orders_by others) name) × SameLooks (member_looks files (orders_by files) name) (member_looks others (orders_by others) name)
  member_carries name clear =
      let parts = clear_parts differs (order_looks name.class) (looked_along files (orders_by files name.class).classes name.name) clear in
      let order = order_carries name.class parts.0 in
      let one = along_carries (orders_by files name.class).classes name.name parts.1 in (
        one.0 ∙ ap (λ (o : Mro). found_along others o.classes name.name) order,
        same_both (order_looks name.class) (order_looks name.class) (looked_along files (orders_by files name.class).classes name.name) (looked_along others (orders_by others name.class).classes name.name)
            (λ t. refl) (λ t. one.1 t ∙ ap (λ (o : Mro). list_any t (looked_along others o.classes name.name)) order),
      )

  answer_carries : (k : Key) → Clear differs (answer_looks files k) → (answer_by files k ≡ answer_by others k) × SameLooks (answer_looks files k) (answer_looks others k)
  answer_carries (key.has_module m) clear = declared_carries differs files others alike.names (key.has_module m) clear
  answer_carries (key.has_name q) clear = declared_carries differs files others alike.names (key.has_name q) clear
  answer_carries (key.name q) clear = declared_carries differs files others alike.names (key.name q) clear
  answer_carries (key.export q) clear = declared_carries differs files others alike.names (key.export q) clear
  answer_carries (key.class c) clear = (ap order_is (order_carries c clear), λ t. refl)
  answer_carries (key.member name) clear = let one = member_carries name clear in (ap member_is one.0, one.1)

-- answers carry over
pub answers_carry : AnswersCarryOver
answers_carry differs files others alike k clear = answer_carries differs files others alike k clear

-- orders carry over
pub orders_carry : MrosCarryOver
unfolding orders_by
orders_carry differs files others alike fixed own own_others heads clear =
    let one = entries_carry differs files others alike fixed own own_others heads clear in (ap orders_of one.0, one.1)
