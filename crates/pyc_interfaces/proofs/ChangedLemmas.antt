-- Where all differs that is listed between files and later ones, they are alike without positions but for what differs.
use Rattle.std.proofs.Common.{◌≡◌, ◌⊎◌, ℕ, zero, suc, ◌≤◌, ◌<◌, ◌&&◌, ◌||◌, ◌+◌, ◌-◌, ◌==◌, Bool, true, false, not, cond, List, [], ◌∷◌, ◌++◌, map, filter, find, flat_map, take, drop, length, Option, None, Some, is_some, bytes_eq, inl, inr, refl, sym, ap, ap₂, subst, ◌∙◌}
use native.Mathlib.Omega.{arith}
use Rattle.std.proofs.lemmas.Bool.{cases_Bool, cases_eq, and_parts, or_right, eq-eqb, cond-false, true≢false, false≢true}
use Rattle.std.proofs.lemmas.List.{append_assoc, take-append-drop, take-take}
use Rattle.std.proofs.lemmas.List.Folds.{find-append}
use Rattle.std.specs.Option.{option_or}
use Rattle.std.proofs.lemmas.Option.{none-some}
use Rattle.std.proofs.lemmas.Slice.Eq.{bytes_eq-Decides, slice_eq-Decides}
use Rattle.std.specs.Bool.{beq}
use Rattle.std.specs.Cmp.Lexicographic.{pointwise}
use Rattle.std.specs.List.{list_any}
use Rattle.std.specs.Prelude.{IsTrue, option_map}
use Rattle.pyc_bindings.specs.Bindings.{Binding}
use Rattle.pyc_bindings.specs.Redefinitions.{declaration}
use Rattle.pyc_class_ids.specs.declared.order.UnknownMro.{UnknownMro}
use Rattle.pyc_class_ids.specs.declared.order.UnknownMro.TheVariants as reason
use Rattle.pyc_class_ids.specs.Class.{Id, user, same_class}
use Rattle.pyc_class_ids.specs.Mro.{Mro, MroTable}
use Rattle.pyc_class_table.proofs.BuiltinLemmas.{same_class-is}
use Rattle.pyc_iface.proofs.ComparedLemmas.{compared_are_alike}
use Rattle.pyc_iface.specs.Answers.{orders_by}
use Rattle.pyc_iface.specs.CarryLaws.{MemberSeen, if_decided, declared_seen, member_seen}
use Rattle.pyc_iface.specs.ComparedLaws.{EachOf, bound_name, declared_name, NameCompared, PresenceCompared, FaultCompared, FixedCompared, MemberCompared, OrderCompared, ClassCompared, FileCompared, AreCompared}
use Rattle.pyc_iface.specs.Members.{class_named, declared_class, class_in_file}
use Rattle.pyc_interfaces.proofs.ChangesLemmas.{each_of_both, each_in_both, each_of_flat, each_found, each_all, each_so, each_of_two, each_mapped, listed_if, listed_else, unlisted, find_filter, find_filtered, any_filter, alone_shown, changes_shown}
use Rattle.pyc_interfaces.proofs.HeadLemmas.{find-map}
use Rattle.pyc_interfaces.proofs.LookLemmas.{files_carry}
use Rattle.pyc_interfaces.proofs.NameLemmas.{file_of-bare, has_module-bare}
use Rattle.pyc_interfaces.proofs.SameLemmas.{flags_are, bindings_are, attributes_are, interfaces_are}
use Rattle.pyc_interfaces.proofs.WorldLemmas.{orders-bare}
use Rattle.pyc_interfaces.specs.BareInterfaces.{bare_binding, bare_attribute, bare_body, bare_declared, bare_interface}
use Rattle.pyc_interfaces.specs.CarryLaws.{AllDiffer, ChangedLooksAreAll}
use Rattle.pyc_interfaces.specs.ChangedBetween.{end_of, between, HaveInCommon, changes_of, orders_of, modules_between, orders_between, changed_between}
use Rattle.pyc_interfaces.specs.ChangedLooks.{looks_alone, binding_name, attribute_name, binding_changes, attribute_changes, body_looks, body_changes, class_looks, class_changes, unless_named, classes_changes, name_look, name_looks, same_head, name_changes, same_as_module, module_change, file_changes, presence_change, presence_changes, file_looks, found_changes, module_changes, same_reason, same_order, order_change, order_changes}
use Rattle.pyc_interfaces.specs.SameInterfaces.{same_binding, same_attribute, same_interface}
use Rattle.pyc_members.specs.Attributes.{SelfAttribute}
use Rattle.pyc_members.specs.ClassBodies.{ClassBody, OwnMember, is_annotated, first_assigned, is_setter, is_settable, in_body_or_annotated, assigned_through_self}
use Rattle.pyc_members.specs.ClassBodies as own
use Rattle.pyc_members.specs.DeclaredClasses.{DeclaredClass}
use Rattle.pyc_names.proofs.ReachLemmas.{file_is_named}
use Rattle.pyc_names.proofs.ReturnLemmas.{find_passes}
use Rattle.pyc_names.proofs.RingLemmas.{same_module-is, same_module-same}
use Rattle.pyc_names.specs.CarryLaws.{BindingSeen, binding_seen, name_in, name_seen, fault_in}
use Rattle.pyc_names.specs.FixedModules.{fixed_module}
use Rattle.pyc_names.specs.Following.{QualifiedName, has_module}
use Rattle.pyc_names.specs.Interfaces.{Interface, file_of}
use Rattle.pyc_names.specs.LookNumbers.{number_of}
use Rattle.pyc_names.specs.Looks.{Look, of_name, of_module, of_member, of_order}
use Rattle.pyc_names.specs.ModuleName.{same_module}
use Rattle.pyc_names.specs.Presence.{is_root, is_within}

-- ---- lists of bindings and attributes

abbrev named_binding : List ℕ → Binding → Bool
named_binding x b = bytes_eq b.name x

abbrev named_attribute : List ℕ → SelfAttribute → Bool
named_attribute x a = bytes_eq a.name x

-- what has a name, without positions
abbrev bindings_of : List ℕ → List Binding → List Binding
bindings_of x bs = filter (named_binding x) (map bare_binding bs)

abbrev attributes_of : List ℕ → List SelfAttribute → List SelfAttribute
attributes_of x ats = filter (named_attribute x) (map bare_attribute ats)

module _ (differs : Look → Bool) (look : List ℕ → Look) (x : List ℕ) (clear : differs (look x) ≡ false) where
  bindings_same : (bs cs : List Binding) → AllDiffer differs (binding_changes look bs cs) → bindings_of x bs ≡ bindings_of x cs
  bindings_same = changes_shown binding_name same_binding look bare_binding (λ b. refl) bindings_are differs x clear

  bindings_none : (bs : List Binding) → AllDiffer differs (looks_alone binding_name same_binding look bs) → bindings_of x bs ≡ []
  bindings_none = alone_shown binding_name same_binding look bare_binding (λ b. refl) bindings_are differs x clear

  attributes_same : (ats bs : List SelfAttribute) → AllDiffer differs (attribute_changes look ats bs) → attributes_of x ats ≡ attributes_of x bs
  attributes_same = changes_shown attribute_name same_attribute look bare_attribute (λ a. refl) attributes_are differs x clear

  attributes_none : (ats : List SelfAttribute) → AllDiffer differs (looks_alone attribute_name same_attribute look ats) → attributes_of x ats ≡ []
  attributes_none = alone_shown attribute_name same_attribute look bare_attribute (λ a. refl) attributes_are differs x clear

declaration_by : (x : List ℕ) (bs cs : List Binding) → bindings_of x bs ≡ bindings_of x cs → declaration (map bare_binding bs) x ≡ declaration (map bare_binding cs) x
declaration_by x bs cs same =
    find_filtered (named_binding x) (map bare_binding bs) ∙ ap (find (λ (b : Binding). true)) same ∙ sym (find_filtered (named_binding x) (map bare_binding cs))

-- ---- members

-- what is seen of a name of a class with this body
abbrev body_seen : List ℕ → ClassBody → Option MemberSeen
body_seen x body =
    if_decided (record { declared = in_body_or_annotated body x; assigned = assigned_through_self body x; is_settable = is_settable body x })
    (in_body_or_annotated body x) (assigned_through_self body x)

-- by the bindings and attributes of the name alone
abbrev seen_by : List Binding → List SelfAttribute → Option MemberSeen
seen_by bs ats =
    let declared : Option OwnMember = own.or_else (option_map own.bound (find (λ (b : Binding). true) bs)) (option_map own.annotated (find (λ (a : SelfAttribute). is_annotated a.form) ats)) in
    let assigned : Option OwnMember = option_map own.assigned (find (λ (a : SelfAttribute). not (is_annotated a.form)) ats) in
    if_decided (record { declared = declared; assigned = assigned; is_settable = list_any (λ (b : Binding). is_setter b.form) bs }) declared assigned

body_by : (x : List ℕ) (body : ClassBody) → body_seen x (bare_body body) ≡ seen_by (bindings_of x body.bindings) (attributes_of x body.attributes)
body_by x body =
    let bs : List Binding = map bare_binding body.bindings in
    let ats : List SelfAttribute = map bare_attribute body.attributes in
    let made : Option Binding → Option SelfAttribute → Option SelfAttribute → Bool → Option MemberSeen = λ b a s settable.
    if_decided (record { declared = own.or_else (option_map own.bound b) (option_map own.annotated a); assigned = option_map own.assigned s; is_settable = settable })
    (own.or_else (option_map own.bound b) (option_map own.annotated a)) (option_map own.assigned s) in
    ap₂ (λ b a. made b a (first_assigned ats x) (is_settable (bare_body body) x)) (find_filtered (named_binding x) bs) (find_filter (named_attribute x) (λ (a : SelfAttribute). is_annotated a.form) ats)
    ∙ ap₂ (made (find (λ (b : Binding). true) (bindings_of x body.bindings)) (find (λ (a : SelfAttribute). is_annotated a.form) (attributes_of x body.attributes)))
    (find_filter (named_attribute x) (λ (a : SelfAttribute). not (is_annotated a.form)) ats) (any_filter (named_binding x) (λ (b : Binding). is_setter b.form) bs)

-- what is seen of a name of a class, if it is there
abbrev shown_class : List ℕ → Option DeclaredClass → Option MemberSeen
shown_class x None = None
shown_class x (Some c) = body_seen x (bare_body c.body)

class_named-bare : (cs : List DeclaredClass) (n : List ℕ) → class_named (map bare_declared cs) n ≡ option_map bare_declared (class_named cs n)
class_named-bare cs n = find-map (λ (c : DeclaredClass). bytes_eq c.name n) bare_declared (λ c. refl) cs

-- a class that is found has its name
class_is_named : (cs : List DeclaredClass) (n : List ℕ) (c : DeclaredClass) → class_named cs n ≡ Some c → c.name ≡ n
class_is_named cs n c found = (bytes_eq-Decides c.name n).0 (find_passes (λ (c : DeclaredClass). bytes_eq c.name n) cs c found)

module _ (differs : Look → Bool) (m : List (List ℕ)) (n x : List ℕ) (clear : differs (of_member (record { module_path = m; name = n }) x) ≡ false) where
  abbrev named_class : List ℕ → QualifiedName
  named_class n = record { module_path = m; name = n }

  bodies_same : (b d : ClassBody) → AllDiffer differs (body_changes (named_class n) b d) → body_seen x (bare_body b) ≡ body_seen x (bare_body d)
  bodies_same b d all =
      let look : List ℕ → Look = of_member (named_class n) in
      let parts = each_of_both (λ l. differs l ≡ true) (binding_changes look b.bindings d.bindings) (attribute_changes look b.attributes d.attributes) all in
      body_by x b ∙ ap₂ seen_by (bindings_same differs look x clear b.bindings d.bindings parts.0) (attributes_same differs look x clear b.attributes d.attributes parts.1) ∙ sym (body_by x d)

  body_unseen : (b : ClassBody) → AllDiffer differs (body_looks (named_class n) b) → body_seen x (bare_body b) ≡ None
  body_unseen b all =
      let look : List ℕ → Look = of_member (named_class n) in
      let parts = each_of_both (λ l. differs l ≡ true) (looks_alone binding_name same_binding look b.bindings) (looks_alone attribute_name same_attribute look b.attributes) all in
      body_by x b ∙ ap₂ seen_by (bindings_none differs look x clear b.bindings parts.0) (attributes_none differs look x clear b.attributes parts.1)

  class_unseen : (c : DeclaredClass) → c.name ≡ n → AllDiffer differs (class_looks m c) → body_seen x (bare_body c.body) ≡ None
  class_unseen c spelled all = body_unseen c.body (subst (λ (t : List ℕ). AllDiffer differs (body_looks (named_class t) c.body)) spelled all)

  -- a class and the later one of its name
  class_same : (c : DeclaredClass) (o : Option DeclaredClass) → c.name ≡ n → AllDiffer differs (class_changes m c o) → shown_class x (Some c) ≡ shown_class x o
  class_same c None spelled all = class_unseen c spelled all
  class_same c (Some d) spelled all = bodies_same c.body d.body (subst (λ (t : List ℕ). AllDiffer differs (body_changes (named_class t) c.body d.body)) spelled all)

  -- each class of a file is gone
  classes_unseen : (cs : List DeclaredClass) → AllDiffer differs (flat_map (class_looks m) cs) → shown_class x (class_named cs n) ≡ None
  classes_unseen cs all = by (class_named cs n) refl
    where
      by : (o : Option DeclaredClass) → class_named cs n ≡ o → shown_class x o ≡ None
      by None found = refl
      by (Some c) found =
          class_unseen c (class_is_named cs n c found)
          (each_found (λ c. AllDiffer differs (class_looks m c)) (λ (c : DeclaredClass). bytes_eq c.name n) cs c (each_of_flat (λ l. differs l ≡ true) (class_looks m) cs all) found)

  module _ (cs ds : List DeclaredClass) where
    abbrev earlier : DeclaredClass → List Look
    earlier c = class_changes m c (class_named ds c.name)

    abbrev later : DeclaredClass → List Look
    later d = unless_named cs d.name (class_looks m d)

    first_same : AllDiffer differs (flat_map earlier cs) → (c : DeclaredClass) → class_named cs n ≡ Some c → shown_class x (Some c) ≡ shown_class x (class_named ds n)
    first_same all c found =
        let spelled = class_is_named cs n c found in
        class_same c (class_named ds n) spelled
        (subst (λ (t : List ℕ). AllDiffer differs (class_changes m c (class_named ds t))) spelled
        (each_found (λ c. AllDiffer differs (earlier c)) (λ (c : DeclaredClass). bytes_eq c.name n) cs c (each_of_flat (λ l. differs l ≡ true) earlier cs all) found))

    second_unseen : AllDiffer differs (flat_map later ds) → (d : DeclaredClass) → class_named cs n ≡ None → class_named ds n ≡ Some d → shown_class x (Some d) ≡ None
    second_unseen all d none found =
        let spelled = class_is_named ds n d found in
        class_unseen d spelled
        (listed_else differs (is_some (class_named cs d.name)) [] (class_looks m d) (ap (λ (t : List ℕ). is_some (class_named cs t)) spelled ∙ ap is_some none)
        (each_found (λ d. AllDiffer differs (later d)) (λ (d : DeclaredClass). bytes_eq d.name n) ds d (each_of_flat (λ l. differs l ≡ true) later ds all) found))

    classes_same : AllDiffer differs (classes_changes m cs ds) → shown_class x (class_named cs n) ≡ shown_class x (class_named ds n)
    classes_same all = by (each_of_both (λ l. differs l ≡ true) (flat_map earlier cs) (flat_map later ds) all) (class_named cs n) (class_named ds n) refl refl
      where
        by : AllDiffer differs (flat_map earlier cs) × AllDiffer differs (flat_map later ds) → (o p : Option DeclaredClass) → class_named cs n ≡ o → class_named ds n ≡ p
            → shown_class x (class_named cs n) ≡ shown_class x (class_named ds n)
        by both (Some c) p here there = ap (shown_class x) here ∙ first_same both.0 c here
        by both None (Some d) here there = ap (shown_class x) here ∙ sym (second_unseen both.1 d here there) ∙ sym (ap (shown_class x) there)
        by both None None here there = ap (shown_class x) here ∙ sym (ap (shown_class x) there)

-- ---- what is there

-- so many first parts, by their own number
take_again : {X : Type 0} (n : ℕ) (xs : List X) → take (length (take n xs)) xs ≡ take n xs
take_again zero xs = refl
take_again (suc n) [] = refl
take_again (suc n) (x ∷ xs) = ap (λ l. x ∷ l) (take_again n xs)

take_all : {X : Type 0} (xs : List X) → take (length xs) xs ≡ xs
take_all [] = refl
take_all (x ∷ xs) = ap (λ l. x ∷ l) (take_all xs)

-- so many first parts are all, or fewer
take_whole : {X : Type 0} (k : ℕ) (xs : List X) → (take k xs ≡ xs) ⊎ (k < length xs)
take_whole zero [] = inl refl
take_whole zero (x ∷ xs) = inr (omega arith)
take_whole (suc k) [] = inl refl
take_whole (suc k) (x ∷ xs) = elim (take_whole k xs) [
  | inl whole ↦ inl (ap (λ l. x ∷ l) whole)
  | inr fewer ↦ inr (omega arith)
]

-- the first parts of a name that a file has
within : (k : ℕ) (m name : List (List ℕ)) → IsTrue (same_module m name) → is_within (take k m) name ≡ true
within k m name same =
    subst (λ (other : List (List ℕ)). is_within (take k m) other ≡ true) (same_module-is m name same)
    ((slice_eq-Decides bytes_eq-Decides (take k m) (take (length (take k m)) m) (is_within (take k m) m) refl).1 (sym (take_again k m)))

within_found : (some : List Interface) (m : List (List ℕ)) (k : ℕ) (file : Interface) → file_of some m ≡ Some file → list_any (is_within (take k m)) (map (λ file. file.name) some) ≡ true
within_found [] m k file is = absurd (none-some file is)
within_found (other ∷ some) m k file is = elim (cases_Bool (same_module m other.name)) [
  | inl here ↦ ap (λ b. b || list_any (is_within (take k m)) (map (λ file. file.name) some)) (within k m other.name here)
  | inr away ↦
      or_right (is_within (take k m) other.name) (list_any (is_within (take k m)) (map (λ file. file.name) some))
      (within_found some m k file (sym (cond-false (same_module m other.name) (Some other) (file_of some m) away) ∙ is))
]

there_found : (some : List Interface) (m : List (List ℕ)) (k : ℕ) (file : Interface) → file_of some m ≡ Some file → has_module some (take k m) ≡ true
there_found some m k file is =
    or_right (is_root (take k m) || is_some (fixed_module (take k m))) (list_any (is_within (take k m)) (map (λ file. file.name) some)) (within_found some m k file is)

whole_there : (some : List Interface) (m : List (List ℕ)) (file : Interface) → file_of some m ≡ Some file → has_module some m ≡ true
whole_there some m file is = ap (has_module some) (sym (take_all m)) ∙ there_found some m (length m) file is

-- ---- one module

-- what is seen of a name of two files that count alike
binding_seen_same : (t u : Bool) (f g : Interface) (o p : Option Binding) → t ≡ u → f.name ≡ g.name → f.is_package ≡ g.is_package → f.is_stub ≡ g.is_stub → f.has_fault ≡ g.has_fault → o ≡ p
    → binding_seen t f o ≡ binding_seen u g p
binding_seen_same t u f g o p there names packages stubs faults same = ap (binding_seen t f) same ∙ by p
  where
    by : (o : Option Binding) → binding_seen t f o ≡ binding_seen u g o
    by None = refl
    by (Some b) =
        let made : Bool → List (List ℕ) → Bool → Bool → Bool → Option BindingSeen =
        λ is_there home is_package is_stub has_fault.
        Some (record { is_there = is_there; home = home; is_package = is_package; is_stub = is_stub; has_fault = has_fault; binding = b }) in
        ap₂ (λ t n. made t n f.is_package f.is_stub f.has_fault) there names
        ∙ ap₂ (λ k s. made u g.name k s f.has_fault) packages stubs
        ∙ ap (made u g.name g.is_package g.is_stub) faults

module _ (differs : Look → Bool) (files others : List Interface) where
  abbrev firsts : List Interface
  firsts = map bare_interface files

  abbrev seconds : List Interface
  seconds = map bare_interface others

  abbrev Differ : List Look → Type 0
  Differ looks = AllDiffer differs looks

  module _ (m : List (List ℕ)) where
    abbrev named : List ℕ → QualifiedName
    named n = record { module_path = m; name = n }

    -- ---- members

    abbrev shown_in : List ℕ → List ℕ → Option Interface → Option MemberSeen
    shown_in n x None = None
    shown_in n x (Some file) = shown_class x (class_named file.classes n)

    member_by : (some : List Interface) (n x : List ℕ) → member_seen (map bare_interface some) (named n) x ≡ shown_in n x (file_of some m)
    member_by some n x = ap (λ (o : Option Interface). declared_seen x (class_in_file (user m n) o)) (file_of-bare some m) ∙ by (file_of some m)
      where
        in_file : (file : Interface) (o : Option DeclaredClass) → declared_seen x (declared_class (user m n) (bare_interface file) (option_map bare_declared o)) ≡ shown_class x o
        in_file file None = refl
        in_file file (Some c) = refl

        by : (o : Option Interface) → declared_seen x (class_in_file (user m n) (option_map bare_interface o)) ≡ shown_in n x o
        by None = refl
        by (Some file) =
            ap (λ (o : Option DeclaredClass). declared_seen x (declared_class (user m n) (bare_interface file) o)) (class_named-bare file.classes n) ∙ in_file file (class_named file.classes n)

    -- the parts of what is listed of a file on one side, and of two
    lone_parts : (file : Interface) → Differ (file_looks files others m file)
        → Differ (name_looks m file) × Differ (flat_map (class_looks m) file.classes) × (differs (of_module m) ≡ true) × Differ (presence_changes files others m (length m))
    lone_parts file all =
        let a = each_of_both (λ l. differs l ≡ true) (name_looks m file) (flat_map (class_looks m) file.classes ++ (of_module m ∷ presence_changes files others m (length m))) all in
        let b = each_of_both (λ l. differs l ≡ true) (flat_map (class_looks m) file.classes) (of_module m ∷ presence_changes files others m (length m)) a.1 in
        (a.0, b.0, b.1.0, b.1.1)

    both_parts : (file other : Interface) → Differ (file_changes m file other) → Differ (name_changes m file other) × Differ (classes_changes m file.classes other.classes) × Differ (module_change m file other)
    both_parts file other all =
        let a = each_of_both (λ l. differs l ≡ true) (name_changes m file other) (classes_changes m file.classes other.classes ++ module_change m file other) all in
        let b = each_of_both (λ l. differs l ≡ true) (classes_changes m file.classes other.classes) (module_change m file other) a.1 in
        (a.0, b.0, b.1)

    shown_found : (n x : List ℕ) (o p : Option Interface) → differs (of_member (named n) x) ≡ false → Differ (found_changes files others m o p) → shown_in n x o ≡ shown_in n x p
    shown_found n x None None clear all = refl
    shown_found n x (Some file) None clear all = classes_unseen differs m n x clear file.classes (lone_parts file all).1
    shown_found n x None (Some other) clear all = sym (classes_unseen differs m n x clear other.classes (lone_parts other all).1)
    shown_found n x (Some file) (Some other) clear all = classes_same differs m n x clear file.classes other.classes (both_parts file other all).1

    member_compared : Differ (module_changes files others m) → (n x : List ℕ) → MemberCompared differs firsts seconds (named n) x
    member_compared all n x clear = member_by files n x ∙ shown_found n x (file_of files m) (file_of others m) clear all ∙ sym (member_by others n x)

    -- ---- names

    name_by : (some : List Interface) (x : List ℕ) → name_seen (map bare_interface some) (named x) ≡ name_in (has_module some m) x (option_map bare_interface (file_of some m))
    name_by some x = ap₂ (λ (t : Bool) (o : Option Interface). name_in t x o) (has_module-bare some m) (file_of-bare some m)

    unbound : (t : Bool) (x : List ℕ) (file : Interface) → differs (of_name (named x)) ≡ false → Differ (name_looks m file) → name_in t x (Some (bare_interface file)) ≡ None
    unbound t x file clear all =
        ap (binding_seen t (bare_interface file))
        (find_filtered (named_binding x) (map bare_binding file.bindings) ∙ ap (find (λ (b : Binding). true)) (bindings_none differs (name_look m) x clear file.bindings all))

    names_in_both : (x : List ℕ) (file other : Interface) → file_of files m ≡ Some file → file_of others m ≡ Some other → differs (of_name (named x)) ≡ false → Differ (name_changes m file other)
        → name_in (has_module files m) x (Some (bare_interface file)) ≡ name_in (has_module others m) x (Some (bare_interface other))
    names_in_both x file other here there clear all = elim (cases_Bool (same_head file other)) [
      | inl alike ↦
          let a = and_parts (beq file.is_package other.is_package && beq file.is_stub other.is_stub) (beq file.has_fault other.has_fault) alike in
          let b = and_parts (beq file.is_package other.is_package) (beq file.is_stub other.is_stub) a.0 in
          let changed = listed_if differs (same_head file other) (binding_changes (name_look m) file.bindings other.bindings) (name_looks m file ++ name_looks m other) alike all in
          binding_seen_same (has_module files m) (has_module others m) (bare_interface file) (bare_interface other) (declaration (map bare_binding file.bindings) x) (declaration (map bare_binding other.bindings) x)
          (whole_there files m file here ∙ sym (whole_there others m other there)) (file_is_named files m file here ∙ sym (file_is_named others m other there))
          (flags_are file.is_package other.is_package b.0) (flags_are file.is_stub other.is_stub b.1) (flags_are file.has_fault other.has_fault a.1)
          (declaration_by x file.bindings other.bindings (bindings_same differs (name_look m) x clear file.bindings other.bindings changed))
      | inr unlike ↦
          let parts = each_of_both (λ l. differs l ≡ true) (name_looks m file) (name_looks m other)
          (listed_else differs (same_head file other) (binding_changes (name_look m) file.bindings other.bindings) (name_looks m file ++ name_looks m other) unlike all) in
          unbound (has_module files m) x file clear parts.0 ∙ sym (unbound (has_module others m) x other clear parts.1)
    ]

    names_found : (x : List ℕ) (o p : Option Interface) → file_of files m ≡ o → file_of others m ≡ p → differs (of_name (named x)) ≡ false → Differ (found_changes files others m o p)
        → name_in (has_module files m) x (option_map bare_interface o) ≡ name_in (has_module others m) x (option_map bare_interface p)
    names_found x None None here there clear all = refl
    names_found x (Some file) None here there clear all = unbound (has_module files m) x file clear (lone_parts file all).0
    names_found x None (Some other) here there clear all = sym (unbound (has_module others m) x other clear (lone_parts other all).0)
    names_found x (Some file) (Some other) here there clear all = names_in_both x file other here there clear (both_parts file other all).0

    name_compared : Differ (module_changes files others m) → (x : List ℕ) → NameCompared differs firsts seconds (named x)
    name_compared all x clear = name_by files x ∙ names_found x (file_of files m) (file_of others m) refl refl clear all ∙ sym (name_by others x)

    -- ---- the module

    faults_found : (o p : Option Interface) → differs (of_module m) ≡ false → Differ (found_changes files others m o p) → fault_in (option_map bare_interface o) ≡ fault_in (option_map bare_interface p)
    faults_found None None clear all = refl
    faults_found (Some file) None clear all = absurd (true≢false (sym (lone_parts file all).2 ∙ clear))
    faults_found None (Some other) clear all = absurd (true≢false (sym (lone_parts other all).2 ∙ clear))
    faults_found (Some file) (Some other) clear all =
        let same = unlisted differs (same_as_module m file other) (of_module m) clear (both_parts file other all).2 in
        ap Some (flags_are file.has_fault other.has_fault (and_parts (beq file.has_fault other.has_fault) (not (is_some (fixed_module m)) || same_interface file other) same).0)

    fault_compared : Differ (module_changes files others m) → FaultCompared differs firsts seconds m
    fault_compared all clear =
        ap fault_in (file_of-bare files m) ∙ faults_found (file_of files m) (file_of others m) clear all ∙ sym (ap fault_in (file_of-bare others m))

    fixed_found : (o p : Option Interface) → IsTrue (is_some (fixed_module m)) → differs (of_module m) ≡ false → Differ (found_changes files others m o p) → option_map bare_interface o ≡ option_map bare_interface p
    fixed_found None None fixed clear all = refl
    fixed_found (Some file) None fixed clear all = absurd (true≢false (sym (lone_parts file all).2 ∙ clear))
    fixed_found None (Some other) fixed clear all = absurd (true≢false (sym (lone_parts other all).2 ∙ clear))
    fixed_found (Some file) (Some other) fixed clear all =
        let same = unlisted differs (same_as_module m file other) (of_module m) clear (both_parts file other all).2 in
        let whole = (and_parts (beq file.has_fault other.has_fault) (not (is_some (fixed_module m)) || same_interface file other) same).1 in
        ap Some (interfaces_are file other (sym (ap (λ b. not b || same_interface file other) fixed) ∙ whole))

    fixed_compared : Differ (module_changes files others m) → FixedCompared differs firsts seconds m
    fixed_compared all fixed clear = file_of-bare files m ∙ fixed_found (file_of files m) (file_of others m) fixed clear all ∙ sym (file_of-bare others m)

    -- ---- the modules that it lies under

    presence_listed : (k n : ℕ) → k < n → Differ (presence_changes files others m n) → Differ (presence_change files others (take k m))
    presence_listed k zero fewer all = absurd (omega arith)
    presence_listed k (suc n) fewer all =
        let parts = each_of_both (λ l. differs l ≡ true) (presence_changes files others m n) (presence_change files others (take n m)) all in
        elim (cases_eq k n) [
          | inl same ↦ subst (λ (i : ℕ). Differ (presence_change files others (take i m))) (sym same) parts.1
          | inr other ↦ presence_listed k n (omega arith) parts.0
        ]

    lone_presence : (k : ℕ) (file : Interface) → differs (of_module (take k m)) ≡ false → Differ (file_looks files others m file) → has_module files (take k m) ≡ has_module others (take k m)
    lone_presence k file clear all = elim (take_whole k m) [
      | inl whole ↦ absurd (true≢false (sym (lone_parts file all).2 ∙ ap (λ (i : List (List ℕ)). differs (of_module i)) (sym whole) ∙ clear))
      | inr fewer ↦
          flags_are (has_module files (take k m)) (has_module others (take k m))
          (unlisted differs (beq (has_module files (take k m)) (has_module others (take k m))) (of_module (take k m)) clear (presence_listed k (length m) fewer (lone_parts file all).3))
    ]

    presence_found : (k : ℕ) (o p : Option Interface) → file_of files m ≡ o → file_of others m ≡ p → (is_some o || is_some p) ≡ true → differs (of_module (take k m)) ≡ false → Differ (found_changes files others m o p)
        → has_module files (take k m) ≡ has_module others (take k m)
    presence_found k None None here there found clear all = absurd (false≢true found)
    presence_found k (Some file) None here there found clear all = lone_presence k file clear all
    presence_found k None (Some other) here there found clear all = lone_presence k other clear all
    presence_found k (Some file) (Some other) here there found clear all = there_found files m k file here ∙ sym (there_found others m k other there)

    presence_compared : Differ (module_changes files others m) → (is_some (file_of files m) || is_some (file_of others m)) ≡ true → (k : ℕ) → PresenceCompared differs firsts seconds (take k m)
    presence_compared all found k clear =
        has_module-bare files (take k m) ∙ presence_found k (file_of files m) (file_of others m) refl refl found clear all ∙ sym (has_module-bare others (take k m))

-- files that are alike in what they have of one module
record ModuleAlike (differs : Look → Bool) (files others : List Interface) (m : List (List ℕ)) : Type 0 where
  names : (x : List ℕ) → NameCompared differs files others (record { module_path = m; name = x })
  members : (n x : List ℕ) → MemberCompared differs files others (record { module_path = m; name = n }) x
  presence : (k : ℕ) → PresenceCompared differs files others (take k m)
  fault : FaultCompared differs files others m
  fixed : FixedCompared differs files others m

module _ (differs : Look → Bool) (files others : List Interface) (m : List (List ℕ)) where
  abbrev Alike : Type 0
  Alike = ModuleAlike differs (map bare_interface files) (map bare_interface others) m

  abbrev IsFound : Type 0
  IsFound = (is_some (file_of files m) || is_some (file_of others m)) ≡ true

  -- where all differs that is listed of it
  alike_by_changes : IsFound → AllDiffer differs (module_changes files others m) → Alike
  alike_by_changes found all =
      record {
        names = name_compared differs files others m all;
        members = member_compared differs files others m all;
        presence = presence_compared differs files others m all found;
        fault = fault_compared differs files others m all;
        fixed = fixed_compared differs files others m all;
      }

  -- where the file is alike in both
  alike_by_file : IsFound → file_of (map bare_interface files) m ≡ file_of (map bare_interface others) m → Alike
  alike_by_file found same =
      record {
        names = λ x clear. ap₂ (λ (t : Bool) (o : Option Interface). name_in t x o) (ap (has_module (map bare_interface files)) (sym (take_all m)) ∙ there (length m) ∙ ap (has_module (map bare_interface others)) (take_all m)) same;
        members = λ n x clear. ap (λ (o : Option Interface). declared_seen x (class_in_file (user m n) o)) same;
        presence = λ k clear. there k;
        fault = λ clear. ap fault_in same;
        fixed = λ fixed clear. same;
      }
    where
      both_there : (k : ℕ) (o p : Option Interface) → file_of files m ≡ o → file_of others m ≡ p → (is_some o || is_some p) ≡ true → option_map bare_interface o ≡ option_map bare_interface p
          → has_module files (take k m) ≡ has_module others (take k m)
      both_there k None None here away found alike = absurd (false≢true found)
      both_there k (Some file) None here away found alike = absurd (none-some (bare_interface file) (sym alike))
      both_there k None (Some other) here away found alike = absurd (none-some (bare_interface other) alike)
      both_there k (Some file) (Some other) here away found alike = there_found files m k file here ∙ sym (there_found others m k other away)

      there : (k : ℕ) → has_module (map bare_interface files) (take k m) ≡ has_module (map bare_interface others) (take k m)
      there k =
          has_module-bare files (take k m)
          ∙ both_there k (file_of files m) (file_of others m) refl refl found (sym (file_of-bare files m) ∙ same ∙ file_of-bare others m)
          ∙ sym (has_module-bare others (take k m))

-- ---- orders

rows_equal : {X : Type 0} (same : X → X → Bool) → ((x y : X) → same x y ≡ true → x ≡ y) → (xs ys : List X) → pointwise same xs ys ≡ true → xs ≡ ys
rows_equal same are [] [] h = refl
rows_equal same are [] (y ∷ ys) h = absurd (false≢true h)
rows_equal same are (x ∷ xs) [] h = absurd (false≢true h)
rows_equal same are (x ∷ xs) (y ∷ ys) h =
    let parts = and_parts (same x y) (pointwise same xs ys) h in
    ap₂ (λ z zs. z ∷ zs) (are x y parts.0) (rows_equal same are xs ys parts.1)

reasons_are : (r s : Option UnknownMro) → same_reason r s ≡ true → r ≡ s
reasons_are None None same = refl
reasons_are (Some reason.Base) (Some reason.Base) same = refl
reasons_are (Some reason.Cycle) (Some reason.Cycle) same = refl
reasons_are (Some reason.Merge) (Some reason.Merge) same = refl
reasons_are _ _ same = absurd (false≢true same)

pub orders_are : (a b : Mro) → same_order a b ≡ true → a ≡ b
orders_are a b same =
    let made : List Id → Option UnknownMro → Bool → Mro = λ classes unknown has_call. record { classes = classes; unknown = unknown; has_call = has_call } in
    let p = and_parts (pointwise same_class a.classes b.classes) (same_reason a.unknown b.unknown && beq a.has_call b.has_call) same in
    let q = and_parts (same_reason a.unknown b.unknown) (beq a.has_call b.has_call) p.1 in
    ap₂ (λ cs r. made cs r a.has_call) (rows_equal same_class same_class-is a.classes b.classes p.0) (reasons_are a.unknown b.unknown q.0)
    ∙ ap (made b.classes b.unknown) (flags_are a.has_call b.has_call q.1)

-- ---- all files

-- each file of some finds one of its name there
each_is_found : (some : List Interface) → EachOf (λ (file : Interface). is_some (file_of some file.name) ≡ true) some
each_is_found [] = tt
each_is_found (file ∷ some) = (
  ap (λ b. is_some (cond b (Some file) (file_of some file.name))) (same_module-same file.name file.name refl),
  each_so (λ (other : Interface). is_some (file_of some other.name) ≡ true) (λ (other : Interface). is_some (file_of (file ∷ some) other.name) ≡ true)
      (λ other found. by (same_module other.name file.name) (file_of some other.name) found) some (each_is_found some),
)
  where
    by : (b : Bool) (o : Option Interface) → is_some o ≡ true → is_some (cond b (Some file) o) ≡ true
    by true o found = refl
    by false o found = found

mapped_both : {X Y : Type 0} (f : X → Y) (xs ys : List X) → map f (xs ++ ys) ≡ map f xs ++ map f ys
mapped_both f [] ys = refl
mapped_both f (x ∷ xs) ys = ap (λ l. f x ∷ l) (mapped_both f xs ys)

-- a list is what lies at its beginning, between, and at its end
split_at : {X : Type 0} (front back : ℕ) (xs : List X) → front + back ≤ length xs → xs ≡ take front xs ++ (between front back xs ++ end_of back xs)
split_at front back xs fit =
    let k : ℕ = length xs - back in
    sym (take-append-drop k xs)
    ∙ ap (λ l. l ++ drop k xs) (sym (take-append-drop front (take k xs)) ∙ ap (λ l. l ++ drop front (take k xs)) (take-take front k xs (omega arith)))
    ∙ append_assoc (take front xs) (drop front (take k xs)) (drop k xs)

-- without positions
pub bare_split : (front back : ℕ) (some : List Interface) → front + back ≤ length some
    → map bare_interface some ≡ map bare_interface (take front some) ++ (map bare_interface (between front back some) ++ map bare_interface (end_of back some))
bare_split front back some fit =
    ap (map bare_interface) (split_at front back some fit) ∙ mapped_both bare_interface (take front some) (between front back some ++ end_of back some)
    ∙ ap (λ l. map bare_interface (take front some) ++ l) (mapped_both bare_interface (between front back some) (end_of back some))

-- what is found where nothing between is
found_outside : (m : List (List ℕ)) (xs ys zs : List Interface) → file_of ys m ≡ None
    → file_of (map bare_interface (xs ++ (ys ++ zs))) m ≡ option_or (file_of (map bare_interface xs) m) (file_of (map bare_interface zs) m)
found_outside m xs ys zs none =
    ap (λ l. file_of l m) (mapped_both bare_interface xs (ys ++ zs) ∙ ap (λ l. map bare_interface xs ++ l) (mapped_both bare_interface ys zs))
    ∙ find-append (λ (file : Interface). same_module m file.name) (map bare_interface xs) (map bare_interface ys ++ map bare_interface zs)
    ∙ ap (option_or (file_of (map bare_interface xs) m))
    (find-append (λ (file : Interface). same_module m file.name) (map bare_interface ys) (map bare_interface zs)
    ∙ ap (λ o. option_or o (file_of (map bare_interface zs) m)) (file_of-bare ys m ∙ ap (option_map bare_interface) none))

module _ (differs : Look → Bool) (front back : ℕ) (files others : List Interface) (common : HaveInCommon front back files others) where
  abbrev firsts_between : List Interface
  firsts_between = between front back files

  abbrev seconds_between : List Interface
  seconds_between = between front back others

  abbrev Changes : List (List ℕ) → Type 0
  Changes m = AllDiffer differs (module_changes files others m)

  abbrev Orders : List (List ℕ) → List ℕ → Type 0
  Orders m n = OrderCompared differs (map bare_interface files) (map bare_interface others) (record { module_path = m; name = n })

  abbrev Compared : Interface → Type 0
  Compared file = FileCompared differs (map bare_interface files) (map bare_interface others) file

  -- ---- modules

  found_same : (m : List (List ℕ)) → file_of firsts_between m ≡ None → file_of seconds_between m ≡ None → file_of (map bare_interface files) m ≡ file_of (map bare_interface others) m
  found_same m none none_later =
      ap (λ l. file_of (map bare_interface l) m) (split_at front back files common.fit)
      ∙ found_outside m (take front files) firsts_between (end_of back files) none
      ∙ ap₂ (λ (xs zs : List Interface). option_or (file_of xs m) (file_of zs m)) common.first common.last
      ∙ sym (found_outside m (take front others) seconds_between (end_of back others) none_later)
      ∙ sym (ap (λ l. file_of (map bare_interface l) m) (split_at front back others common.fit_others))

  -- what is listed of a file that is found
  changes_found : (some : List Interface) (m : List (List ℕ)) (file : Interface) → EachOf (λ (file : Interface). Changes file.name) some → file_of some m ≡ Some file → Changes m
  changes_found some m file all found =
      subst Changes (file_is_named some m file found) (each_found (λ (file : Interface). Changes file.name) (λ file. same_module m file.name) some file all found)

  modules_alike : EachOf (λ (file : Interface). Changes file.name) firsts_between → EachOf (λ (file : Interface). Changes file.name) seconds_between → (m : List (List ℕ)) → IsFound differs files others m → Alike differs files others m
  modules_alike all more m found = by (file_of firsts_between m) (file_of seconds_between m) refl refl
    where
      by : (o p : Option Interface) → file_of firsts_between m ≡ o → file_of seconds_between m ≡ p → Alike differs files others m
      by (Some file) p here there = alike_by_changes differs files others m found (changes_found firsts_between m file all here)
      by None (Some other) here there = alike_by_changes differs files others m found (changes_found seconds_between m other more there)
      by None None here there = alike_by_file differs files others m found (found_same m here there)

  -- ---- orders

  order_compared : (m : List (List ℕ)) (n : List ℕ) → AllDiffer differs (order_change files others m n) → Orders m n
  order_compared m n all clear =
      ap (λ (o : MroTable). o (user m n)) (orders-bare files)
      ∙ orders_are (orders_by files (user m n)) (orders_by others (user m n))
      (unlisted differs (same_order (orders_by files (user m n)) (orders_by others (user m n))) (of_order (record { module_path = m; name = n })) clear all)
      ∙ sym (ap (λ (o : MroTable). o (user m n)) (orders-bare others))

  each_order : (file : Interface) → AllDiffer differs (order_changes files others file) → EachOf (λ (c : DeclaredClass). Orders file.name c.name) file.classes
  each_order file all =
      each_so (λ (c : DeclaredClass). AllDiffer differs (order_change files others file.name c.name)) (λ (c : DeclaredClass). Orders file.name c.name) (λ c. order_compared file.name c.name) file.classes
      (each_of_flat (λ l. differs l ≡ true) (λ (c : DeclaredClass). order_change files others file.name c.name) file.classes all)

  -- ---- files

  file_compared : (file : Interface) → Alike differs files others file.name → AllDiffer differs (order_changes files others file) → Compared (bare_interface file)
  file_compared file alike orders =
      record {
        names = each_all (λ (b : Binding). NameCompared differs (map bare_interface files) (map bare_interface others) (bound_name (bare_interface file) b)) (λ b. alike.names b.name) (map bare_binding file.bindings);
        modules = alike.presence;
        fault = alike.fault;
        fixed = alike.fixed;
        classes = each_mapped (λ (c : DeclaredClass). ClassCompared differs (map bare_interface files) (map bare_interface others) (declared_name (bare_interface file) c) c) bare_declared file.classes
            (each_so (λ (c : DeclaredClass). Orders file.name c.name) (λ (c : DeclaredClass). ClassCompared differs (map bare_interface files) (map bare_interface others) (declared_name (bare_interface file) (bare_declared c)) (bare_declared c))
            (class_by file.name alike) file.classes (each_order file orders));
      }
    where
      class_by : (m : List (List ℕ)) → Alike differs files others m → (c : DeclaredClass) → Orders m c.name
          → ClassCompared differs (map bare_interface files) (map bare_interface others) (record { module_path = m; name = c.name }) (bare_declared c)
      class_by m alike c order =
          record {
            order = order;
            bindings = each_all (λ (b : Binding). MemberCompared differs (map bare_interface files) (map bare_interface others) (record { module_path = m; name = c.name }) b.name) (λ b. alike.members c.name b.name) (map bare_binding c.body.bindings);
            attributes = each_all (λ (a : SelfAttribute). MemberCompared differs (map bare_interface files) (map bare_interface others) (record { module_path = m; name = c.name }) a.name) (λ a. alike.members c.name a.name) (map bare_attribute c.body.attributes);
          }

  module _ (all : EachOf (λ (file : Interface). Changes file.name) firsts_between) (more : EachOf (λ (file : Interface). Changes file.name) seconds_between)
      (orders : EachOf (λ file. AllDiffer differs (order_changes files others file)) files) (more_orders : EachOf (λ file. AllDiffer differs (order_changes files others file)) seconds_between) where
    first_compared : EachOf Compared (map bare_interface files)
    first_compared =
        each_mapped Compared bare_interface files
        (each_of_two (λ (file : Interface). is_some (file_of files file.name) ≡ true) (λ file. AllDiffer differs (order_changes files others file)) (λ file. Compared (bare_interface file))
        (λ file found listed. file_compared file (modules_alike all more file.name (ap (λ b. b || is_some (file_of others file.name)) found)) listed) files (each_is_found files) orders)

    -- those of the second list that lie between
    between_found : EachOf (λ (other : Interface). is_some (file_of others other.name) ≡ true) seconds_between
    between_found =
        let P : Interface → Type 0 = λ other. is_some (file_of others other.name) ≡ true in
        let split = subst (λ (l : List Interface). EachOf P l) (split_at front back others common.fit_others) (each_is_found others) in
        (each_of_both P seconds_between (end_of back others) (each_of_both P (take front others) (seconds_between ++ end_of back others) split).1).0

    between_compared : EachOf Compared (map bare_interface seconds_between)
    between_compared =
        each_mapped Compared bare_interface seconds_between
        (each_of_two (λ (other : Interface). is_some (file_of others other.name) ≡ true) (λ file. AllDiffer differs (order_changes files others file)) (λ file. Compared (bare_interface file))
        (λ other found listed. file_compared other (modules_alike all more other.name (or_right (is_some (file_of files other.name)) (is_some (file_of others other.name)) found)) listed)
        seconds_between between_found more_orders)

    -- the others stand in the first list too
    second_compared : EachOf Compared (map bare_interface others)
    second_compared =
        let firsts = each_of_both Compared (map bare_interface (take front files)) (map bare_interface firsts_between ++ map bare_interface (end_of back files))
        (subst (EachOf Compared) (bare_split front back files common.fit) first_compared) in
        let ends = each_of_both Compared (map bare_interface firsts_between) (map bare_interface (end_of back files)) firsts.1 in
        subst (EachOf Compared) (sym (bare_split front back others common.fit_others))
        (each_in_both Compared (map bare_interface (take front others)) (map bare_interface seconds_between ++ map bare_interface (end_of back others)) (subst (EachOf Compared) common.first firsts.0)
        (each_in_both Compared (map bare_interface seconds_between) (map bare_interface (end_of back others)) between_compared (subst (EachOf Compared) common.last ends.1)))

  pub changes_compared : AllDiffer differs (changed_between front back files others) → AreCompared differs (map bare_interface files) (map bare_interface others)
  unfolding changed_between
  changes_compared all =
      let both = each_of_both (λ l. differs l ≡ true) (modules_between front back files others) (orders_between front back files others) all in
      let modules = each_of_both (λ l. differs l ≡ true) (changes_of files others firsts_between) (changes_of files others seconds_between) both.0 in
      let orders = each_of_both (λ l. differs l ≡ true) (orders_of files others files) (orders_of files others seconds_between) both.1 in
      let changed : (some : List Interface) → AllDiffer differs (changes_of files others some) → EachOf (λ (file : Interface). Changes file.name) some =
      each_of_flat (λ l. differs l ≡ true) (λ (file : Interface). module_changes files others file.name) in
      let ordered : (some : List Interface) → AllDiffer differs (orders_of files others some) → EachOf (λ file. AllDiffer differs (order_changes files others file)) some =
      each_of_flat (λ l. differs l ≡ true) (order_changes files others) in
      record {
        first = first_compared (changed firsts_between modules.0) (changed seconds_between modules.1) (ordered files orders.0) (ordered seconds_between orders.1);
        second = second_compared (changed firsts_between modules.0) (changed seconds_between modules.1) (ordered files orders.0) (ordered seconds_between orders.1);
      }

-- ---- the law

pub changed_looks_are_all : ChangedLooksAreAll
changed_looks_are_all differs front back files others common all =
    files_carry differs files others
    (compared_are_alike differs (map bare_interface files) (map bare_interface others) (changes_compared differs front back files others common all))

-- looks differ where their numbers are flagged
pub flagged_differ : (flag : ℕ → Bool) (looks : List Look) → ((n : ℕ) → list_any (λ k. k == n) (map number_of looks) ≡ true → flag n ≡ true) → AllDiffer (λ look. flag (number_of look)) looks
flagged_differ flag [] flagged = tt
flagged_differ flag (look ∷ looks) flagged = (
  flagged (number_of look) (ap (λ b. b || list_any (λ k. k == number_of look) (map number_of looks)) (eq-eqb (number_of look) (number_of look) refl)),
  flagged_differ flag looks (λ n any. flagged n (or_right (number_of look == n) (list_any (λ k. k == n) (map number_of looks)) any)),
)
