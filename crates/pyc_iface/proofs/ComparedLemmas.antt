-- Files that were compared are alike.
use Rattle.std.proofs.Common.{◌≡◌, ℕ, zero, suc, ◌+◌, ◌||◌, ◌&&◌, ◌⊎◌, Bool, true, false, not, List, [], ◌∷◌, map, take, length, Option, None, Some, is_some, IsTrue, find, bytes_eq, inl, inr, refl, sym, ap, ap₂, subst, ◌∙◌}
use Rattle.std.proofs.lemmas.Bool.{cases_Bool, and_parts, or_cases, or_right, cond-true, cond-false, false≢true}
use Rattle.std.proofs.lemmas.List.Folds.{list_any-append}
use Rattle.std.proofs.lemmas.Option.{none-some, same_Some}
use Rattle.std.proofs.lemmas.Slice.Eq.{slice_eq-Decides, bytes_eq-Decides}
use Rattle.std.specs.List.{list_any, position_from}
use Rattle.std.specs.Prelude.{option_map, flat_map}
use Rattle.pyc_bindings.specs.Bindings.{Binding}
use Rattle.pyc_bindings.specs.Redefinitions.{declaration}
use Rattle.pyc_class_ids.specs.Class.{user, same_class}
use Rattle.pyc_class_table.specs.ClassMros.{undeclared, order_at, orders_of}
use Rattle.pyc_class_table.specs.Entries.{Entry, builtin_classes, builtin_entry, with_object, all_entries}
use Rattle.pyc_class_table.specs.Numbers.{number_in}
use Rattle.pyc_declarations.specs.ClassEntries.{class_entry, file_entries, class_entries}
use Rattle.pyc_iface.specs.Answers.{orders_by}
use Rattle.pyc_iface.specs.CarryLaws.{MemberSeen, class_seen, if_decided, declared_seen, member_seen}
use Rattle.pyc_iface.specs.ComparedLaws.{EachOf, bound_name, declared_name, NameCompared, PresenceCompared, FaultCompared, FixedCompared, MemberCompared, OrderCompared, ClassCompared, FileCompared, AreCompared, ComparedAreAlike, KeptFilesAreCompared}
use Rattle.pyc_iface.specs.Members.{class_named, declared_class, class_in_file}
use Rattle.pyc_members.specs.Attributes.{SelfAttribute}
use Rattle.pyc_members.specs.ClassBodies.{first_annotated, first_assigned, is_annotated}
use Rattle.pyc_members.specs.ClassBodies as own
use Rattle.pyc_members.specs.DeclaredClasses.{DeclaredClass}
use Rattle.pyc_names.proofs.ReachLemmas.{file_is_named}
use Rattle.pyc_names.proofs.ReturnLemmas.{find_passes}
use Rattle.pyc_names.proofs.RingLemmas.{same_module-is}
use Rattle.pyc_names.proofs.ViewLemmas.{bound_in}
use Rattle.pyc_names.specs.CarryLaws.{BindingSeen, name_in, name_seen, fault_in}
use Rattle.pyc_names.specs.FixedModules.{fixed_module}
use Rattle.pyc_names.specs.Following.{QualifiedName, has_module}
use Rattle.pyc_names.specs.Interfaces.{Interface, file_of}
use Rattle.pyc_names.specs.Looks.{Look, of_name, of_module, of_member, of_order}
use Rattle.pyc_names.specs.ModuleName.{same_module}
use Rattle.pyc_names.specs.Presence.{is_root, is_within}

-- what holds of each holds of what is found
each_found : {X : Type 0} (P : X → Type 0) (test : X → Bool) (xs : List X) (x : X) → EachOf P xs → find test xs ≡ Some x → P x
each_found P test [] x all found = absurd (none-some x found)
each_found P test (y ∷ xs) x all found = elim (cases_Bool (test y)) [
  | inl passes ↦ subst P (same_Some y x (sym (cond-true (test y) (Some y) (find test xs) passes) ∙ found)) all.0
  | inr fails ↦ each_found P test xs x all.1 (sym (cond-false (test y) (Some y) (find test xs) fails) ∙ found)
]

-- so many first parts, by their own number
take_again : {X : Type 0} (n : ℕ) (xs : List X) → take (length (take n xs)) xs ≡ take n xs
take_again zero xs = refl
take_again (suc n) [] = refl
take_again (suc n) (x ∷ xs) = ap (λ l. x ∷ l) (take_again n xs)

-- all parts
take_all : {X : Type 0} (xs : List X) → take (length xs) xs ≡ xs
take_all [] = refl
take_all (x ∷ xs) = ap (λ l. x ∷ l) (take_all xs)

-- a place is found where one is there
any_placed : {X : Type 0} (test : X → Bool) (n k : ℕ) (xs : List X) → position_from test n xs ≡ Some k → list_any test xs ≡ true
any_placed test n k [] found = absurd (none-some k found)
any_placed test n k (x ∷ xs) found = elim (cases_Bool (test x)) [
  | inl passes ↦ ap (λ b. b || list_any test xs) passes
  | inr fails ↦ ap (λ b. b || list_any test xs) fails ∙ any_placed test (n + 1) k xs (sym (cond-false (test x) (Some n) (position_from test (n + 1) xs) fails) ∙ found)
]

module _ (differs : Look → Bool) (files others : List Interface) where
  -- ---- names

  -- a name that a compared file binds
  name_by : (q : QualifiedName) (file : Interface) (b : Binding) → FileCompared differs files others file → file.name ≡ q.module_path → declaration file.bindings q.name ≡ Some b → NameCompared differs files others q
  name_by q file b compared named found =
      let spelled : b.name ≡ q.name = (bytes_eq-Decides b.name q.name).0 (find_passes (λ b. bytes_eq b.name q.name) file.bindings b found) in
      let made : List (List ℕ) → List ℕ → QualifiedName = λ m n. record { module_path = m; name = n } in
      subst (NameCompared differs files others) (ap₂ made named spelled) (each_found (λ b. NameCompared differs files others (bound_name file b)) (λ b. bytes_eq b.name q.name) file.bindings b compared.names found)

  -- a file among compared ones
  compared_file : (some : List Interface) (m : List (List ℕ)) (file : Interface) → EachOf (FileCompared differs files others) some → file_of some m ≡ Some file → FileCompared differs files others file
  compared_file some m file all is = each_found (FileCompared differs files others) (λ file. same_module m file.name) some file all is

  name_in_some : (some : List Interface) (q : QualifiedName) (seen : BindingSeen) → EachOf (FileCompared differs files others) some → name_seen some q ≡ Some seen → NameCompared differs files others q
  name_in_some some q seen all e =
      let at = bound_in some q seen e in
      name_by q at.file seen.binding (compared_file some q.module_path at.file all at.is_file) (file_is_named some q.module_path at.file at.is_file) at.is_declaration

  names_alike : AreCompared differs files others → (q : QualifiedName) → differs (of_name q) ≡ false → name_seen files q ≡ name_seen others q
  names_alike all q clear = by (name_seen files q) (name_seen others q) refl refl
    where
      by : (o p : Option BindingSeen) → name_seen files q ≡ o → name_seen others q ≡ p → name_seen files q ≡ name_seen others q
      by None None here there = here ∙ sym there
      by (Some s) p here there = name_in_some files q s all.first here clear
      by None (Some s) here there = name_in_some others q s all.second there clear

  -- ---- modules

  -- a module that a compared file is or lies under
  outer_by : (some : List Interface) (m : List (List ℕ)) → EachOf (FileCompared differs files others) some → list_any (is_within m) (map (λ file. file.name) some) ≡ true → PresenceCompared differs files others m
  outer_by [] m all none = absurd (false≢true none)
  outer_by (file ∷ some) m all within = elim (or_cases (is_within m file.name) (list_any (is_within m) (map (λ file. file.name) some)) within) [
    | inl here ↦ subst (PresenceCompared differs files others) (sym (same_module-is m (take (length m) file.name) here)) (all.0.modules (length m))
    | inr later ↦ outer_by some m all.1 later
  ]

  -- whether a module is one of some files, or one that they lie under
  abbrev any_within : List (List ℕ) → List Interface → Bool
  any_within m some = list_any (is_within m) (map (λ file. file.name) some)

  presence_alike : AreCompared differs files others → (m : List (List ℕ)) → differs (of_module m) ≡ false → has_module files m ≡ has_module others m
  presence_alike all m clear = by (cases_Bool (any_within m files)) (cases_Bool (any_within m others))
    where
      by : (any_within m files ≡ true) ⊎ (any_within m files ≡ false) → (any_within m others ≡ true) ⊎ (any_within m others ≡ false) → has_module files m ≡ has_module others m
      by (inl here) o = outer_by files m all.first here clear
      by (inr away) (inl there) = outer_by others m all.second there clear
      by (inr away) (inr none) = ap (λ b. (is_root m || is_some (fixed_module m)) || b) (away ∙ sym none)

  faults_alike : AreCompared differs files others → (m : List (List ℕ)) → differs (of_module m) ≡ false → fault_in (file_of files m) ≡ fault_in (file_of others m)
  faults_alike all m clear = by (file_of files m) (file_of others m) refl refl
    where
      fault_by : (file : Interface) → FileCompared differs files others file → file.name ≡ m → fault_in (file_of files m) ≡ fault_in (file_of others m)
      fault_by file compared named = subst (FaultCompared differs files others) named compared.fault clear

      by : (o p : Option Interface) → file_of files m ≡ o → file_of others m ≡ p → fault_in (file_of files m) ≡ fault_in (file_of others m)
      by None None here there = ap fault_in (here ∙ sym there)
      by (Some file) p here there = fault_by file (compared_file files m file all.first here) (file_is_named files m file here)
      by None (Some file) here there = fault_by file (compared_file others m file all.second there) (file_is_named others m file there)

  fixed_alike : AreCompared differs files others → (m : List (List ℕ)) → IsTrue (is_some (fixed_module m)) → differs (of_module m) ≡ false → file_of files m ≡ file_of others m
  fixed_alike all m fixed clear = by (file_of files m) (file_of others m) refl refl
    where
      fixed_by : (file : Interface) → FileCompared differs files others file → file.name ≡ m → file_of files m ≡ file_of others m
      fixed_by file compared named = subst (FixedCompared differs files others) named compared.fixed fixed clear

      by : (o p : Option Interface) → file_of files m ≡ o → file_of others m ≡ p → file_of files m ≡ file_of others m
      by None None here there = here ∙ sym there
      by (Some file) p here there = fixed_by file (compared_file files m file all.first here) (file_is_named files m file here)
      by None (Some file) here there = fixed_by file (compared_file others m file all.second there) (file_is_named others m file there)

  -- ---- members

  -- a name of which something in a compared class decides
  module _ (c : QualifiedName) (k : DeclaredClass) (compared : ClassCompared differs files others c k) (x : List ℕ) where
    bound_compared : (b : Binding) → declaration k.body.bindings x ≡ Some b → MemberCompared differs files others c x
    bound_compared b found =
        subst (MemberCompared differs files others c) ((bytes_eq-Decides b.name x).0 (find_passes (λ b. bytes_eq b.name x) k.body.bindings b found))
        (each_found (λ b. MemberCompared differs files others c b.name) (λ b. bytes_eq b.name x) k.body.bindings b compared.bindings found)

    attribute_compared : (test : SelfAttribute → Bool) (a : SelfAttribute) → find (λ a. bytes_eq a.name x && test a) k.body.attributes ≡ Some a → MemberCompared differs files others c x
    attribute_compared test a found =
        subst (MemberCompared differs files others c)
        ((bytes_eq-Decides a.name x).0 (and_parts (bytes_eq a.name x) (test a) (find_passes (λ a. bytes_eq a.name x && test a) k.body.attributes a found)).0)
        (each_found (λ a. MemberCompared differs files others c a.name) (λ a. bytes_eq a.name x && test a) k.body.attributes a compared.attributes found)

    decided_compared : (o : Option Binding) (p q : Option SelfAttribute) (s seen : MemberSeen) → declaration k.body.bindings x ≡ o → first_annotated k.body.attributes x ≡ p → first_assigned k.body.attributes x ≡ q
        → if_decided s (own.or_else (option_map own.bound o) (option_map own.annotated p)) (option_map own.assigned q) ≡ Some seen → MemberCompared differs files others c x
    decided_compared (Some b) p q s seen bound annotated assigned e = bound_compared b bound
    decided_compared None (Some a) q s seen bound annotated assigned e = attribute_compared (λ a. is_annotated a.form) a annotated
    decided_compared None None (Some a) s seen bound annotated assigned e = attribute_compared (λ a. not (is_annotated a.form)) a assigned
    decided_compared None None None s seen bound annotated assigned e = absurd (none-some seen e)

  member_in_some : (some : List Interface) (c : QualifiedName) (x : List ℕ) (seen : MemberSeen) → EachOf (FileCompared differs files others) some → member_seen some c x ≡ Some seen → MemberCompared differs files others c x
  member_in_some some c x seen all e = by (file_of some c.module_path) refl e
    where
      in_class : (file : Interface) (k : DeclaredClass) → FileCompared differs files others file → file.name ≡ c.module_path → class_named file.classes c.name ≡ Some k
          → declared_seen x (declared_class (user c.module_path c.name) file (Some k)) ≡ Some seen → MemberCompared differs files others c x
      in_class file k compared named found e =
          let spelled : k.name ≡ c.name = (bytes_eq-Decides k.name c.name).0 (find_passes (λ (k : DeclaredClass). bytes_eq k.name c.name) file.classes k found) in
          let made : List (List ℕ) → List ℕ → QualifiedName = λ m n. record { module_path = m; name = n } in
          let one : ClassCompared differs files others c k = subst (λ (q : QualifiedName). ClassCompared differs files others q k) (ap₂ made named spelled)
          (each_found (λ k. ClassCompared differs files others (declared_name file k) k) (λ (k : DeclaredClass). bytes_eq k.name c.name) file.classes k compared.classes found) in
          decided_compared c k one x (declaration k.body.bindings x) (first_annotated k.body.attributes x) (first_assigned k.body.attributes x)
          (class_seen x (record { id = user c.module_path c.name; file = file; body = k.body })) seen refl refl refl e

      in_file : (file : Interface) (o : Option DeclaredClass) → FileCompared differs files others file → file.name ≡ c.module_path → class_named file.classes c.name ≡ o
          → declared_seen x (declared_class (user c.module_path c.name) file o) ≡ Some seen → MemberCompared differs files others c x
      in_file file None compared named found e = absurd (none-some seen e)
      in_file file (Some k) compared named found e = in_class file k compared named found e

      by : (o : Option Interface) → file_of some c.module_path ≡ o → declared_seen x (class_in_file (user c.module_path c.name) o) ≡ Some seen → MemberCompared differs files others c x
      by None is e = absurd (none-some seen e)
      by (Some file) is e = in_file file (class_named file.classes c.name) (compared_file some c.module_path file all is) (file_is_named some c.module_path file is) refl e

  members_alike : AreCompared differs files others → (c : QualifiedName) (x : List ℕ) → differs (of_member c x) ≡ false → member_seen files c x ≡ member_seen others c x
  members_alike all c x clear = by (member_seen files c x) (member_seen others c x) refl refl
    where
      by : (o p : Option MemberSeen) → member_seen files c x ≡ o → member_seen others c x ≡ p → member_seen files c x ≡ member_seen others c x
      by None None here there = here ∙ sym there
      by (Some s) p here there = member_in_some files c x s all.first here clear
      by None (Some s) here there = member_in_some others c x s all.second there clear

  -- ---- orders

  module _ (m : List (List ℕ)) (n : List ℕ) where
    abbrev is_it : Entry → Bool
    is_it entry = same_class entry.id (user m n)

    order_of_class : (some : List Interface) (file : Interface) (cs : List DeclaredClass) → EachOf (λ c. ClassCompared differs files others (declared_name file c) c) cs
        → list_any is_it (map (class_entry some file) cs) ≡ true → OrderCompared differs files others (record { module_path = m; name = n })
    order_of_class some file [] all none = absurd (false≢true none)
    order_of_class some file (c ∷ cs) all any = elim (or_cases (is_it (class_entry some file c)) (list_any is_it (map (class_entry some file) cs)) any) [
      | inl here ↦
          let parts = and_parts (same_module file.name m) (bytes_eq c.name n) here in
          let made : List (List ℕ) → List ℕ → QualifiedName = λ m n. record { module_path = m; name = n } in
          subst (OrderCompared differs files others) (ap₂ made (same_module-is file.name m parts.0) ((bytes_eq-Decides c.name n).0 parts.1)) all.0.order
      | inr later ↦ order_of_class some file cs all.1 later
    ]

    order_by : (whole some : List Interface) → EachOf (FileCompared differs files others) some → list_any is_it (flat_map (file_entries whole) some) ≡ true
        → OrderCompared differs files others (record { module_path = m; name = n })
    order_by whole [] all none = absurd (false≢true none)
    order_by whole (file ∷ some) all any =
        elim (or_cases (list_any is_it (file_entries whole file)) (list_any is_it (flat_map (file_entries whole) some)) (sym (list_any-append is_it (file_entries whole file) (flat_map (file_entries whole) some)) ∙ any)) [
          | inl here ↦ order_of_class whole file file.classes all.0.classes here
          | inr later ↦ order_by whole some all.1 later
        ]

    -- no builtin class is one of a source, and a base more changes no class
    any_declared : (entries : List Entry) → list_any is_it (map with_object entries) ≡ list_any is_it entries
    any_declared [] = refl
    any_declared (e ∷ entries) = ap (λ b. is_it e || b) (any_declared entries)

    any_of_all : (entries : List Entry) → list_any is_it (all_entries entries) ≡ list_any is_it entries
    unfolding all_entries
    any_of_all entries = list_any-append is_it (map builtin_entry builtin_classes) (map with_object entries) ∙ any_declared entries

    -- a class that is not declared has the order of those that are not
    order_undeclared : (entries : List Entry) → list_any is_it entries ≡ false → orders_of entries (user m n) ≡ undeclared
    order_undeclared entries none = by (number_in (all_entries entries) (user m n)) refl
      where
        by : (o : Option ℕ) → number_in (all_entries entries) (user m n) ≡ o → order_at (all_entries entries) o ≡ undeclared
        by None found = refl
        by (Some k) found = absurd (false≢true (sym (any_of_all entries ∙ none) ∙ any_placed is_it 0 k (all_entries entries) found))

    -- whether one of some files declares the class
    abbrev any_declares : List Interface → Bool
    any_declares some = list_any is_it (flat_map (file_entries some) some)

    order_in_some : AreCompared differs files others → differs (of_order (record { module_path = m; name = n })) ≡ false
        → (any_declares files ≡ true) ⊎ (any_declares files ≡ false) → (any_declares others ≡ true) ⊎ (any_declares others ≡ false) → orders_by files (user m n) ≡ orders_by others (user m n)
    unfolding orders_by class_entries
    order_in_some all clear (inl here) o = order_by files files all.first here clear
    order_in_some all clear (inr away) (inl there) = order_by others others all.second there clear
    order_in_some all clear (inr away) (inr none) = order_undeclared (flat_map (file_entries files) files) away ∙ sym (order_undeclared (flat_map (file_entries others) others) none)

    order_alike : AreCompared differs files others → differs (of_order (record { module_path = m; name = n })) ≡ false → orders_by files (user m n) ≡ orders_by others (user m n)
    order_alike all clear = order_in_some all clear (cases_Bool (any_declares files)) (cases_Bool (any_declares others))

-- ---- a file that stands in both lists

-- where a file is found, each module that it is or lies under is there
within_found : (some : List Interface) (m : List (List ℕ)) (n : ℕ) (file : Interface) → file_of some m ≡ Some file → list_any (is_within (take n file.name)) (map (λ file. file.name) some) ≡ true
within_found [] m n file is = absurd (none-some file is)
within_found (other ∷ some) m n file is = elim (cases_Bool (same_module m other.name)) [
  | inl here ↦
      let same : other ≡ file = same_Some other file (sym (cond-true (same_module m other.name) (Some other) (file_of some m) here) ∙ is) in
      let within : is_within (take n file.name) other.name ≡ true =
      ap (λ (f : Interface). is_within (take n file.name) f.name) same
      ∙ (slice_eq-Decides bytes_eq-Decides (take n file.name) (take (length (take n file.name)) file.name) (is_within (take n file.name) file.name) refl).1 (sym (take_again n file.name)) in
      ap (λ b. b || list_any (is_within (take n file.name)) (map (λ file. file.name) some)) within
  | inr away ↦
      let later = within_found some m n file (sym (cond-false (same_module m other.name) (Some other) (file_of some m) away) ∙ is) in
      or_right (is_within (take n file.name) other.name) (list_any (is_within (take n file.name)) (map (λ file. file.name) some)) later
]

there_found : (some : List Interface) (n : ℕ) (file : Interface) → file_of some file.name ≡ Some file → has_module some (take n file.name) ≡ true
there_found some n file is = or_right (is_root (take n file.name) || is_some (fixed_module (take n file.name))) (list_any (is_within (take n file.name)) (map (λ file. file.name) some)) (within_found some file.name n file is)

whole_there : (some : List Interface) (file : Interface) → file_of some file.name ≡ Some file → has_module some file.name ≡ true
whole_there some file is = ap (has_module some) (sym (take_all file.name)) ∙ there_found some (length file.name) file is

each_of_all : {X : Type 0} (P : X → Type 0) → ((x : X) → P x) → (xs : List X) → EachOf P xs
each_of_all P all [] = tt
each_of_all P all (x ∷ xs) = (all x, each_of_all P all xs)

pub kept_files_are_compared : KeptFilesAreCompared
kept_files_are_compared differs files others file here there orders =
    let both : file_of files file.name ≡ file_of others file.name = here ∙ sym there in
    record {
      names = each_of_all (λ b. NameCompared differs files others (bound_name file b))
          (λ b clear. ap₂ (λ (t : Bool) (o : Option Interface). name_in t b.name o) (whole_there files file here ∙ sym (whole_there others file there)) both) file.bindings;
      modules = λ n clear. there_found files n file here ∙ sym (there_found others n file there);
      fault = λ clear. ap fault_in both;
      fixed = λ fixed clear. both;
      classes = classes_kept file.classes orders;
    }
  where
    same_member : (c : DeclaredClass) (x : List ℕ) → member_seen files (declared_name file c) x ≡ member_seen others (declared_name file c) x
    same_member c x = ap (λ (o : Option Interface). declared_seen x (class_in_file (user file.name c.name) o)) (here ∙ sym there)

    classes_kept : (cs : List DeclaredClass) → EachOf (λ c. OrderCompared differs files others (declared_name file c)) cs → EachOf (λ c. ClassCompared differs files others (declared_name file c) c) cs
    classes_kept [] all = tt
    classes_kept (c ∷ cs) all = (
      record {
        order = all.0;
        bindings = each_of_all (λ b. MemberCompared differs files others (declared_name file c) b.name) (λ b clear. same_member c b.name) c.body.bindings;
        attributes = each_of_all (λ a. MemberCompared differs files others (declared_name file c) a.name) (λ a clear. same_member c a.name) c.body.attributes;
      },
      classes_kept cs all.1,
    )

pub compared_are_alike : ComparedAreAlike
compared_are_alike differs files others all =
    record {
      names = record { names = names_alike differs files others all; modules = presence_alike differs files others all; faults = faults_alike differs files others all };
      fixed = fixed_alike differs files others all;
      members = members_alike differs files others all;
      orders = λ c clear. order_alike differs files others c.module_path c.name all clear;
    }
