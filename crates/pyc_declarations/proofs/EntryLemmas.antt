-- The classes that files declare, among other files with the same class heads.
use Rattle.std.proofs.Common.{◌≡◌, ℕ, Bool, true, false, List, [], ◌∷◌, ◌++◌, map, Option, None, Some, is_some, refl, sym, ap, ap₂, subst, ◌∙◌}
use Rattle.std.proofs.lemmas.Bool.{or_parts, false≢true}
use Rattle.std.proofs.lemmas.Option.{same_Some}
use Rattle.std.specs.List.{list_any}
use Rattle.std.specs.Prelude.{flat_map}
use Rattle.pyc_annotations.specs.Bases.{bases}
use Rattle.pyc_ast.specs.Exprs.{Argument}
use Rattle.pyc_class_ids.specs.Class.{user}
use Rattle.pyc_class_table.specs.declared.class_entry.WrittenBase.{WrittenBase}
use Rattle.pyc_class_table.specs.Entries.{Entry}
use Rattle.pyc_declarations.specs.ClassEntries.{written_base, written_bases, class_entry, file_entries, class_entries}
use Rattle.pyc_declarations.specs.Declarations.{declared_answer}
use Rattle.pyc_declarations.specs.Kinds.{found_name}
use Rattle.pyc_declarations.specs.Looks.{found_looks, found_name_looks, declared_looks, fixed_looks, bases_looks, class_looks, entries_looks}
use Rattle.pyc_declarations.specs.CarryLaws.{ClassHead, class_head, class_heads, AreOwnFiles, FixedFilesAreAlike, EntriesCarryOver}
use Rattle.pyc_members.specs.DeclaredClasses.{DeclaredClass}
use Rattle.pyc_names.specs.declared.fixed.FixedModule.{FixedModule}
use Rattle.pyc_names.specs.FixedModules.{fixed_module}
use Rattle.pyc_names.specs.Following.{QualifiedName}
use Rattle.pyc_names.specs.Interfaces.{Interface, file_of}
use Rattle.pyc_names.specs.Looks.{Look, of_name, of_module}
use Rattle.pyc_names.specs.CarryLaws.{AreAlike, SameLooks}
use Rattle.pyc_names.proofs.LookLemmas.{Clear, clear_parts}
use Rattle.pyc_reading.specs.Keys.{Key}
use Rattle.pyc_reading.specs.Readings.{asked}
use Rattle.pyc_declarations.proofs.CarriedLemmas.{AreTwins, bases-carried}
use Rattle.pyc_declarations.proofs.CarryLemmas.{TwinFiles, same_both, reading_carries, good_holds, bind_alike, fixed_alike, declared_carries, own_found_clear}

-- ---- entries by the heads of classes

abbrev bases_by : List Interface → List Argument → Option Interface → List WrittenBase
bases_by files arguments (Some file) = written_bases files file arguments
bases_by files arguments None = []

abbrev entry_by : List Interface → ClassHead → Entry
entry_by files h = record { id = user h.home h.name; bases = bases_by files h.arguments (file_of files h.home); has_call = h.has_call }

abbrev looks_by : List Interface → List Argument → Option Interface → List Look
looks_by files arguments (Some file) = bases_looks files file arguments
looks_by files arguments None = []

abbrev head_looks : List Interface → ClassHead → List Look
head_looks files h = looks_by files h.arguments (file_of files h.home)

map_append : {A B : Type 0} (f : A → B) (xs ys : List A) → map f (xs ++ ys) ≡ map f xs ++ map f ys
map_append f [] ys = refl
map_append f (x ∷ xs) ys = ap (λ l. f x ∷ l) (map_append f xs ys)

list_append : {A : Type 0} (xs ys zs : List A) → (xs ++ ys) ++ zs ≡ xs ++ (ys ++ zs)
list_append [] ys zs = refl
list_append (x ∷ xs) ys zs = ap (λ l. x ∷ l) (list_append xs ys zs)

flat_append : {A B : Type 0} (f : A → List B) (xs ys : List A) → flat_map f (xs ++ ys) ≡ flat_map f xs ++ flat_map f ys
flat_append f [] ys = refl
flat_append f (x ∷ xs) ys = ap (λ l. f x ++ l) (flat_append f xs ys) ∙ sym (list_append (f x) (flat_map f xs) (flat_map f ys))

-- the file of a head is the one of its module
record IsNamed (files : List Interface) (h : ClassHead) : Type 0 where
  file : Interface
  is_file : file_of files h.home ≡ Some file
  named : file.name ≡ h.home

abbrev AllNamed : List Interface → List ClassHead → Type 0
AllNamed files [] = Unit {0}
AllNamed files (h ∷ hs) = IsNamed files h × AllNamed files hs

all_named-append : (files : List Interface) (xs ys : List ClassHead) → AllNamed files xs → AllNamed files ys → AllNamed files (xs ++ ys)
all_named-append files [] ys first later = later
all_named-append files (x ∷ xs) ys first later = (first.0, all_named-append files xs ys first.1 later)

module _ (files : List Interface) where
  module _ (file : Interface) (is : file_of files file.name ≡ Some file) where
    entry-is : (c : DeclaredClass) → class_entry files file c ≡ entry_by files (class_head file c)
    entry-is c =
        let made : Option Interface → Entry = λ o. record { id = user file.name c.name; bases = bases_by files c.head.arguments o; has_call = (class_head file c).has_call } in
        ap made (sym is)

    file_entries-are : (cs : List DeclaredClass) → map (class_entry files file) cs ≡ map (entry_by files) (map (class_head file) cs)
    file_entries-are [] = refl
    file_entries-are (c ∷ cs) = ap₂ (λ (x : Entry) (xs : List Entry). x ∷ xs) (entry-is c) (file_entries-are cs)

    file_looks-are : (cs : List DeclaredClass) → flat_map (class_looks files file) cs ≡ flat_map (head_looks files) (map (class_head file) cs)
    file_looks-are [] = refl
    file_looks-are (c ∷ cs) = ap₂ (λ (xs ys : List Look). xs ++ ys) (ap (looks_by files c.head.arguments) (sym is)) (file_looks-are cs)

    heads_named : (cs : List DeclaredClass) → AllNamed files (map (class_head file) cs)
    heads_named [] = tt
    heads_named (c ∷ cs) = (record { file = file; is_file = is; named = refl }, heads_named cs)

  entries-are : (more : List Interface) → AreOwnFiles files more → flat_map (file_entries files) more ≡ map (entry_by files) (class_heads more)
  entries-are [] own = refl
  entries-are (file ∷ more) own =
      ap₂ (λ (xs ys : List Entry). xs ++ ys) (file_entries-are file own.0 file.classes) (entries-are more own.1)
      ∙ sym (map_append (entry_by files) (map (class_head file) file.classes) (class_heads more))

  looks-are : (more : List Interface) → AreOwnFiles files more → flat_map (λ file. flat_map (class_looks files file) file.classes) more ≡ flat_map (head_looks files) (class_heads more)
  looks-are [] own = refl
  looks-are (file ∷ more) own =
      ap₂ (λ (xs ys : List Look). xs ++ ys) (file_looks-are file own.0 file.classes) (looks-are more own.1)
      ∙ sym (flat_append (head_looks files) (map (class_head file) file.classes) (class_heads more))

  all_named : (more : List Interface) → AreOwnFiles files more → AllNamed files (class_heads more)
  all_named [] own = tt
  all_named (file ∷ more) own = all_named-append files (map (class_head file) file.classes) (class_heads more) (heads_named file own.0 file.classes) (all_named more own.1)

-- ---- among other files

pub fixed_clear : (differs : Look → Bool) (m : List (List ℕ)) (o : Option FixedModule) → is_some o ≡ true → Clear differs (fixed_looks m o) → differs (of_module m) ≡ false
fixed_clear differs m (Some fixed) is clear = (or_parts (differs (of_module m)) false clear).0
fixed_clear differs m None is clear = absurd (false≢true is)

module _ (differs : Look → Bool) (files others : List Interface) (alike : AreAlike differs files others) where
  declared_hold : (k : Key) → Clear differs (declared_looks files k) → declared_answer files k ≡ declared_answer others k
  declared_hold = good_holds differs (declared_answer files) (declared_answer others) (declared_looks files) (declared_looks others) (declared_carries differs files others alike)

  declared_twins : (file twin : Interface) → TwinFiles files others file twin → AreTwins (declared_answer files) (declared_answer others) (λ k. Clear differs (declared_looks files k)) declared_hold file twin
  declared_twins file twin twins = record {
    named = twins.file_named ∙ sym twins.twin_named;
    by_key = λ x clear.
        let q : QualifiedName = record { module_path = file.name; name = x } in
        let looked = own_found_clear differs files others alike q (clear_parts differs (found_name_looks files q) (found_looks files (found_name files q)) clear).0 in
        bind_alike differs files others alike file twin twins x (sym (ap (λ (m : List (List ℕ)). differs (of_name (record { module_path = m; name = x }))) twins.file_named) ∙ looked);
    in_fixed = fixed_alike differs files others alike file twin twins;
  }

  bases_carry : (file twin : Interface) → TwinFiles files others file twin → (xs : List Argument) → Clear differs (bases_looks files file xs)
      → (written_bases files file xs ≡ written_bases others twin xs) × SameLooks (bases_looks files file xs) (bases_looks others twin xs)
  unfolding written_bases bases_looks
  bases_carry file twin twins xs clear =
      let parts = clear_parts differs (fixed_looks file.name (fixed_module file.name)) (flat_map (declared_looks files) (asked (declared_answer files) (bases file xs))) clear in
      let one = reading_carries differs (declared_answer files) (declared_answer others) (declared_looks files) (declared_looks others) (declared_carries differs files others alike) (bases file xs) (bases twin xs)
      (bases-carried (declared_answer files) (declared_answer others) (λ k. Clear differs (declared_looks files k)) declared_hold file twin (declared_twins file twin twins) xs) parts.1 in (
        ap (map written_base) one.0,
        same_both (fixed_looks file.name (fixed_module file.name)) (fixed_looks twin.name (fixed_module twin.name))
            (flat_map (declared_looks files) (asked (declared_answer files) (bases file xs))) (flat_map (declared_looks others) (asked (declared_answer others) (bases twin xs)))
            (λ t. ap (λ m. list_any t (fixed_looks m (fixed_module m))) (twins.file_named ∙ sym twins.twin_named)) one.1,
      )

  -- where the module of a file is a fixed one, it is looked at for the bases of the file's classes
  module_clear : (file : Interface) (m : List (List ℕ)) (xs : List Argument) → file.name ≡ m → is_some (fixed_module m) ≡ true → Clear differs (bases_looks files file xs) → differs (of_module m) ≡ false
  unfolding bases_looks
  module_clear file m xs named fixed looked =
      fixed_clear differs m (fixed_module m) fixed (sym (ap (λ m. list_any differs (fixed_looks m (fixed_module m))) named)
      ∙ (clear_parts differs (fixed_looks file.name (fixed_module file.name)) (flat_map (declared_looks files) (asked (declared_answer files) (bases file xs))) looked).0)

  module _ (fixed_files : FixedFilesAreAlike differs files others) where
    head_carries : (h : ClassHead) → IsNamed files h → IsNamed others h → Clear differs (head_looks files h) → (entry_by files h ≡ entry_by others h) × SameLooks (head_looks files h) (head_looks others h)
    head_carries h here there clear =
        let looked : Clear differs (bases_looks files here.file h.arguments) = sym (ap (λ o. list_any differs (looks_by files h.arguments o)) here.is_file) ∙ clear in
        let twins : TwinFiles files others here.file there.file = record {
          home = h.home;
          is_file = here.is_file;
          is_twin = there.is_file;
          file_named = here.named;
          twin_named = there.named;
          is_fixed = λ fixed. same_Some here.file there.file (sym here.is_file ∙ fixed_files h.home fixed (module_clear here.file h.home h.arguments here.named fixed looked) ∙ there.is_file);
        } in
        let one = bases_carry here.file there.file twins h.arguments looked in
        let made : List WrittenBase → Entry = λ bases. record { id = user h.home h.name; bases = bases; has_call = h.has_call } in (
          ap made (ap (bases_by files h.arguments) here.is_file ∙ one.0 ∙ ap (bases_by others h.arguments) (sym there.is_file)),
          λ t. ap (λ o. list_any t (looks_by files h.arguments o)) here.is_file ∙ one.1 t ∙ ap (λ o. list_any t (looks_by others h.arguments o)) (sym there.is_file),
        )

    heads_carry : (hs : List ClassHead) → AllNamed files hs → AllNamed others hs → Clear differs (flat_map (head_looks files) hs)
        → (map (entry_by files) hs ≡ map (entry_by others) hs) × SameLooks (flat_map (head_looks files) hs) (flat_map (head_looks others) hs)
    heads_carry [] here there clear = (refl, λ t. refl)
    heads_carry (h ∷ hs) here there clear =
        let parts = clear_parts differs (head_looks files h) (flat_map (head_looks files) hs) clear in
        let one = head_carries h here.0 there.0 parts.0 in
        let later = heads_carry hs here.1 there.1 parts.1 in (
          ap₂ (λ (x : Entry) (xs : List Entry). x ∷ xs) one.0 later.0,
          same_both (head_looks files h) (head_looks others h) (flat_map (head_looks files) hs) (flat_map (head_looks others) hs) one.1 later.1,
        )

pub entries_carry : EntriesCarryOver
unfolding class_entries entries_looks
entries_carry differs files others alike fixed_files own own_others heads clear =
    let looked : Clear differs (flat_map (head_looks files) (class_heads files)) = sym (ap (list_any differs) (looks-are files files own)) ∙ clear in
    let named : AllNamed others (class_heads files) = subst (AllNamed others) (sym heads) (all_named others others own_others) in
    let one = heads_carry differs files others alike fixed_files (class_heads files) (all_named files files own) named looked in (
      entries-are files files own ∙ one.0 ∙ ap (map (entry_by others)) heads ∙ sym (entries-are others others own_others),
      λ t. ap (list_any t) (looks-are files files own) ∙ one.1 t ∙ ap (λ hs. list_any t (flat_map (head_looks others) hs)) heads ∙ ap (list_any t) (sym (looks-are others others own_others)),
    )
