-- Where what files declare is the same among other files.
use Rattle.std.specs.Prelude.{◌≡◌, ℕ, Bool, false, IsTrue, is_some, codes, List, [], ◌∷◌, flat_map, map, Some}
use Rattle.std.specs.List.{list_any}
use Rattle.pyc_ast.specs.Exprs.{Argument}
use Rattle.pyc_declarations.specs.ClassEntries.{class_entries}
use Rattle.pyc_declarations.specs.Declarations.{declared_answer}
use Rattle.pyc_declarations.specs.Looks.{declared_looks, entries_looks}
use Rattle.pyc_members.specs.ClassBodies.{own_member}
use Rattle.pyc_members.specs.DeclaredClasses.{DeclaredClass}
use Rattle.pyc_names.specs.CarryLaws.{AreAlike, SameLooks}
use Rattle.pyc_names.specs.FixedModules.{fixed_module}
use Rattle.pyc_names.specs.Interfaces.{Interface, file_of}
use Rattle.pyc_names.specs.Looks.{Look, of_module}
use Rattle.pyc_reading.specs.Keys.{Key}

-- what is declared under names is the same among other files, where these are alike and nothing is looked at that
-- differs; and the same is looked at
abbrev pub DeclaredCarriesOver : Type 0
DeclaredCarriesOver =
    (differs : Look → Bool) (files others : List Interface) (key : Key) → AreAlike differs files others
    → list_any differs (declared_looks files key) ≡ false
    → (declared_answer files key ≡ declared_answer others key)
    × SameLooks (declared_looks files key) (declared_looks others key)

-- ---- classes

-- the head of a class that a file declares: what its entry is made of, beside what its bases are
pub record ClassHead : Type 0 where
  pub home : List (List ℕ)
  pub name : List ℕ
  pub arguments : List Argument
  pub has_call : Bool

abbrev pub class_head : Interface → DeclaredClass → ClassHead
class_head file c =
    record {
      home = file.name;
      name = c.name;
      arguments = c.head.arguments;
      has_call = is_some (own_member c.body (codes "__call__"));
    }

-- the heads of the classes that files declare
abbrev pub class_heads : List Interface → List ClassHead
class_heads files = flat_map (λ file. map (class_head file) file.classes) files

-- each of these files is that of its module: no two are of one module
abbrev pub AreOwnFiles : List Interface → List Interface → Type 0
AreOwnFiles files [] = Unit {0}
AreOwnFiles files (file ∷ rest) = (file_of files file.name ≡ Some file) × AreOwnFiles files rest

-- a file that is named as a fixed module is the same wherever the module does not differ
abbrev pub FixedFilesAreAlike : (Look → Bool) → List Interface → List Interface → Type 0
FixedFilesAreAlike differs files others =
    (m : List (List ℕ)) → IsTrue (is_some (fixed_module m)) → differs (of_module m) ≡ false
    → file_of files m ≡ file_of others m

-- the classes that files declare are the same among other files with the same class heads
abbrev pub EntriesCarryOver : Type 0
EntriesCarryOver =
    (differs : Look → Bool) (files others : List Interface) → AreAlike differs files others
    → FixedFilesAreAlike differs files others → AreOwnFiles files files → AreOwnFiles others others
    → class_heads files ≡ class_heads others → list_any differs (entries_looks files) ≡ false
    → (class_entries files ≡ class_entries others) × SameLooks (entries_looks files) (entries_looks others)
