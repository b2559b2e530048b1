-- Where what files answer is the same among other files.
use Rattle.std.specs.Prelude.{◌≡◌, ℕ, Bool, false, List, Option, None, Some}
use Rattle.std.specs.List.{list_any}
use Rattle.pyc_class_ids.specs.Class.{user}
use Rattle.pyc_declarations.specs.CarryLaws.{AreOwnFiles, FixedFilesAreAlike, class_heads}
use Rattle.pyc_declarations.specs.Looks.{entries_looks}
use Rattle.pyc_iface.specs.Answers.{orders_by, answer_by}
use Rattle.pyc_iface.specs.Looks.{answer_looks}
use Rattle.pyc_iface.specs.Members.{Declared, declared_of}
use Rattle.pyc_members.specs.ClassBodies.{OwnMember, in_body_or_annotated, assigned_through_self, is_settable}
use Rattle.pyc_names.specs.CarryLaws.{AreAlike, SameLooks}
use Rattle.pyc_names.specs.Following.{QualifiedName}
use Rattle.pyc_names.specs.Interfaces.{Interface}
use Rattle.pyc_names.specs.Looks.{Look, of_member, of_order}
use Rattle.pyc_reading.specs.Keys.{Key}

-- what is seen of what a class has of its own under a name: what decides of the name, and whether it has a setter
pub record MemberSeen : Type 0 where
  pub declared : Option OwnMember
  pub assigned : Option OwnMember
  pub is_settable : Bool

abbrev pub class_seen : List ℕ → Declared → MemberSeen
class_seen x c =
    record {
      declared = in_body_or_annotated c.body x;
      assigned = assigned_through_self c.body x;
      is_settable = is_settable c.body x;
    }

-- nothing is seen where nothing decides
abbrev pub if_decided : MemberSeen → Option OwnMember → Option OwnMember → Option MemberSeen
if_decided seen None None = None
if_decided seen _ _ = Some seen

abbrev pub declared_seen : List ℕ → Option Declared → Option MemberSeen
declared_seen x None = None
declared_seen x (Some c) = if_decided (class_seen x c) (in_body_or_annotated c.body x) (assigned_through_self c.body x)

-- what is seen of a name of a class of a source
abbrev pub member_seen : List Interface → QualifiedName → List ℕ → Option MemberSeen
member_seen files c x = declared_seen x (declared_of files (user c.module_path c.name))

-- files in which all is the same that does not differ: names and modules, files that are named as fixed modules, and
-- members and orders of classes
pub record AreAllAlike (differs : Look → Bool) (files others : List Interface) : Type 0 where
  pub names : AreAlike differs files others
  pub fixed : FixedFilesAreAlike differs files others
  pub members : (c : QualifiedName) (x : List ℕ) → differs (of_member c x) ≡ false
      → member_seen files c x ≡ member_seen others c x
  pub orders : (c : QualifiedName) → differs (of_order c) ≡ false
      → orders_by files (user c.module_path c.name) ≡ orders_by others (user c.module_path c.name)

-- answers for which nothing is looked at that differs are the same among other files, and the same is looked at
abbrev pub AnswersStay : (Look → Bool) → List Interface → List Interface → Type 0
AnswersStay differs files others =
    (key : Key) → list_any differs (answer_looks files key) ≡ false
    → (answer_by files key ≡ answer_by others key) × SameLooks (answer_looks files key) (answer_looks others key)

-- they are so where the files are alike
abbrev pub AnswersCarryOver : Type 0
AnswersCarryOver =
    (differs : Look → Bool) (files others : List Interface) → AreAllAlike differs files others
    → AnswersStay differs files others

-- all orders are the same among other files with the same class heads
abbrev pub MrosCarryOver : Type 0
MrosCarryOver =
    (differs : Look → Bool) (files others : List Interface) → AreAlike differs files others
    → FixedFilesAreAlike differs files others → AreOwnFiles files files → AreOwnFiles others others
    → class_heads files ≡ class_heads others → list_any differs (entries_looks files) ≡ false
    → (orders_by files ≡ orders_by others) × SameLooks (entries_looks files) (entries_looks others)
