-- Where what files answer is the same among other files, whatever their positions.
use Rattle.std.specs.Prelude.{◌≡◌, ℕ, Bool, true, false, List, map}
use Rattle.std.specs.List.{list_any}
use Rattle.pyc_declarations.specs.Looks.{entries_looks}
use Rattle.pyc_iface.specs.Answers.{orders_by}
use Rattle.pyc_iface.specs.CarryLaws.{AnswersStay, AreAllAlike}
use Rattle.pyc_iface.specs.ComparedLaws.{EachOf}
use Rattle.pyc_iface.specs.Looks.{answer_looks}
use Rattle.pyc_interfaces.specs.BareInterfaces.{bare_interface}
use Rattle.pyc_interfaces.specs.ChangedBetween.{HaveInCommon, changed_between, modules_between}
use Rattle.pyc_interfaces.specs.ClassHeads.{same_heads_between}
use Rattle.pyc_names.specs.CarryLaws.{SameLooks}
use Rattle.pyc_names.specs.Interfaces.{Interface}
use Rattle.pyc_names.specs.Looks.{Look}
use Rattle.pyc_reading.specs.Keys.{Key}

-- positions change nothing that is looked at
abbrev pub PositionsChangeNoLook : Type 0
PositionsChangeNoLook =
    (interfaces : List Interface) (key : Key)
    → answer_looks (map bare_interface interfaces) key ≡ answer_looks interfaces key

-- nor what is looked at for the classes that files declare
abbrev pub PositionsChangeNoEntry : Type 0
PositionsChangeNoEntry =
    (interfaces : List Interface) → entries_looks (map bare_interface interfaces) ≡ entries_looks interfaces

-- answers for which nothing is looked at that differs are the same among other files, where these are alike without
-- positions
abbrev pub FilesCarryOver : Type 0
FilesCarryOver =
    (differs : Look → Bool) (files others : List Interface)
    → AreAllAlike differs (map bare_interface files) (map bare_interface others) → AnswersStay differs files others

-- each of these looks differs
abbrev pub AllDiffer : (Look → Bool) → List Look → Type 0
AllDiffer differs looks = EachOf (λ look. differs look ≡ true) looks

-- answers for which nothing is looked at that differs are the same among later files, where all differs that is listed
-- between the two; so many of their first and of their last are alike without positions
abbrev pub ChangedLooksAreAll : Type 0
ChangedLooksAreAll =
    (differs : Look → Bool) (front back : ℕ) (files others : List Interface) → HaveInCommon front back files others
    → AllDiffer differs (changed_between front back files others) → AnswersStay differs files others

-- later files whose classes have the orders of the earlier ones
pub record SharesClasses (differs : Look → Bool) (files others : List Interface) : Type 0 where
  pub orders : orders_by files ≡ orders_by others
  pub looks : SameLooks (entries_looks files) (entries_looks others)
  pub answers : AnswersStay differs files others

-- so it is where nothing differs that is looked at for the classes, where all differs that is listed of modules and
-- the heads of the classes between count alike
abbrev pub SharedClassesCarryOver : Type 0
SharedClassesCarryOver =
    (differs : Look → Bool) (front back : ℕ) (files others : List Interface) → HaveInCommon front back files others
    → AllDiffer differs (modules_between front back files others) → same_heads_between front back files others ≡ true
    → list_any differs (entries_looks files) ≡ false → SharesClasses differs files others
