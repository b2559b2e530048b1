-- What holds of which units a check examines.
use Rattle.std.specs.Prelude.{◌≡◌, ◌≢◌, ℕ, ◌↔◌, List, slice_get, Some}
use Rattle.std.specs.List.{Contains}
use Rattle.pyc_body.specs.FileUnits.{FileUnit, UnitId, file_units, id_of}
use Rattle.pyc_iface.specs.declared.options.Options.{Options}
use Rattle.pyc_reading.specs.Keys.{Key}
use Rattle.pyc_reuse.specs.Examined.{answers_of, examined, reads_among}
use Rattle.pyc_workspace.specs.Fresh.{source_of}
use Rattle.pyc_workspace.specs.Workspace.{File, IsInOrder}

-- a file is new, or has other bytes: it does not stand among these as it is
abbrev pub IsNewOrChanged : List File → File → Type 0
IsNewOrChanged last file = Contains last file → ⊥

-- some key of the reads of a unit at the last completed check has another answer now
abbrev pub HasAnotherAnswer : Options → (last present : List File) → FileUnit → Type 0
HasAnotherAnswer options last present unit =
    (key : Key) × Contains (reads_among options last unit) key × (answers_of last key ≢ answers_of present key)

-- a unit of a file that is present, for which one of the two holds
pub data IsToBeExamined (options : Options) (last present : List File) (file : File) (unit : FileUnit) : Type 0 where
  by_its_file : IsNewOrChanged last file → IsToBeExamined options last present file unit
  by_its_reads : HasAnotherAnswer options last present unit → IsToBeExamined options last present file unit

-- a unit that is named so is to be examined
pub record IsAffected (options : Options) (last present : List File) (id : UnitId) : Type 0 where
  pub file : File
  pub unit : FileUnit
  pub is_present : Contains present file
  pub is_of_file : Contains (file_units (source_of file)) unit
  pub named : id ≡ id_of unit
  pub examined : IsToBeExamined options last present file unit

-- a unit is examined just where its file is new or has other bytes than at the last completed check, or some key of its
-- reads then has another answer now
abbrev pub ExaminedJustWhere : Type 0
ExaminedJustWhere =
    (options : Options) (last present : List File) (id : UnitId)
    → Contains (examined options last present) id ↔ IsAffected options last present id

-- no unit stands twice among those that are examined, where the files that are present are in order
abbrev pub ExaminedOnce : Type 0
ExaminedOnce =
    (options : Options) (last present : List File) (i j : ℕ) (id : UnitId) → IsInOrder present
    → slice_get (examined options last present) i ≡ Some id → slice_get (examined options last present) j ≡ Some id
    → i ≡ j
