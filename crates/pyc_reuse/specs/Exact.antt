-- What a completed check is.
use Rattle.std.specs.Prelude.{◌≡◌, ℕ, ◌↔◌, List, slice_get, Some}
use Rattle.std.specs.List.{Contains}
use Rattle.pyc_body.specs.FileUnits.{FileUnit, UnitId}
use Rattle.pyc_body.specs.FoundLaws.{AreListed}
use Rattle.pyc_body.specs.FoundMessages.{found}
use Rattle.pyc_report.specs.FoundOrder.{in_order}
use Rattle.pyc_iface.specs.declared.options.Options.{Options}
use Rattle.pyc_report.specs.Message.{Message}
use Rattle.pyc_report.specs.Report.{Report}
use Rattle.pyc_reuse.specs.ExaminedLaws.{IsAffected}
use Rattle.pyc_workspace.specs.Fresh.{fresh, sources_of}
use Rattle.pyc_workspace.specs.Workspace.{File}

-- what is found in a unit, among these files, is what its listing reports, in order: each diagnostic, and of each row
-- of obligations that it requires the message of the first whose type is not assignable by the written rules
abbrev pub IsFoundAsListed : Options → List File → FileUnit → Type 0
IsFoundAsListed options files unit =
    let sources = sources_of files in
    (messages : List Message) × AreListed options sources unit.file unit.unit messages
    × (found options sources unit.file unit.unit ≡ in_order messages)

-- none of these stands twice
abbrev pub HasNoRepeats : List UnitId → Type 0
HasNoRepeats ids = (i j : ℕ) (id : UnitId) → slice_get ids i ≡ Some id → slice_get ids j ≡ Some id → i ≡ j

-- a check after another: the report is that of a fresh check of the files that are present; in that, each obligation of
-- each unit is reported just where it does not hold; and it examines just the units of new and changed files, and those
-- of whose reads at the last completed check some key has another answer now, each once
pub record IsExact (options : Options) (last present : List File) (report : Report) (ids : List UnitId) : Type 0 where
  pub is_fresh : report ≡ fresh options present
  pub is_listed : (unit : FileUnit) → IsFoundAsListed options present unit
  pub are_the_affected : (id : UnitId) → Contains ids id ↔ IsAffected options last present id
  pub have_no_repeats : HasNoRepeats ids
