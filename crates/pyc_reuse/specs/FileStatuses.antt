-- What is to be done for files.
use Rattle.std.specs.Prelude.{◌≡◌, ℕ, zero, suc, ◌+◌, Bool, List, [], ◌∷◌, Option, Some, None, if◌then◌else◌, map}
use Rattle.std.specs.List.{list_any}
use Rattle.pyc_body.specs.FileUnits.{file_units}
use Rattle.pyc_iface.specs.declared.options.Options.{Options}
use Rattle.pyc_reuse.specs.declared.file_status.FileStatus.{FileStatus as FileStatusOf}
use Rattle.pyc_reuse.specs.declared.file_status.FileStatus.TheVariants as declared
use Rattle.pyc_reuse.specs.Examined.{reads_anew}
use Rattle.pyc_reuse.specs.Places.{file_at, place_in}
use Rattle.pyc_workspace.specs.Fresh.{source_of}
use Rattle.pyc_workspace.specs.Workspace.{File}

-- what is to be done for a file
pub data FileStatus : Type 0 where
  -- all its units are examined
  all : FileStatus
  -- what came of it at the last check, at this place, is kept
  nothing : ℕ → FileStatus
  -- what came of it stands at this place; the units are examined again that are flagged
  flagged : ℕ → List Bool → FileStatus

abbrev pub file_status_in : FileStatusOf → FileStatus
file_status_in declared.All = all
file_status_in (declared.Nothing place) = nothing place
file_status_in (declared.Flagged place flags) = flagged place flags.items

-- whether one of these flags is set
abbrev pub is_any : List Bool → Bool
is_any flags = list_any (λ flag. flag) flags

-- what is to be done by flags, where something is flagged
abbrev pub status_by_flags : ℕ → List Bool → FileStatus
status_by_flags place flags = if is_any flags then flagged place flags else nothing place

-- which units of a file read a key that has another answer now
abbrev pub flags_of : Options → (last present : List File) → File → List Bool
flags_of options last present file = map (reads_anew options last present) (file_units (source_of file))

-- what is to be done for a file that stood here, if it is as it was
abbrev pub work_at : Options → (last present : List File) → File → Option ℕ → FileStatus
work_at options last present file None = all
work_at options last present file (Some place) = status_by_flags place (flags_of options last present file)

abbrev pub file_status_of : Options → (last present : List File) → File → FileStatus
file_status_of options last present file = work_at options last present file (place_in last file)

-- what is to be done for the file that stood at this place, if one did
abbrev pub work_from : Options → (last present : List File) → Option ℕ → FileStatus
work_from options last present None = all
work_from options last present (Some place) = status_by_flags place (flags_of options last present (file_at last place))

-- what is to be done for a file where no key has another answer
abbrev pub kept_file_status : Option ℕ → FileStatus
kept_file_status None = all
kept_file_status (Some place) = nothing place

-- nothing is to be done for so many files, the first of which stood at this place
abbrev pub nothing_from : ℕ → ℕ → List FileStatus
nothing_from place zero = []
nothing_from place (suc many) = nothing place ∷ nothing_from (place + 1) many

-- nothing is to be done for so many files, and they stand where they stood
abbrev pub AreInPlace : List FileStatusOf → ℕ → Type 0
AreInPlace list many = map file_status_in list ≡ nothing_from 0 many
