-- Why a command is refused.
use Rattle.std.specs.Prelude.{ℕ, Bool, false, not, nat_lt, if◌then◌else◌, List, [], ◌∷◌, length, take, drop, codes}
use Rattle.std.specs.Prelude.{Option, None, Some}
use Rattle.pyc_session.specs.declared.refusal.Refusal.{Refusal}
use Rattle.pyc_session.specs.declared.refusal.Refusal.TheVariants as refusal
use Rattle.pyc_session.specs.declared.keep.Keep.{Keep}
use Rattle.pyc_session.specs.declared.keep.Keep.TheVariants as keep
use Rattle.pyc_session.specs.Limits.{largest_file, most_files}
use Rattle.pyc_workspace.specs.Path.{is_file_path}
use Rattle.pyc_workspace.specs.Workspace.{File, has_file, is_module_taken}

-- the reply of a refused command
abbrev pub refusal_text : Refusal → List ℕ
refusal_text refusal.Command = codes "refused 1 command\n"
refusal_text refusal.Path = codes "refused 2 path\n"
refusal_text refusal.Present = codes "refused 3 present\n"
refusal_text refusal.Absent = codes "refused 4 absent\n"
refusal_text refusal.Large = codes "refused 5 large\n"
refusal_text refusal.Many = codes "refused 6 many\n"
refusal_text refusal.Module = codes "refused 7 module\n"
refusal_text refusal.Truncated = codes "refused 8 truncated\n"
refusal_text refusal.Memory = codes "refused 9 memory\n"
refusal_text refusal.Unreadable = codes "refused 10 unreadable\n"

-- a reason to refuse a command, and whether it stands
pub record Reason : Type 0 where
  pub stands : Bool
  pub refusal : Refusal

-- the first reason that stands
abbrev pub first_standing : List Reason → Option Refusal
first_standing [] = None
first_standing (reason ∷ reasons) = if reason.stands then Some reason.refusal else first_standing reasons

-- a new file is of a path that is not present, another of one that is
abbrev pub presence : Keep → List File → List ℕ → Reason
presence keep.Add files path = record { stands = has_file files path; refusal = refusal.Present }
presence keep.Change files path = record { stands = not (has_file files path); refusal = refusal.Absent }

-- what a new file needs besides: a module of its own, and room for one more file
abbrev pub room : Keep → List File → List ℕ → List Reason
room keep.Add files path =
    record { stands = is_module_taken files path; refusal = refusal.Module }
    ∷ record { stands = not (nat_lt (length files) most_files); refusal = refusal.Many } ∷ []
room keep.Change files path = []

-- Why a file of this path and size is not kept so among these files: the reasons, in the order in which they are
-- reported. `wanting` is whether memory is refused. The first three are reported before the name of the module is
-- formed.
unfoldable pub reasons : Keep → List File → List ℕ → ℕ → Bool → List Reason
reasons how files path size wanting =
    record { stands = not (is_file_path path); refusal = refusal.Path }
    ∷ record { stands = nat_lt largest_file size; refusal = refusal.Large }
    ∷ presence how files path
    ∷ record { stands = wanting; refusal = refusal.Memory }
    ∷ room how files path

-- the first reason that stands, of all
abbrev pub keep_refusal : Keep → List File → List ℕ → ℕ → Bool → Option Refusal
keep_refusal how files path size wanting = first_standing (reasons how files path size wanting)

-- of those that are reported before the name of the module is formed, for which no memory is needed
abbrev pub early_refusal : Keep → List File → List ℕ → ℕ → Option Refusal
early_refusal how files path size = first_standing (take 3 (reasons how files path size false))

-- of those that are reported then
abbrev pub late_refusal : Keep → List File → List ℕ → ℕ → Bool → Option Refusal
late_refusal how files path size wanting = first_standing (drop 3 (reasons how files path size wanting))

-- why no file of this path is removed
unfoldable pub remove_refusal : List File → List ℕ → Option Refusal
remove_refusal files path = first_standing
    (record { stands = not (is_file_path path); refusal = refusal.Path }
    ∷ record { stands = not (has_file files path); refusal = refusal.Absent } ∷ [])

-- how bytes that a source hands over are kept: a file that is present is changed, another added
abbrev pub kept_as : List File → List ℕ → Keep
kept_as files path = if has_file files path then keep.Change else keep.Add
