-- What a check of files prints, what it reports on standard error, and the status that it ends with.
use Rattle.std.specs.Prelude.{◌≡◌, ◌≢◌, ◌⊎◌, All, ℕ, Bool, true, false, if◌then◌else◌, List, [], ◌∷◌, ◌++◌}
use Rattle.std.specs.Prelude.{Option, None, Some, option_map, option_and_then, Result, Ok, Err}
use Rattle.std.specs.Io.KnownBytes.{Appends}
use Rattle.pyc_daemon.specs.declared.counted.Counted.{Counted}
use Rattle.pyc_iface.specs.declared.options.Options.{Options}
use Rattle.pyc_report.specs.Report.{Report}
use Rattle.pyc_session.specs.Entry.{Entry}
use Rattle.pyc_session.specs.Event.{Event, Links}
use Rattle.pyc_session.specs.Refusal.{refusal_text}
use Rattle.pyc_session.specs.Session.{updated}
use Rattle.pyc_session.specs.State.{State, start}
use Rattle.pyc_session.specs.declared.ending.RunFault.TheVariants as run_fault
use Rattle.pyc_session.specs.declared.refusal.Refusal.{Refusal}
use Rattle.pyc_session.specs.declared.refusal.Refusal.TheVariants as refusal
use Rattle.pyc_workspace.specs.Fresh.{fresh}
use Rattle.pyc_workspace.specs.Workspace.{taken}
use Rattle.pyc_console.specs.declared.checking.CheckFault.{CheckFault}
use Rattle.pyc_console.specs.declared.checking.CheckFault.TheVariants as check_fault
use Rattle.pyc_console.specs.Lines.{Writes, fault_line, program_line, refusal_line}

-- a file that is refused, and why
pub record RefusedFile : Type 0 where
  pub path : List ℕ
  pub refusal : Refusal

-- a file, if it is refused
abbrev pub refused_file : List ℕ → Option Refusal → List RefusedFile
refused_file path None = []
refused_file path (Some why) = record { path = path; refusal = why } ∷ []

-- what updates of files came to: the files that are refused, in order, and the state after them
pub record UpdatedFiles : Type 0 where
  pub refused : List RefusedFile
  pub state : State

-- a file that is refused, if it is, comes before those after it
abbrev pub before_others : List ℕ → Option Refusal → UpdatedFiles → UpdatedFiles
before_others path reported later = record later { refused = refused_file path reported ++ later.refused }

-- the updates of these files, one for each event; absent where an event does not fit its update, or where there are not
-- as many events as files
abbrev pub updated_files : State → List (List ℕ) → List Event → Option UpdatedFiles
updated_files s [] [] = Some (record { refused = []; state = s })
updated_files s [] (event ∷ events) = None
updated_files s (path ∷ paths) [] = None
updated_files s (path ∷ paths) (event ∷ events) = option_and_then
    (λ outcome. option_map (before_others path outcome.refusal) (updated_files outcome.state paths events))
    (updated s path event)

-- the lines on the files that are refused
abbrev pub refusal_lines : List RefusedFile → List ℕ
refusal_lines [] = []
refusal_lines (file ∷ files) = refusal_line file.path file.refusal ++ refusal_lines files

-- whether a file is refused
abbrev pub is_any : List RefusedFile → Bool
is_any [] = false
is_any (file ∷ files) = true

-- the report on the files that are accepted
abbrev pub accepted_report : UpdatedFiles → Report
accepted_report done = fresh done.state.options (taken done.state.present)

-- the status of a report that was printed: 2 where a file is refused, else 0 where it is clean, and 1 where it is not
abbrev pub report_status : Report → Bool → ℕ
report_status report refused = if refused then 2 else if report.clean then 0 else 1

-- the line on why a report was not printed, or in part alone
abbrev pub check_fault_line : CheckFault → List ℕ
check_fault_line check_fault.Memory = program_line (refusal_text refusal.Memory)
check_fault_line check_fault.Write = fault_line run_fault.Write

-- that line, if the check met a fault
abbrev pub end_line : Result ℕ CheckFault → List ℕ
end_line (Ok status) = []
end_line (Err fault) = check_fault_line fault

-- what goes to the error output: the lines on the files that are refused, and the one on the report
abbrev pub err_text : UpdatedFiles → Result ℕ CheckFault → List ℕ
err_text done answer = refusal_lines done.refused ++ end_line answer

-- The error output has a line on each file of these that is refused for want of memory: what was written there begins
-- with the lines on the first of them, and none of the others is refused for that.
pub record TellsMemory (reported reported' : Option (List ℕ)) (files : List RefusedFile) : Type 0 where
  pub told : List RefusedFile
  pub others : List RefusedFile
  pub parts : files ≡ told ++ others
  pub later : List ℕ
  pub appends : Appends reported reported' (refusal_lines told ++ later)
  pub no_memory : All (λ (file : RefusedFile). file.refusal ≢ refusal.Memory) others

-- What was done to the output, whose known bytes are `printed`, for a report: it was written whole, and the status is
-- its; or nothing was done; or it was written in part.
abbrev pub Prints : {O : Type 0} → Result ℕ CheckFault → Report → Bool → Counted O → Counted O → Option (List ℕ)
    → Option (List ℕ) → Type 0
Prints (Ok status) report refused out out' printed printed' =
    (status ≡ report_status report refused) × Writes false out out' printed printed' report.text
Prints (Err check_fault.Memory) report refused out out' printed printed' = (out' ≡ out) × (printed' ≡ printed)
Prints (Err check_fault.Write) report refused out out' printed printed' =
    Writes true out out' printed printed' report.text

-- what a check meets outside: the source, the output, the error output, and the known bytes of these two
pub record Outside (S O E : Type 0) : Type 0 where
  pub source : S
  pub out : Counted O
  pub err : Counted E
  pub printed : Option (List ℕ)
  pub reported : Option (List ℕ)

abbrev pub outside :
    {S O E : Type 0} → S → Counted O → Counted E → Option (List ℕ) → Option (List ℕ) → Outside S O E
outside source out err printed reported =
    record { source = source; out = out; err = err; printed = printed; reported = reported }

-- A check of files, by what a fetch does to a source (`step`): `events` is what the updates met, one event a file. All
-- files are updated and the report is printed, also where a write to the error output failed (`failed`); but where a
-- file is refused for want of memory and its line was not written, the check is, and no report is printed.
pub record Checks {S O E : Type 0} (step : S → List ℕ → Entry → S → Type 0) (options : Options)
    (before after : Outside S O E) (paths : List (List ℕ)) (result : Result ℕ CheckFault) (failed : Bool)
    : Type 0 where
  pub events : List Event
  pub reached : UpdatedFiles
  pub reaches : updated_files (start options) paths events ≡ Some reached
  pub links : Links step before.source events after.source
  pub prints :
      Prints result (accepted_report reached) (is_any reached.refused) before.out after.out before.printed after.printed
  pub reports : Writes failed before.err after.err before.reported after.reported (err_text reached result)
  pub told : (result ≡ Err check_fault.Memory) ⊎ TellsMemory before.reported after.reported reached.refused

-- the status that the program ends with: 2 also where the report was not printed, or in part alone
abbrev pub exit_status : Result ℕ CheckFault → ℕ
exit_status (Ok status) = status
exit_status (Err fault) = 2
