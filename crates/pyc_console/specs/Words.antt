-- The command line of the program.
use Rattle.std.specs.Prelude.{◌≡◌, Bool, true, false, List, [], ◌∷◌, Option, Some, Result, Ok, Err, bytes_eq, codes}
use Rattle.std.specs.Prelude.{map, option_and_then, option_map, string_bytes, unwrap_or, ⊤}
use Rattle.clap.specs.Words.{App, all_of, Row, Rule, Text, new_app, new_rule, one_of, kind_of, subcommand_of, with_rule}
use Rattle.clap.specs.Words.{with_subcommand, HasKind}
use Rattle.clap.specs.declared.builder.action.ArgAction.TheVariants.{Append, SetTrue}
use Rattle.clap.specs.declared.error.kind.ErrorKind.{ErrorKind}
use Rattle.clap.specs.declared.error.kind.ErrorKind.TheVariants.{OutOfMemory}
use Rattle.pyc_iface.specs.declared.options.Options.{Options}
use Rattle.pyc_console.specs.declared.words.Job.{Job}
use Rattle.pyc_console.specs.declared.words.Job.TheVariants.{Session, Check}
use Rattle.pyc_console.specs.declared.words.Usage.{Usage}

-- the names of the two options
abbrev pub ignore_missing_id : Text
ignore_missing_id = codes "ignore-missing-imports"

abbrev pub check_untyped_id : Text
check_untyped_id = codes "check-untyped-defs"

-- an option `--NAME` without a value
abbrev pub flag_rule : Text → Rule
flag_rule name = record (new_rule name) { long = Some name; action = Some SetTrue }

-- the name of the files
abbrev pub files_id : Text
files_id = codes "FILE"

-- one or more words
abbrev pub files_rule : Rule
files_rule = record (new_rule files_id) { action = Some Append; required = true }

-- a subcommand with the two options
abbrev pub optioned_app : Text → App
optioned_app name = with_rule (with_rule (new_app name) (flag_rule ignore_missing_id)) (flag_rule check_untyped_id)

-- `session`
abbrev pub session_app : App
session_app = optioned_app (codes "session")

-- `check` with its files
abbrev pub check_app : App
check_app = with_rule (optioned_app (codes "check")) files_rule

-- the program alone, which wants a subcommand
abbrev pub program_app : App
program_app =
    let plain = new_app (codes "dmypy") in
    record plain { top = record plain.top { subcommand_required = true } }

-- the whole command line
unfoldable pub command_line : App
command_line = with_subcommand (with_subcommand program_app session_app.top) check_app.top

-- what was found for an option of the subcommand: `true` where it was given, else `false`
abbrev pub found_text : Text → Option (Text × List Row) → Option Text
found_text id = option_and_then (λ found. one_of id found.1)

-- what the words of the command line give an option of the subcommand: `true` where it is among them, else `false`
abbrev pub option_text : Text → List Text → Option Text
option_text id words = found_text id (subcommand_of command_line words)

-- the flag is set or not, as the text says
abbrev pub IsFlag : Option Text → Bool → Type 0
IsFlag text flag = (text ≡ Some (codes "true") → flag ≡ true) × (text ≡ Some (codes "false") → flag ≡ false)

-- a session's options; the program reads its input 1,000,000,000 times at most
abbrev pub session_options : Bool → Bool → Options
session_options ignore_missing check_untyped =
    record { ignore_missing = ignore_missing; check_untyped = check_untyped; turns = 1000000000 }

-- the options of a job
abbrev pub options_of : Job → Options
options_of (Session options) = options
options_of (Check options files) = options

-- whether a job is a check
abbrev pub is_check : Job → Bool
is_check (Session options) = false
is_check (Check options files) = true

-- whether the subcommand that was found is `check`
abbrev pub names_check : Option (Text × List Row) → Bool
names_check found = unwrap_or (option_map (λ found. bytes_eq found.0 (codes "check")) found) false

-- what was found for the files of the subcommand
abbrev pub found_files : Option (Text × List Row) → Option (List Text)
found_files found = option_and_then (λ found. all_of files_id found.1) found

-- what the words of the command line give as the files of the subcommand
abbrev pub file_texts : List Text → Option (List Text)
file_texts words = found_files (subcommand_of command_line words)

-- the files of a check are these, or none
abbrev pub HasFiles : Option (List Text) → Job → Type 0
HasFiles texts (Session options) = ⊤
HasFiles texts (Check options files) = map string_bytes files.items ≡ unwrap_or texts []

-- the words after the program's name that ask for a session, and the options that they stand for
abbrev pub session_rows : List (List Text × Options)
session_rows =
    (codes "session" ∷ [], session_options false false)
    ∷ (codes "session" ∷ codes "--ignore-missing-imports" ∷ [], session_options true false)
    ∷ (codes "session" ∷ codes "--check-untyped-defs" ∷ [], session_options false true)
    ∷ (
      codes "session" ∷ codes "--ignore-missing-imports" ∷ codes "--check-untyped-defs"
          ∷ [],
      session_options true true,
    )
    ∷ (
      codes "session" ∷ codes "--check-untyped-defs" ∷ codes "--ignore-missing-imports"
          ∷ [],
      session_options true true,
    )
    ∷ []

-- the answer is a session with these options, unless memory ran out
abbrev pub GivesSession : Options → Result Job Usage → Type 0
GivesSession options (Ok job) = job ≡ Session options
GivesSession options (Err usage) = kind_of usage.0 ≡ OutOfMemory

-- memory ran out, or the error has one of the kinds
abbrev pub HasUsage : List ErrorKind → Usage → Type 0
HasUsage kinds usage = HasKind kinds usage.0
