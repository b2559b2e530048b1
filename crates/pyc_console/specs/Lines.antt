-- The lines that the program writes on standard error, and how far a text is written.
use Rattle.std.specs.Prelude.{◌≡◌, ℕ, Bool, true, false, List, [], ◌++◌, codes, Option}
use Rattle.std.specs.Io.KnownBytes.{Appends}
use Rattle.pyc_daemon.specs.Counted.{IsSound, FailsOnce}
use Rattle.pyc_daemon.specs.declared.counted.Counted.{Counted}
use Rattle.pyc_daemon.specs.Replies.{WritesPart}
use Rattle.pyc_session.specs.Ending.{run_fault_text}
use Rattle.pyc_session.specs.Refusal.{refusal_text}
use Rattle.pyc_session.specs.declared.ending.RunFault.{RunFault}
use Rattle.pyc_session.specs.declared.refusal.Refusal.{Refusal}

-- a line of the program about something
abbrev pub program_line : List ℕ → List ℕ
program_line text = codes "dmypy: " ++ text

-- the line on a file that is refused, `dmypy: FILE: refused K NAME`
abbrev pub refusal_line : List ℕ → Refusal → List ℕ
refusal_line path why = program_line (path ++ (codes ": " ++ refusal_text why))

-- the line on a fault of an input or an output, `dmypy: TEXT`
abbrev pub fault_line : RunFault → List ℕ
fault_line why = program_line (run_fault_text why ++ codes "\n")

-- a text was written in part: just one write failed, and what was written begins the text, which is not empty
pub record BreaksOff {W : Type 0} (writer writer' : Counted W) (reported reported' : Option (List ℕ)) (text : List ℕ)
    : Type 0 where
  pub fails : FailsOnce writer writer'
  pub part : WritesPart reported reported' text
  pub some : text ≡ [] → ⊥

-- what was written of a text, by whether a write failed: a part of it, or else the whole text
abbrev pub Writes : {W : Type 0} → Bool → Counted W → Counted W → Option (List ℕ) → Option (List ℕ) → List ℕ → Type 0
Writes false writer writer' reported reported' text = IsSound writer writer' × Appends reported reported' text
Writes true writer writer' reported reported' text = BreaksOff writer writer' reported reported' text
