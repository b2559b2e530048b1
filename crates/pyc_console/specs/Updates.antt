-- What the parts of a check of files do.
use Rattle.std.specs.Prelude.{◌≡◌, ◌≢◌, ℕ, Bool, true, false, not, ◌==◌, ◌&&◌, List, Option, Some, is_some}
use Rattle.pyc_daemon.specs.Counted.{faults_of, zeros_of}
use Rattle.pyc_daemon.specs.declared.counted.Counted.{Counted}
use Rattle.pyc_session.specs.Entry.{Entry}
use Rattle.pyc_session.specs.Event.{Event, Links}
use Rattle.pyc_session.specs.Session.{updated}
use Rattle.pyc_session.specs.State.{State}
use Rattle.pyc_session.specs.declared.refusal.Refusal.{Refusal}
use Rattle.pyc_session.specs.declared.refusal.Refusal.TheVariants.{Memory}
use Rattle.pyc_console.specs.CheckFiles.{RefusedFile, TellsMemory, is_any, refusal_lines, refused_file, updated_files}
use Rattle.pyc_console.specs.Lines.{Writes}

-- whether a write has failed, where none had at first
abbrev pub has_failed : {W : Type 0} → Counted W → Bool
has_failed writer = not ((faults_of writer == 0) && (zeros_of writer == 0))

-- one text more: where a write has failed nothing is done
pub data WritesOn {W : Type 0} (writer writer' : Counted W) (reported reported' : Option (List ℕ)) (text : List ℕ)
    : Type 0 where
  more : faults_of writer ≡ 0 → zeros_of writer ≡ 0 → (failed : Bool) → Writes failed writer writer' reported
      reported' text
      → WritesOn writer writer' reported reported' text
  none : has_failed writer ≡ true → writer' ≡ writer → reported' ≡ reported → WritesOn writer writer' reported
      reported' text

-- The update of one file, from a state to a state: `refused` is whether it was refused. Where a write has failed and it
-- was refused for want of memory, that is `untold`.
pub record UpdatesOne {E : Type 0} (err err' : Counted E) (reported reported' : Option (List ℕ)) (path : List ℕ)
    (s s' : State)
    (event : Event) (refused untold : Bool) : Type 0 where
  pub refusal : Option Refusal
  pub reaches : updated s path event ≡ Some (record { refusal = refusal; state = s' })
  pub reports : WritesOn err err' reported reported' (refusal_lines (refused_file path refusal))
  pub is : refused ≡ is_some refusal
  pub told : untold ≡ false → has_failed err' ≡ true → refusal ≢ Some Memory

-- The updates of files, from a state to a state: `refused` is whether one of them was refused, `untold` whether one was
-- for want of memory whose line was not written, and `failed` whether a write to the error output failed.
pub record UpdatesAll {S E : Type 0} (step : S → List ℕ → Entry → S → Type 0) (source source' : S)
    (err err' : Counted E) (reported reported' : Option (List ℕ)) (s s' : State) (paths : List (List ℕ))
    (refused untold failed : Bool)
    : Type 0 where
  pub events : List Event
  pub files : List RefusedFile
  pub reaches : updated_files s paths events ≡ Some (record { refused = files; state = s' })
  pub links : Links step source events source'
  pub reports : Writes failed err err' reported reported' (refusal_lines files)
  pub is : refused ≡ is_any files
  pub told : untold ≡ false → TellsMemory reported reported' files
