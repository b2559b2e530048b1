-- What a session meets outside its input, command by command.
use Rattle.std.specs.Prelude.{◌≡◌, ℕ, Bool, List, [], ◌∷◌, Option, None, Some}
use Rattle.pyc_session.specs.Entry.{Entry}

-- a fetch: its path, and what the source handed over
pub record Fetch : Type 0 where
  pub path : List ℕ
  pub entry : Entry

-- what one command met: whether it was answered with want of memory, and what was fetched for it
pub record Event : Type 0 where
  pub wants_memory : Bool
  pub fetched : Option Fetch

-- the source at the fetch of one command, where `step` is what a fetch does to a source; with no fetch it stays
abbrev pub FetchStep : {S : Type 0} → (S → List ℕ → Entry → S → Type 0) → S → Option Fetch → S → Type 0
FetchStep step before None after = after ≡ before
FetchStep step before (Some fetch) after = step before fetch.path fetch.entry after

-- the source at the fetches of all commands, one after another
abbrev pub Links : {S : Type 0} → (S → List ℕ → Entry → S → Type 0) → S → List Event → S → Type 0
Links step before [] after = after ≡ before
Links {S} step before (event ∷ events) after = (between : S) × FetchStep step before event.fetched between
    × Links step between events after
