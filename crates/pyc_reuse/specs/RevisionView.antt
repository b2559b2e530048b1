-- What the last completed check left, as plain values.
use Rattle.std.specs.Prelude.{ℕ, List}
use Rattle.pyc_keys.specs.Numbering.{Numbering}
use Rattle.pyc_known_answers.specs.WorldView.{held_by}
use Rattle.pyc_reading.specs.Keys.{Key}
use Rattle.pyc_reuse.specs.declared.kept_results.KeptResults.{KeptResults}
use Rattle.pyc_reuse.specs.declared.last_check.LastCheck.{LastCheck}
use Rattle.pyc_reuse.specs.Revision.{Revision}
use Rattle.pyc_reuse.specs.FileResultView.{reads_in}

abbrev pub revision_kept : KeptResults → Revision
revision_kept kept = record { options = kept.options; files = kept.files; examined = kept.meter }

abbrev pub revision_in : LastCheck → Revision
revision_in last = revision_kept last.kept

-- the keys that it holds, by number
abbrev pub keys_in : LastCheck → Numbering Key
keys_in last = held_by last.keys

-- the numbers of the keys that the rows that it keeps have read
abbrev pub reads_kept : LastCheck → List ℕ
reads_kept last = reads_in last.kept.file_results.items
