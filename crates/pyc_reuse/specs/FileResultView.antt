-- What came of the units of files, as plain values.
use Rattle.std.specs.Prelude.{ℕ, List, flat_map, map}
use Rattle.std.specs.declared.alloc.Global.{Global}
use Rattle.std.specs.declared.rc.Rc.{Rc}
use Rattle.pyc_keys.specs.Numbering.{Numbering}
use Rattle.pyc_reading.specs.Keys.{Key}
use Rattle.pyc_report.specs.Message.{Message}
use Rattle.pyc_reuse.specs.declared.file_result.FileResult.{FileResult as FileResultOf}
use Rattle.pyc_reuse.specs.Revision.{FileResult}
use Rattle.pyc_reuse.specs.SharedChecks.{checks_of, found_of}
use Rattle.pyc_reuse.specs.Shown.{flagged}

-- the messages of a row that no ignore comment suppresses
abbrev pub reported_in : FileResultOf → List Message
reported_in file_result = flagged (found_of file_result.checks.items) file_result.flags.items

-- a row, where numbers stand for these keys
abbrev pub file_result_in : Numbering Key → FileResultOf → FileResult
file_result_in held file_result = record {
  checks = checks_of held file_result.checks.items;
  messages = reported_in file_result;
}

-- shared rows as plain values
abbrev pub file_results_in : Numbering Key → List (Rc FileResultOf Global) → List FileResult
file_results_in held file_results = map (λ file_result. file_result_in held file_result.value) file_results

-- the numbers of the keys that were read in shared rows
abbrev pub reads_in : List (Rc FileResultOf Global) → List ℕ
reads_in file_results = flat_map (λ file_result. file_result.value.reads.items) file_results
