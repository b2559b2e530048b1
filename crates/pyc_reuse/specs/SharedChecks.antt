-- Shared checks of units, as plain values.
use Rattle.std.specs.Prelude.{ℕ, List, flat_map, map}
use Rattle.std.specs.declared.alloc.Global.{Global}
use Rattle.std.specs.declared.rc.Rc.{Rc}
use Rattle.pyc_recorder.specs.CheckedView.{Checked, checked_in, messages_of, numbers_in}
use Rattle.pyc_recorder.specs.declared.checked.Checked.{Checked as CheckedOf}
use Rattle.pyc_keys.specs.Numbering.{Numbering}
use Rattle.pyc_reading.specs.Keys.{Key}
use Rattle.pyc_report.specs.Message.{Message}

-- the numbers of the keys that were read in them, and what was found
abbrev pub reads_of : List (Rc CheckedOf Global) → List ℕ
reads_of checks = flat_map (λ check. numbers_in check.value) checks

abbrev pub found_of : List (Rc CheckedOf Global) → List Message
found_of checks = flat_map (λ check. messages_of check.value) checks

-- the checks, where numbers stand for these keys
abbrev pub checks_of : Numbering Key → List (Rc CheckedOf Global) → List Checked
checks_of held checks = map (λ check. checked_in held check.value) checks
