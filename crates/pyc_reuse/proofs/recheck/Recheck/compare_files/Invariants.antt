use Rattle.std.proofs.Common.{◌≡◌, map, take}
use Rattle.pyc_reuse.specs.RecheckView.{last_in, options_in, present_in}
use Rattle.pyc_reuse.specs.FileStatuses.{file_status_in, file_status_of}
use Rattle.pyc_known_answers.specs.ChangedKeysView.{first_in, held_in, second_in}
use Rattle.pyc_reuse.proofs.recheck.Recheck.compare_files.Given as goal

-- that is to be done so far, and the verdicts are over the same keys and worlds
abbrev pub invariant-loop-place : goal.invariant-loop-place
invariant-loop-place l = record {
  file_status : map file_status_in l.list.items ≡ map (file_status_of (options_in l.self) (last_in l.self) (present_in l.self)) (take l.place-index (present_in l.self));
  held : held_in l.changed_keys ≡ held_in l.fn.changed_keys;
  first : first_in l.changed_keys ≡ first_in l.fn.changed_keys;
  second : second_in l.changed_keys ≡ second_in l.fn.changed_keys;
}
