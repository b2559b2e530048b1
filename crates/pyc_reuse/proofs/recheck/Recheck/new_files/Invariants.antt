use Rattle.std.proofs.Common.{◌≡◌, map, take}
use Rattle.pyc_reuse.specs.FileStatuses.{kept_file_status, file_status_in}
use Rattle.pyc_reuse.proofs.recheck.Recheck.new_files.Given as goal

abbrev pub invariant-loop-place : goal.invariant-loop-place
invariant-loop-place l = map file_status_in l.list.items ≡ map kept_file_status (take l.place-index l.places)
