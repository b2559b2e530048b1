use Rattle.std.proofs.Common.{◌≡◌, map, take}
use Rattle.pyc_reuse.specs.FileStatuses.{file_status_in, nothing_from}
use Rattle.pyc_reuse.proofs.file_status.are_in_place.Given as goal

-- those so far stand where they stood, and nothing is to be done for them
abbrev pub invariant-loop-index : goal.invariant-loop-index
invariant-loop-index l = map file_status_in (take l.index l.list) ≡ nothing_from 0 l.index
