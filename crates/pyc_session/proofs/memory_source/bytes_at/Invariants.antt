use Rattle.std.proofs.Common.{◌≡◌, map, drop}
use Rattle.pyc_session.specs.MemorySource.{bytes_at, file_in}
use Rattle.pyc_session.proofs.memory_source.bytes_at.Given as goal

-- the files from here on serve the path as all of them do
abbrev pub invariant-loop-name : goal.invariant-loop-name
invariant-loop-name l = bytes_at (map file_in (drop l.name-index l.files)) l.path ≡ bytes_at (map file_in l.files) l.path
