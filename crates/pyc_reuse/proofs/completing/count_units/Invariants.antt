use Rattle.std.proofs.Common.{◌≡◌, ◌+◌, drop, length}
use Rattle.pyc_workspace.specs.Files.{files_in}
use Rattle.pyc_workspace.specs.Fresh.{units_of}
use Rattle.pyc_reuse.proofs.completing.count_units.Given as goal

-- the number so far, with that of the units of the files that are left, is the whole
abbrev pub invariant-loop-file : goal.invariant-loop-file
invariant-loop-file l = l.count + length (units_of (files_in (drop l.file-index l.files))) ≡ length (units_of (files_in l.files))
