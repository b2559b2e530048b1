use Rattle.std.proofs.Common.{◌≡◌, map, take}
use Rattle.pyc_workspace.specs.Files.{files_in}
use Rattle.pyc_workspace.specs.Fresh.{unit_in, units_of}
use Rattle.pyc_workspace.proofs.files.units_of.Given as goal

abbrev pub invariant-loop-file : goal.invariant-loop-file
invariant-loop-file l = map unit_in l.units.items ≡ units_of (files_in (take l.file-index l.files))
