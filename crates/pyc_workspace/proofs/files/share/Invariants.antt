use Rattle.std.proofs.Common.{◌≡◌, take}
use Rattle.pyc_workspace.specs.Files.{files_in}
use Rattle.pyc_workspace.proofs.files.share.Given as goal

abbrev pub invariant-loop-file : goal.invariant-loop-file
invariant-loop-file l = files_in l.shared.items ≡ files_in (take l.file-index l.files)
