use Rattle.std.proofs.Common.{◌≡◌, false, take}
use Rattle.std.specs.List.{list_any}
use Rattle.pyc_workspace.specs.Files.{files_in}
use Rattle.pyc_workspace.specs.Workspace.{is_other_of}
use Rattle.pyc_workspace.proofs.workspace.names_module.Given as goal

-- none of the files so far is one
abbrev pub invariant-loop-file : goal.invariant-loop-file
invariant-loop-file l = list_any (is_other_of l.path) (files_in (take l.file-index l.files)) ≡ false
