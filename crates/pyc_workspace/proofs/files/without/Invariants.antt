use Rattle.std.proofs.Common.{◌≡◌, not, take, filter}
use Rattle.indexmap.specs.IndexSet.{contains_text}
use Rattle.pyc_workspace.specs.Files.{files_in}
use Rattle.pyc_workspace.specs.Workspace.{File}
use Rattle.pyc_workspace.proofs.files.without.Given as goal

-- of the files so far those are kept whose paths are not there
abbrev pub invariant-loop-file : goal.invariant-loop-file
invariant-loop-file l =
    files_in l.kept.items ≡ filter (λ (file : File). not (contains_text l.paths file.path)) (files_in (take l.file-index l.files))
