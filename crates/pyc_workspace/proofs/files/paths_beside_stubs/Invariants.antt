use Rattle.std.proofs.Common.{◌≡◌, ℕ, List, take}
use Rattle.std.specs.List.{list_any}
use Rattle.indexmap.specs.IndexSet.{contains_text}
use Rattle.pyc_workspace.specs.Files.{files_in}
use Rattle.pyc_workspace.specs.Workspace.{is_stub_of}
use Rattle.pyc_workspace.proofs.files.paths_beside_stubs.Given as goal

-- those beside the stubs so far are there
abbrev pub invariant-loop-file : goal.invariant-loop-file
invariant-loop-file l =
    (path : List ℕ) → contains_text l.found path ≡ list_any (is_stub_of path) (files_in (take l.file-index l.files))
