use Rattle.std.proofs.Common.{rules}
use Rattle.std.proofs.lemmas.Fn.{always_returns_same}
use Rattle.pyc_workspace.specs.Files.{file_in}
use Rattle.pyc_workspace.specs.Workspace.{path_cmp}
use Rattle.pyc_workspace.proofs.WorkspaceLemmas.{searched}
use Rattle.pyc_workspace.proofs.files.place_of.Goals as goal

pub returns : goal.returns
returns c =
    let facts = c.binary_search_by.ensures in
    let by_path = facts.position (λ file. path_cmp (file_in file.value).path c.args.path.now) (always_returns_same _ _ _ (λ a r g called. search rules)) in
    searched (λ file. file_in file.value) c.args.files.now c.requires c.args.path.now _ facts.bound by_path
