use Rattle.std.proofs.Common.{◌∙◌}
use Rattle.pyc_workspace.proofs.WorkspaceLemmas.{has_file-is_ok}
use Rattle.pyc_workspace.proofs.files.Files.contains.Goals as goal

pub returns : goal.returns
returns c = c.is_ok.ensures.value ∙ has_file-is_ok c.args.self.now c.args.path.now c.place_of.result c.place_of.ensures.found c.place_of.ensures.absent
