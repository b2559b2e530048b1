use Rattle.pyc_workspace.proofs.WorkspaceLemmas.{has_file-gap}
use Rattle.pyc_workspace.proofs.files.Files.place.Goals as goal

pub returns-in-Err-clause-absent : goal.returns-in-Err-clause-absent
returns-in-Err-clause-absent c = λ e. has_file-gap c.args.self.now c.args.path.now c.in-Err.field-0 c.in-Err.ensures.absent
