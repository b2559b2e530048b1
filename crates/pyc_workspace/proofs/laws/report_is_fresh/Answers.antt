use Rattle.pyc_workspace.proofs.FreshLemmas.{report_is_fresh}
use Rattle.pyc_workspace.proofs.laws.report_is_fresh.Goals as goal

pub returns : goal.returns
returns c = report_is_fresh
