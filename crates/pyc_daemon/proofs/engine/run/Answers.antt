use Rattle.pyc_daemon.proofs.Going.{runs_none, replies_ok}
use Rattle.pyc_daemon.proofs.engine.run.Goals as goal

pub returns-in_default-clause-runs : goal.returns-in_default-clause-runs
returns-in_default-clause-runs g c = runs_none _ _ _ _ _

pub returns-in_default-with_capacity-clause-runs : goal.returns-in_default-with_capacity-clause-runs
returns-in_default-with_capacity-clause-runs g c = runs_none _ _ _ _ _

pub returns-clause-replies : goal.returns-clause-replies
returns-clause-replies g c = replies_ok _ _ _ _ _ _ _ _ c.serve_all-answer.result (rw c.new-daemon.ensures at c.serve_all-answer.ensures.runs)
