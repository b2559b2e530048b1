use Rattle.pyc_obligations.proofs.LawLemmas.{reported_where_not_assignable}
use Rattle.pyc_obligations.proofs.laws.reported_where_not_assignable.Goals as goal

pub returns : goal.returns
returns c = reported_where_not_assignable
