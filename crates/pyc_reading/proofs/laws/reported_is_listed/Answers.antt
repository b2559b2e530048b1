use Rattle.pyc_reading.proofs.ListingLemmas.{reports, each_is_listed}
use Rattle.pyc_reading.proofs.laws.reported_is_listed.Goals as goal

pub returns-clause-reported : goal.returns-clause-reported
returns-clause-reported c = λ answers r. reports answers r

pub returns-clause-each : goal.returns-clause-each
returns-clause-each c = λ answers r. each_is_listed answers r
