use Rattle.pyc_known_answers.proofs.KnownLemmas.{stay_with_more_keys, stay_with_fewer_keys, stay_without_one}
use Rattle.pyc_known_answers.proofs.laws.known_answers_stay.Goals as goal

pub returns-clause-more : goal.returns-clause-more
returns-clause-more c = stay_with_more_keys

pub returns-clause-fewer : goal.returns-clause-fewer
returns-clause-fewer c = stay_with_fewer_keys

pub returns-clause-one : goal.returns-clause-one
returns-clause-one c = stay_without_one
