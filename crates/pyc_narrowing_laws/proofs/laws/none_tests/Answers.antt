use Rattle.pyc_narrowing_laws.proofs.UnionLemmas.{without_none_keeps, none_keeps}
use Rattle.pyc_narrowing_laws.proofs.laws.none_tests.Goals as goal

pub returns-clause-refused : goal.returns-clause-refused
returns-clause-refused c = without_none_keeps

pub returns-clause-accepted : goal.returns-clause-accepted
returns-clause-accepted c = none_keeps
