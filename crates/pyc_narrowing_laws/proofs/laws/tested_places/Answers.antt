use Rattle.pyc_narrowing_laws.proofs.TestLemmas.{comparison_keeps, instance_test_keeps, truth_keeps}
use Rattle.pyc_narrowing_laws.proofs.laws.tested_places.Goals as goal

pub returns-clause-truth : goal.returns-clause-truth
returns-clause-truth c = truth_keeps

pub returns-clause-none : goal.returns-clause-none
returns-clause-none c = comparison_keeps

pub returns-clause-instances : goal.returns-clause-instances
returns-clause-instances c = instance_test_keeps
