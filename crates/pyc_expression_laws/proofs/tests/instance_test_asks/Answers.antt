use Rattle.pyc_expression_laws.proofs.TestLemmas.{instance_test_asks}
use Rattle.pyc_expression_laws.proofs.tests.instance_test_asks.Goals as goal

pub returns : goal.returns
returns c = instance_test_asks
