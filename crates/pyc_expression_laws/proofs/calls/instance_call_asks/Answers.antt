use Rattle.pyc_expression_laws.proofs.CallLemmas.{instance_call_asks}
use Rattle.pyc_expression_laws.proofs.calls.instance_call_asks.Goals as goal

pub returns : goal.returns
returns c = instance_call_asks
