use Rattle.pyc_expression_laws.proofs.CallLemmas.{class_call_asks}
use Rattle.pyc_expression_laws.proofs.calls.class_call_asks.Goals as goal

pub returns : goal.returns
returns c = class_call_asks
