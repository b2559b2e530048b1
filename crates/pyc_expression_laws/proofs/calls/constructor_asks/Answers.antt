use Rattle.pyc_expression_laws.proofs.CallLemmas.{constructor_asks}
use Rattle.pyc_expression_laws.proofs.calls.constructor_asks.Goals as goal

pub returns : goal.returns
returns c = constructor_asks
