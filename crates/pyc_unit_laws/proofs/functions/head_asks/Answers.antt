use Rattle.pyc_unit_laws.proofs.FunctionLemmas.{head_asks}
use Rattle.pyc_unit_laws.proofs.functions.head_asks.Goals as goal

pub returns : goal.returns
returns c = head_asks
