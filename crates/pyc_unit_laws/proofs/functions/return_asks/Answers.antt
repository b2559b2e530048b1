use Rattle.pyc_unit_laws.proofs.FunctionLemmas.{return_asks}
use Rattle.pyc_unit_laws.proofs.functions.return_asks.Goals as goal

pub returns : goal.returns
returns c = return_asks
