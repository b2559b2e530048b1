use Rattle.pyc_unit_laws.proofs.FunctionLemmas.{end_asks}
use Rattle.pyc_unit_laws.proofs.functions.end_asks.Goals as goal

pub returns : goal.returns
returns c = end_asks
