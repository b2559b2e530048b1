use Rattle.pyc_unit_laws.proofs.FunctionLemmas.{parameter_asks}
use Rattle.pyc_unit_laws.proofs.functions.parameter_asks.Goals as goal

pub returns : goal.returns
returns c = parameter_asks
