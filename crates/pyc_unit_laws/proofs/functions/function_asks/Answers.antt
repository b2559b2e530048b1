use Rattle.pyc_unit_laws.proofs.FunctionLemmas.{function_asks}
use Rattle.pyc_unit_laws.proofs.functions.function_asks.Goals as goal

pub returns : goal.returns
returns c = function_asks
