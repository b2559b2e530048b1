use Rattle.pyc_expression_laws.proofs.NameLemmas.{name_asks}
use Rattle.pyc_expression_laws.proofs.names.name_asks.Goals as goal

pub returns : goal.returns
returns c = name_asks
