use Rattle.pyc_expression_laws.proofs.AttributeLemmas.{module_attribute_asks}
use Rattle.pyc_expression_laws.proofs.attributes.module_attribute_asks.Goals as goal

pub returns : goal.returns
returns c = module_attribute_asks
