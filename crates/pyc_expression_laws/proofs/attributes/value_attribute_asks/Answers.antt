use Rattle.pyc_expression_laws.proofs.AttributeLemmas.{value_attribute_asks}
use Rattle.pyc_expression_laws.proofs.attributes.value_attribute_asks.Goals as goal

pub returns : goal.returns
returns c = value_attribute_asks
