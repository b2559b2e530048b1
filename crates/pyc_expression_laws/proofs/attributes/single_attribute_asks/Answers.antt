use Rattle.pyc_expression_laws.proofs.AttributeLemmas.{single_attribute_asks}
use Rattle.pyc_expression_laws.proofs.attributes.single_attribute_asks.Goals as goal

pub returns : goal.returns
returns c = single_attribute_asks
