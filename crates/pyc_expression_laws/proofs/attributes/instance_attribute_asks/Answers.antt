use Rattle.pyc_expression_laws.proofs.AttributeLemmas.{instance_attribute_asks}
use Rattle.pyc_expression_laws.proofs.attributes.instance_attribute_asks.Goals as goal

pub returns : goal.returns
returns c = instance_attribute_asks
