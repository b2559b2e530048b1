use Rattle.pyc_expression_laws.proofs.AttributeLemmas.{union_attribute_asks}
use Rattle.pyc_expression_laws.proofs.attributes.union_attribute_asks.Goals as goal

pub returns : goal.returns
returns c = union_attribute_asks
