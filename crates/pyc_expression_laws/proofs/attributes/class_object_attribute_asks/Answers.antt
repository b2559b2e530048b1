use Rattle.pyc_expression_laws.proofs.AttributeLemmas.{class_object_attribute_asks}
use Rattle.pyc_expression_laws.proofs.attributes.class_object_attribute_asks.Goals as goal

pub returns : goal.returns
returns c = class_object_attribute_asks
