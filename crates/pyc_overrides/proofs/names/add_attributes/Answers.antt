use Rattle.std.proofs.Common.{◌∙◌}
use Rattle.pyc_members.specs.Attributes.{SelfAttribute}
use Rattle.pyc_members.specs.AttributeView.{attribute_of}
use Rattle.pyc_overrides.proofs.NameLemmas.{name_turn}
use Rattle.pyc_overrides.proofs.names.add_attributes.Goals as goal

pub loop-attribute-preserved : goal.loop-attribute-preserved
loop-attribute-preserved c =
    name_turn attribute_of (λ (a : SelfAttribute). a.name) c.loop-attribute.names.keys c.insert.new.self.keys c.args.attributes.now c.loop-attribute.attribute-index c.attribute-item.result c.in_ok-clone.field-0
    c.loop-attribute-test.true c.attribute-item.is c.in_ok-clone.ensures.cases c.in_ok-insert.ensures.keys
    ∙ c.loop-attribute.invariant
