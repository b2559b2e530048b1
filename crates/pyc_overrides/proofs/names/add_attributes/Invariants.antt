use Rattle.std.proofs.Common.{◌≡◌, map, drop}
use Rattle.pyc_members.specs.Attributes.{SelfAttribute}
use Rattle.pyc_members.specs.AttributeView.{attribute_of}
use Rattle.pyc_overrides.specs.Names.{with_names}
use Rattle.pyc_overrides.proofs.names.add_attributes.Given as goal

-- the names so far, with those that are left, are all
abbrev pub invariant-loop-attribute : goal.invariant-loop-attribute
invariant-loop-attribute l =
    with_names l.names.keys (map (λ (a : SelfAttribute). a.name) (map attribute_of (drop l.attribute-index l.attributes)))
    ≡ with_names l.fn.names.keys (map (λ (a : SelfAttribute). a.name) (map attribute_of l.attributes))
