use Rattle.std.proofs.Common.{map, drop, []}
use Rattle.pyc_attributes.specs.AttributeValues.{item_types}
use Rattle.pyc_reading.specs.Traces.{Going}
use Rattle.pyc_type_forms.specs.TypeView.{ty_of}
use Rattle.pyc_attributes.proofs.values.UnionAttribute.item_types.Given as goal

-- what is left to do comes to the same as all
abbrev pub invariant-loop-item : goal.invariant-loop-item
invariant-loop-item g l =
    Going (item_types l.self.at (ty_of l.self.whole.now) l.self.name.now (map ty_of l.found.items) (map ty_of (drop l.item-index l.items))) (g.N.Ask.trace l.recorder)
    (item_types l.self.at (ty_of l.self.whole.now) l.self.name.now [] (map ty_of l.items)) (g.N.Ask.trace l.fn.recorder)
