use Rattle.std.proofs.Common.{map, drop}
use Rattle.pyc_targets.specs.AttributeTargets.{more_wants, no_wants}
use Rattle.pyc_targets.specs.Views.{wants_in}
use Rattle.pyc_reading.specs.Traces.{Going}
use Rattle.pyc_type_forms.specs.TypeView.{ty_of}
use Rattle.pyc_targets.proofs.attribute_targets.AttributeTarget.all_wants.Given as goal

-- what is left to do comes to the same as all
abbrev pub invariant-loop-item : goal.invariant-loop-item
invariant-loop-item g l =
    Going (more_wants l.self.at l.self.inside (ty_of l.self.whole.now) l.self.name.now (wants_in l.found) (map ty_of (drop l.item-index l.items))) (g.N.Ask.trace l.recorder)
    (more_wants l.self.at l.self.inside (ty_of l.self.whole.now) l.self.name.now no_wants (map ty_of l.items)) (g.N.Ask.trace l.fn.recorder)
