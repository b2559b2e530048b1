use Rattle.std.proofs.Common.{map, drop}
use Rattle.pyc_assignments.specs.Assignments.{assign_targets}
use Rattle.pyc_assignments.specs.Views.{outcome_in}
use Rattle.pyc_ast.specs.TargetView.{target_of}
use Rattle.pyc_locals.specs.Views.{flow_state_in}
use Rattle.pyc_reading.specs.Traces.{Going}
use Rattle.pyc_type_forms.specs.TypeView.{ty_of}
use Rattle.pyc_assignments.proofs.assignments.TargetsInTurn.assign_targets.Given as goal

-- what is left to do comes to the same as all
abbrev pub invariant-loop-index : goal.invariant-loop-index
invariant-loop-index g l =
    Going (assign_targets (g.R.InferAssignment.reads l.self.assigner.reader.now) l.self.assigner.at (outcome_in l.self.found.now) l.self.first (ty_of l.ty) l.index (map target_of (drop l.index l.targets)) (flow_state_in l.flow_state)) (g.N.Ask.trace l.recorder)
    (assign_targets (g.R.InferAssignment.reads l.self.assigner.reader.now) l.self.assigner.at (outcome_in l.self.found.now) l.self.first (ty_of l.ty) 0 (map target_of l.targets) (flow_state_in l.fn.flow_state)) (g.N.Ask.trace l.fn.recorder)
