use Rattle.std.proofs.Common.{map, drop}
use Rattle.pyc_assignments.specs.Assignments.{assign_each}
use Rattle.pyc_assignments.specs.Views.{shares_in}
use Rattle.pyc_ast.specs.Targets.{target_elements}
use Rattle.pyc_ast.specs.TargetView.{target_element_of}
use Rattle.pyc_locals.specs.Views.{flow_state_in}
use Rattle.pyc_reading.specs.Traces.{Going}
use Rattle.pyc_assignments.proofs.assigning.Assigner.+assign_target.Given as goal

-- what is left to do comes to the same as all
abbrev pub invariant-assign_each-loop-index : goal.invariant-assign_each-loop-index
invariant-assign_each-loop-index g l =
    Going (assign_each (g.R.InferAssignment.reads l.self.reader.now) l.self.at (shares_in l.found) l.index (target_elements (map target_element_of (drop l.index l.elements))) (flow_state_in l.flow_state)) (g.N.Ask.trace l.recorder)
    (assign_each (g.R.InferAssignment.reads l.self.reader.now) l.self.at (shares_in l.found) 0 (target_elements (map target_element_of l.elements)) (flow_state_in l.fn.flow_state)) (g.N.Ask.trace l.fn.recorder)
