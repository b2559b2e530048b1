use Rattle.std.proofs.Common.{map, drop, ◌+◌, ◌*◌}
use denote.Param.Weighed.{most}
use Rattle.pyc_ast.proofs.target.Target.TheLaws.{the_size}
use Rattle.pyc_ast.proofs.target.TargetElement.TheLaws.{the_size as element_size}
use Rattle.pyc_ast.specs.declared.target.TargetElement.{TargetElement}
use Rattle.pyc_ast.specs.Targets.{target_elements}
use Rattle.pyc_ast.specs.TargetView.{target_element_of}
use Rattle.pyc_body_context.specs.Views.{body_in}
use Rattle.pyc_locals.specs.Views.{flow_state_in}
use Rattle.pyc_reading.specs.Traces.{Going}
use Rattle.pyc_simple_statements.specs.Deleting.{each_deleted}
use Rattle.pyc_simple_statements.proofs.reader.StatementReader.+deleting.Given as goal

-- what is left to do comes to the same as all
abbrev pub invariant-delete_each-loop-element : goal.invariant-delete_each-loop-element
invariant-delete_each-loop-element g l =
    Going (each_deleted (body_in l.self.body.now) (target_elements (map target_element_of (drop l.element-index l.elements))) (flow_state_in l.flow_state)) (g.N.Ask.trace l.recorder)
    (each_deleted (body_in l.self.body.now) (target_elements (map target_element_of l.elements)) (flow_state_in l.fn.flow_state)) (g.N.Ask.trace l.fn.recorder)

abbrev pub decreases-delete : goal.decreases-delete
decreases-delete g l = 2 * the_size l.target.now

abbrev pub decreases-delete_each : goal.decreases-delete_each
decreases-delete_each g l = 2 * most (λ (x : TargetElement). element_size x) l.elements.now + 1
