use Rattle.std.proofs.Common.{◌∙◌}
use Rattle.pyc_body_context.specs.Views.{body_in}
use Rattle.pyc_locals.specs.Views.{flow_state_in}
use Rattle.pyc_reading.proofs.RunLemmas.{grown_trans}
use Rattle.pyc_simple_statements.proofs.Turns.{element_turn}
use Rattle.pyc_simple_statements.proofs.reader.StatementReader.+deleting.Goals as goal

pub delete_each-loop-element-preserved : goal.delete_each-loop-element-preserved
delete_each-loop-element-preserved g t c = record {
  same =
      element_turn (body_in c.args.self.now.body.now) c.args.elements.now c.loop-element.element-index c.element-item.result (flow_state_in c.loop-element.flow_state) _ _ _ c.loop-element-test.true c.element-item.is c.in_ok-delete.ensures.done
      ∙ c.loop-element.invariant.same;
  grown = grown_trans c.loop-element.invariant.grown c.delete.ensures.grown;
}
