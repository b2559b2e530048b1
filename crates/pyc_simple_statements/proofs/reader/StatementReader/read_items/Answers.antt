use Rattle.std.proofs.Common.{◌∙◌}
use Rattle.pyc_body_context.specs.Views.{body_in}
use Rattle.pyc_locals.specs.Views.{flow_state_in}
use Rattle.pyc_reading.proofs.RunLemmas.{grown_trans}
use Rattle.pyc_simple_statements.proofs.Turns.{item_turn}
use Rattle.pyc_simple_statements.proofs.reader.StatementReader.read_items.Goals as goal

pub loop-item-preserved : goal.loop-item-preserved
loop-item-preserved g c = record {
  same =
      item_turn (body_in c.args.self.now.body.now) c.args.items.now c.loop-item.item-index c.item-item.result (flow_state_in c.loop-item.flow_state) _ _ _ c.loop-item-test.true c.item-item.is c.in_ok-read_item.ensures.done
      ∙ c.loop-item.invariant.same;
  grown = grown_trans c.loop-item.invariant.grown c.read_item.ensures.grown;
}
