use Rattle.std.proofs.Common.{map, drop}
use Rattle.pyc_ast.specs.StatementView.{with_item_of}
use Rattle.pyc_body_context.specs.Views.{body_in}
use Rattle.pyc_locals.specs.Views.{flow_state_in}
use Rattle.pyc_reading.specs.Traces.{Going}
use Rattle.pyc_simple_statements.specs.Heads.{items_read}
use Rattle.pyc_simple_statements.proofs.reader.StatementReader.read_items.Given as goal

-- what is left to do comes to the same as all
abbrev pub invariant-loop-item : goal.invariant-loop-item
invariant-loop-item g l =
    Going (items_read (body_in l.self.body.now) (map with_item_of (drop l.item-index l.items)) (flow_state_in l.flow_state)) (g.N.Ask.trace l.recorder)
    (items_read (body_in l.self.body.now) (map with_item_of l.items) (flow_state_in l.fn.flow_state)) (g.N.Ask.trace l.fn.recorder)
