use Rattle.pyc_interfaces.specs.HomeView.{look_in}
use Rattle.pyc_interfaces.proofs.ChangedRows.{alone_noted, alone_done}
use Rattle.pyc_interfaces.proofs.home.Home.note_all.Goals as goal

pub loop-item-preserved : goal.loop-item-preserved
loop-item-preserved g c =
    alone_noted g.T.Named.name_in g.T.Named.same (look_in c.args.self.now) _ _ _ _ c.args.items.now c.loop-item.item-index c.item-item.result c.loop-item-test.true c.item-item.is c.name.ensures c.in_ok-note.ensures c.loop-item.invariant

pub returns : goal.returns
returns g c =
    alone_done g.T.Named.name_in g.T.Named.same (look_in c.args.self.now) _ _ c.args.items.now c.loop-item.item-index c.loop-item-test.false c.loop-item.invariant
