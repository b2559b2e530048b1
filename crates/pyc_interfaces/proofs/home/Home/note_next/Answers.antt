use Rattle.std.proofs.Common.{◌+◌, sym}
use Rattle.pyc_interfaces.specs.HomeView.{look_in}
use Rattle.pyc_interfaces.proofs.ChangedRows.{after, pair_noted, missing_noted}
use Rattle.pyc_interfaces.proofs.home.Home.note_next.Goals as goal

pub returns-in_ok-note_pair-in-Some : goal.returns-in_ok-note_pair-in-Some
returns-in_ok-note_pair-in-Some g c = λ rest.
    pair_noted g.T.Named.name_in g.T.Named.same (look_in c.args.self.now) _ _ _ _ c.args.item.now c.index-others-place.result rest c.args.others.now _ c.in-Some.place c.name.ensures (sym c.in-Some.ensures.first) c.index-others-place.is (after (c.in-Some.place + 1) c.args.others.now) c.in_ok-note_all-in-Some.ensures c.in_ok-note_pair-in-Some.ensures

pub returns-in_ok-note-in-None : goal.returns-in_ok-note-in-None
returns-in_ok-note-in-None g c = λ rest.
    missing_noted g.T.Named.name_in g.T.Named.same (look_in c.args.self.now) _ _ _ _ c.args.item.now rest c.args.others.now c.name.ensures c.name-in-None.ensures (sym c.in-None.ensures.first) c.in_ok-note-in-None.ensures
