use Rattle.pyc_types.proofs.GoingLemmas.{found_goes}
use Rattle.pyc_types.proofs.assigning.going.is_found_among.Goals as goal

pub returns : goal.returns
returns g c =
    found_goes (g.L.Lins.orders c.args.lins.now) c.args.class.now c.args.others.now c.same_place-found.result c.index-others-found.result
    c.instance_goes_to.result c.same_place-found.ensures c.index-others-found.is c.instance_goes_to.ensures
