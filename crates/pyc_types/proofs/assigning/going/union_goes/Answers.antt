use Rattle.std.proofs.Common.{sym, ◌∙◌}
use Rattle.pyc_type_forms.specs.TypeView.{ty_of, row}
use Rattle.pyc_types.proofs.GoingLemmas.{union_goes}
use Rattle.pyc_types.proofs.assigning.going.union_goes.Goals as goal

pub returns : goal.returns
returns g c = c.each_goes.ensures ∙ sym (union_goes (g.L.Lins.orders c.args.lins.now) (row c.args.items.now) (ty_of c.args.want.now))
