use Rattle.pyc_type_forms.specs.TypeView.{ty_of}
use Rattle.pyc_types.proofs.Rules.{answer_meets_the_rules}
use Rattle.pyc_types.proofs.assigning.assignable.Goals as goal

pub returns-clause-rules : goal.returns-clause-rules
returns-clause-rules g c =
    answer_meets_the_rules (g.L.Lins.orders c.args.lins.now) (ty_of c.args.got.now) (ty_of c.args.want.now) c.goes.result c.goes.ensures
