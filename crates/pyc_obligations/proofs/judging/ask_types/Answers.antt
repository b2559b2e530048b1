use Rattle.pyc_obligations.proofs.OwingLemmas.{asks_pair}
use Rattle.pyc_type_forms.specs.TypeView.{ty_of}
use Rattle.pyc_obligations.proofs.judging.ask_types.Goals as goal

pub returns : goal.returns
returns g c = asks_pair (ty_of c.args.got.now) (ty_of c.args.want.now) _ _ _ _ c.in_ok-ask_written.ensures.done c.ask_written.ensures.grown c.ask_written-2.ensures
