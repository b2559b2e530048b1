use Rattle.pyc_obligations.proofs.OwingLemmas.{judge_assignable_done}
use Rattle.pyc_type_forms.specs.TypeView.{ty_of}
use Rattle.pyc_obligations.proofs.judging.judge_assignable.Goals as goal

pub returns : goal.returns
returns g c = record {
  done = judge_assignable_done (ty_of c.args.got.now) (ty_of c.args.want.now) _ _ _ c.in_ok-ask_types.ensures.done c.ask_types.ensures.grown.answers c.is_assignable.ensures;
  grown = c.ask_types.ensures.grown;
}
