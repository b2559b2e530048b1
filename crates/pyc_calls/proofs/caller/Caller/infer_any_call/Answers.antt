use Rattle.pyc_obligations.proofs.Steps.{performing}
use Rattle.std.proofs.Common.{ap, arith, rules}
use Rattle.pyc_arguments.specs.Arguments.{all_read}
use Rattle.pyc_arguments.specs.Views.{args_in}
use Rattle.pyc_calls.proofs.Kept.{any_in}
use Rattle.pyc_calls.specs.Called.{infer_given_call}
use Rattle.pyc_reading.proofs.RunLemmas.{after}
use Rattle.pyc_reading.specs.Readings.{Done}
use Rattle.pyc_type_forms.specs.Types.{any}
use Rattle.pyc_calls.proofs.caller.Caller.infer_any_call.Goals as goal

pub returns : goal.returns
unfolding infer_given_call
returns g c = record {
  done =
      after (all_read (args_in (g.R.InferType.reads c.args.self.now.reader.now) c.args.self.now.arguments.now)) (λ u. Done any) (g.N.Ask.trace c.args.recorder.now) _ _ _ _ c.in_ok-read_all.ensures.done
      (ap (λ ty. (ty, g.N.Ask.trace c.read_all.new.recorder)) any_in);
  grown = c.read_all.ensures.grown;
}

pub returns-in_err-read_all : goal.returns-in_err-read_all
unfolding infer_given_call
returns-in_err-read_all g c = first_of (grind (arith, performing), search rules)
