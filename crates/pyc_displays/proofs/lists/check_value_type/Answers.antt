use Rattle.pyc_obligations.proofs.Steps.{performing}
use Rattle.std.proofs.Common.{ap, ◌∙◌, Some, arith, rules}
use Rattle.std.proofs.lemmas.Grind.{common_steps}
use Rattle.pyc_ast.specs.ExprView.{expr_of}
use Rattle.pyc_ast.specs.Exprs.{at_of}
use Rattle.pyc_displays.proofs.Parts.{begins_at}
use Rattle.pyc_displays.specs.Displays.{check_value_type}
use Rattle.pyc_displays.specs.Messages.{required_item}
use Rattle.pyc_reading.proofs.RunLemmas.{after, grown_trans}
use Rattle.pyc_reading.specs.Traces.{required, run}
use Rattle.pyc_type_forms.specs.TypeView.{ty_of}
use Rattle.pyc_displays.proofs.lists.check_value_type.Goals as goal

pub returns : goal.returns
unfolding check_value_type
returns g c =
    let x = expr_of c.args.part.now in
    let want = ty_of c.args.want.now in
    let got = ty_of c.in_ok-got.got in
    record {
      done =
          after (g.R.InferType.reads c.args.reader.now x (Some want)) (λ t. required (required_item (at_of x) c.args.index t want)) (g.N.Ask.trace c.args.recorder.now) _ _ _ _ c.in_ok-got.ensures.done
          (ap (λ at. run (required (required_item at c.args.index got want)) (g.N.Ask.trace c.read.new.recorder)) (begins_at c.args.part.now) ∙ c.in_ok-require.ensures.done);
      grown = grown_trans c.read.ensures.grown c.require.ensures.grown;
    }

pub returns-in_err-got : goal.returns-in_err-got
unfolding check_value_type
returns-in_err-got g c = first_of (grind (arith, performing), search rules)

pub returns-in_err-require : goal.returns-in_err-require
unfolding check_value_type
returns-in_err-require g c = first_of (grind (arith, common_steps, performing), search rules)
