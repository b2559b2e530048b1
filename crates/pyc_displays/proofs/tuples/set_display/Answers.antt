use Rattle.pyc_obligations.proofs.Steps.{performing}
use Rattle.std.proofs.Common.{map, [], ap, arith, rules}
use Rattle.pyc_ast.specs.ExprView.{element_of}
use Rattle.pyc_displays.specs.Displays.{set_display, types_of}
use Rattle.pyc_displays.proofs.Parts.{any_in}
use Rattle.pyc_reading.proofs.RunLemmas.{after}
use Rattle.pyc_reading.specs.Readings.{Done}
use Rattle.pyc_type_forms.specs.Types.{any}
use Rattle.pyc_displays.proofs.tuples.set_display.Goals as goal

pub returns : goal.returns
unfolding set_display
returns g c = record {
  done =
      after (types_of (g.R.InferType.reads c.args.reader.now) [] (map element_of c.args.items.now)) (λ types. Done any) (g.N.Ask.trace c.args.recorder.now) _ _ _ _ c.in_ok-read_types.ensures.done (ap (λ ty. (ty, g.N.Ask.trace c.read_types.new.recorder)) any_in);
  grown = c.read_types.ensures.grown;
}

pub returns-in_err-read_types : goal.returns-in_err-read_types
unfolding set_display
returns-in_err-read_types g c = first_of (grind (arith, performing), search rules)
