use Rattle.pyc_annotations.proofs.Steps.{performing}
use Rattle.std.proofs.Common.{ap, refl, ◌∙◌, Option, Some, arith, rules}
use Rattle.pyc_annotations.proofs.BaseArguments.{base_of_parts}
use Rattle.pyc_annotations.specs.Bases.{Base, argument_base, base, invalid_base, unnamed, base_of_argument}
use Rattle.pyc_ast.specs.ExprView.{expr_of}
use Rattle.pyc_names.specs.InterfaceView.{interface_in}
use Rattle.pyc_reading.proofs.RunLemmas.{after}
use Rattle.pyc_reading.specs.Traces.{Step, run}
use Rattle.pyc_reading.specs.Readings.{Done}
use Rattle.pyc_annotations.proofs.class_bases.argument_base.Goals as goal

pub returns-in_ok-found-in-Positional : goal.returns-in_ok-found-in-Positional
returns-in_ok-found-in-Positional g c =
    let file = interface_in c.args.file.now in
    let x = c.args.argument.now in
    let trace = g.N.Ask.trace c.args.recorder.now in
    record {
      done =
          ap (λ (r : Step (Option Base)). run r trace) (base_of_parts file x ∙ ap (λ k. argument_base file x.at k (expr_of x.value)) c.in-Positional.is)
          ∙ after (base file (expr_of x.value)) (λ found. Done (Some found)) trace _ _ _ _ c.in_ok-found-in-Positional.ensures.done refl;
      grown = c.read_base.ensures.grown;
    }

pub returns-in_ok-found-in-Starred : goal.returns-in_ok-found-in-Starred
returns-in_ok-found-in-Starred g c =
    let file = interface_in c.args.file.now in
    let x = c.args.argument.now in
    let trace = g.N.Ask.trace c.args.recorder.now in
    record {
      done =
          ap (λ (r : Step (Option Base)). run r trace) (base_of_parts file x ∙ ap (λ k. argument_base file x.at k (expr_of x.value)) c.in-Starred.is)
          ∙ after (invalid_base x.at unnamed) (λ found. Done (Some found)) trace _ _ _ _ c.in_ok-found-in-Starred.ensures.done refl;
      grown = c.invalid_base.ensures.grown;
    }

pub returns-in_err-found-in-Positional : goal.returns-in_err-found-in-Positional
unfolding base_of_argument
returns-in_err-found-in-Positional g c = first_of (grind (arith, performing), search rules)

pub returns-in_err-found-in-Starred : goal.returns-in_err-found-in-Starred
unfolding base_of_argument
returns-in_err-found-in-Starred g c = first_of (grind (arith, performing), search rules)
