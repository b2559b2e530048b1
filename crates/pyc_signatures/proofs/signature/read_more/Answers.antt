use Rattle.std.proofs.lemmas.Grind.{common_steps}
use Rattle.pyc_signatures.proofs.Steps.{performing}
use Rattle.std.proofs.Common.{◌∷◌, [], ◌++◌, map, sym, ◌∙◌, refl, arith, rules}
use Rattle.std.proofs.lemmas.List.{map-append}
use Rattle.pyc_ast.specs.StatementView.{parameter_of}
use Rattle.pyc_names.specs.InterfaceView.{interface_in}
use Rattle.pyc_reading.proofs.RunLemmas.{one_turn, grown_trans}
use Rattle.pyc_signatures.specs.Signatures.{more_params, parameter_reading}
use Rattle.pyc_type_forms.specs.Types.{any}
use Rattle.pyc_type_forms.specs.TypeView.{param_of}
use Rattle.pyc_signatures.proofs.signature.read_more.Goals as goal

pub loop-parameter-preserved : goal.loop-parameter-preserved
unfolding more_params
loop-parameter-preserved g c =
    let file = interface_in c.args.file.now in
    let before = map param_of c.loop-parameter.params.items in
    record {
      same =
          rw (c.in_ok-push.ensures.items, map-append)
          (sym (one_turn (λ ps. more_params file before (map parameter_of ps)) (λ p. parameter_reading file any (parameter_of p)) (λ param ps. more_params file (before ++ (param ∷ [])) (map parameter_of ps)) (λ x xs. refl) c.args.parameters.now c.loop-parameter.parameter-index _ _ _ _ c.loop-parameter-test.true c.parameter-item.is c.in_ok-param.ensures.done)
          ∙ c.loop-parameter.invariant.same);
      grown = grown_trans c.loop-parameter.invariant.grown c.read_later_parameter.ensures.grown;
    }

pub returns-in_err-param : goal.returns-in_err-param
unfolding more_params
returns-in_err-param g c = first_of (grind (arith, performing), search rules)

pub returns-in_err-push : goal.returns-in_err-push
unfolding more_params
returns-in_err-push g c = first_of (grind (arith, performing), search rules)

pub loop-parameter-init : goal.loop-parameter-init
unfolding more_params
loop-parameter-init g c = first_of (grind (arith, performing), search rules)

pub returns : goal.returns
unfolding more_params
returns g c = first_of (grind (arith, common_steps, performing), search rules)
