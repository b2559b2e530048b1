use Rattle.std.proofs.Common.{◌≡◌, ◌∷◌, [], ◌++◌, map, sym, ◌∙◌, refl, rules}
use Rattle.std.proofs.lemmas.List.{map-append}
use Rattle.pyc_ast.specs.StatementView.{parameter_of}
use Rattle.pyc_body_context.specs.Views.{body_in}
use Rattle.pyc_functions.specs.Parameters.{parameter_read, parameters_read}
use Rattle.pyc_functions.specs.Views.{parameter_type_in}
use Rattle.pyc_reading.proofs.RunLemmas.{one_turn, grown_trans}
use Rattle.pyc_type_forms.specs.declared.types.Params.TheFolds.{the_lemmas}
use Rattle.pyc_type_forms.specs.declared.types.Ty.TheVariants as ty
use Rattle.pyc_type_forms.specs.Types.{any}
use Rattle.pyc_type_forms.specs.TypeView.{ty_of}
use Rattle.pyc_functions.proofs.function_reader.FunctionReader.read_parameters.Goals as goal

pub loop-parameter-preserved : goal.loop-parameter-preserved
unfolding parameters_read
loop-parameter-preserved g c =
    let outside = body_in c.args.self.now.outside in
    let on = ty_of c.loop-parameter.called_on in
    let before = map parameter_type_in c.loop-parameter.found.items in
    let nothing : ty_of ty.Any ≡ any = search (rules, the_lemmas) in
    record {
      same =
          rw (nothing, c.in_ok-push.ensures.items, map-append)
          (sym (one_turn (λ ps. parameters_read outside on before (map parameter_of ps)) (λ p. parameter_read outside on (parameter_of p)) (λ inside ps. parameters_read outside any (before ++ (inside ∷ [])) (map parameter_of ps)) (λ x xs. refl) c.args.parameters.now c.loop-parameter.parameter-index _ _ _ _ c.loop-parameter-test.true c.parameter-item.is c.in_ok-inside.ensures.done)
          ∙ c.loop-parameter.invariant.same);
      grown = grown_trans c.loop-parameter.invariant.grown c.read_parameter.ensures.grown;
    }
