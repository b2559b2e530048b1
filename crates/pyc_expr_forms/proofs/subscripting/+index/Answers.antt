use Rattle.std.proofs.lemmas.Grind.{common_steps}
use Rattle.pyc_obligations.proofs.Steps.{performing}
use Rattle.std.proofs.Common.{map, ap, ◌∙◌, arith, rules}
use Rattle.std.proofs.lemmas.List.{map_push}
use Rattle.pyc_expr_forms.proofs.Turns.{index_turn}
use Rattle.pyc_places.specs.StateView.{state_of}
use Rattle.pyc_reading.proofs.RunLemmas.{grown_trans}
use Rattle.pyc_type_forms.specs.TypeView.{ty_of}
use Rattle.pyc_expr_forms.proofs.subscripting.+index.Goals as goal

pub index_types-loop-index-preserved : goal.index_types-loop-index-preserved
index_types-loop-index-preserved g t c =
    let types = c.loop-index.types.items in
    record {
      same =
          index_turn (g.P.InferValue.parts c.args.parts.now) (state_of c.args.state.now) (map ty_of types) _ c.args.indices.now c.loop-index.index-index c.index-item.result _ _ _ c.loop-index-test.true c.index-item.is c.in_ok-ty.ensures.done (ap (map ty_of) c.in_ok-push.ensures.items ∙ map_push ty_of types c.in_ok-ty.ty)
          ∙ c.loop-index.invariant.same;
      grown = grown_trans c.loop-index.invariant.grown c.index_type.ensures.grown;
    }

pub indices_type-returns-in_err-types : goal.indices_type-returns-in_err-types
indices_type-returns-in_err-types g t c = first_of (grind (arith, performing), search rules)

pub indices_type-returns : goal.indices_type-returns
indices_type-returns g t c = first_of (grind (arith, performing), search rules)

pub index_types-returns-in_err-types : goal.index_types-returns-in_err-types
index_types-returns-in_err-types g t c = first_of (grind (arith, performing), search rules)

pub index_types-returns-in_err-ty : goal.index_types-returns-in_err-ty
index_types-returns-in_err-ty g t c = first_of (grind (arith, performing), search rules)

pub index_types-returns-in_err-push : goal.index_types-returns-in_err-push
index_types-returns-in_err-push g t c = first_of (grind (arith, performing), search rules)

pub index_types-loop-index-init : goal.index_types-loop-index-init
index_types-loop-index-init g t c = first_of (grind (arith, performing), search rules)

pub index_types-returns : goal.index_types-returns
index_types-returns g t c = first_of (grind (arith, common_steps, performing), search rules)
