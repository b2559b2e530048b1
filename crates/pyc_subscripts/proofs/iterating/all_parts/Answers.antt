use Rattle.std.proofs.lemmas.Grind.{common_steps}
use Rattle.pyc_subscripts.proofs.Steps.{performing}
use Rattle.std.proofs.Common.{◌∷◌, [], ◌++◌, map, sym, ◌∙◌, refl, arith, rules}
use Rattle.std.proofs.lemmas.List.{map-append}
use Rattle.pyc_subscripts.specs.Iteration.{infer_more_parts, union_part}
use Rattle.pyc_reading.proofs.RunLemmas.{one_turn, grown_trans}
use Rattle.pyc_type_forms.specs.TypeView.{ty_of}
use Rattle.pyc_subscripts.proofs.iterating.all_parts.Goals as goal

pub loop-item-preserved : goal.loop-item-preserved
unfolding infer_more_parts
loop-item-preserved g c =
    let at = c.args.at in
    let whole = ty_of c.args.whole.now in
    let before = map ty_of c.loop-item.found.items in
    record {
      same =
          rw (c.in_ok-push.ensures.items, map-append)
          (sym (one_turn (λ xs. infer_more_parts at whole before (map ty_of xs)) (λ x. union_part at whole (ty_of x)) (λ ty xs. infer_more_parts at whole (before ++ (ty ∷ [])) (map ty_of xs)) (λ x xs. refl) c.args.items.now c.loop-item.item-index _ _ _ _ c.loop-item-test.true c.item-item.is c.in_ok-part.ensures.done)
          ∙ c.loop-item.invariant.same);
      grown = grown_trans c.loop-item.invariant.grown c.union_part.ensures.grown;
    }

pub returns-in_err-found : goal.returns-in_err-found
unfolding infer_more_parts
returns-in_err-found g c = first_of (grind (arith, performing), search rules)

pub returns-in_err-part : goal.returns-in_err-part
unfolding infer_more_parts
returns-in_err-part g c = first_of (grind (arith, performing), search rules)

pub returns-in_err-push : goal.returns-in_err-push
unfolding infer_more_parts
returns-in_err-push g c = first_of (grind (arith, performing), search rules)

pub loop-item-init : goal.loop-item-init
unfolding infer_more_parts
loop-item-init g c = first_of (grind (arith, performing), search rules)

pub returns : goal.returns
unfolding infer_more_parts
returns g c = first_of (grind (arith, common_steps, performing), search rules)
