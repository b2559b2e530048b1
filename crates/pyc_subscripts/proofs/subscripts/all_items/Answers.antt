use Rattle.std.proofs.lemmas.Grind.{common_steps}
use Rattle.pyc_subscripts.proofs.Steps.{performing}
use Rattle.std.proofs.Common.{map, sym, ◌∙◌, refl, arith, rules}
use Rattle.pyc_ast.specs.ExprView.{index_of}
use Rattle.pyc_subscripts.specs.OwnerView.{items_in}
use Rattle.pyc_subscripts.specs.Subscripts.{more_items, item_of, with_item}
use Rattle.pyc_reading.proofs.RunLemmas.{one_turn, grown_trans}
use Rattle.pyc_type_forms.specs.TypeView.{ty_of}
use Rattle.pyc_subscripts.proofs.subscripts.all_items.Goals as goal

pub loop-ty-preserved : goal.loop-ty-preserved
unfolding more_items
loop-ty-preserved g c =
    let at = c.args.at in
    let index = index_of c.args.index.now in
    let got = ty_of c.args.got.now in
    let before = items_in c.loop-ty.found in
    record {
      same =
          rw c.in_ok-push_item.ensures
          (sym (one_turn (λ xs. more_items at index got before (map ty_of xs)) (λ x. item_of at index got (ty_of x)) (λ item xs. more_items at index got (with_item before item) (map ty_of xs)) (λ x xs. refl) c.args.types.now c.loop-ty.ty-index _ _ _ _ c.loop-ty-test.true c.ty-item.is c.in_ok-item.ensures.done)
          ∙ c.loop-ty.invariant.same);
      grown = grown_trans c.loop-ty.invariant.grown c.item_of.ensures.grown;
    }

pub returns-in_err-with_capacity : goal.returns-in_err-with_capacity
unfolding more_items
returns-in_err-with_capacity g c = first_of (grind (arith, performing), search rules)

pub returns-in_err-item : goal.returns-in_err-item
unfolding more_items
returns-in_err-item g c = first_of (grind (arith, performing), search rules)

pub returns-in_err-push_item : goal.returns-in_err-push_item
unfolding more_items
returns-in_err-push_item g c = first_of (grind (arith, performing), search rules)

pub loop-ty-init : goal.loop-ty-init
unfolding more_items
loop-ty-init g c = first_of (grind (arith, performing), search rules)

pub returns : goal.returns
unfolding more_items
returns g c = first_of (grind (arith, common_steps, performing), search rules)
