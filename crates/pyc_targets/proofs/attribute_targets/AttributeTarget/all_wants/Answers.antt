use Rattle.pyc_obligations.proofs.Steps.{performing}
use Rattle.std.proofs.Common.{map, sym, ◌∙◌, refl, arith, rules}
use Rattle.std.proofs.lemmas.Grind.{common_steps}
use Rattle.pyc_targets.specs.AttributeTargets.{more_wants, item_want, with_want}
use Rattle.pyc_targets.specs.Views.{wants_in}
use Rattle.pyc_reading.proofs.RunLemmas.{one_turn, grown_trans}
use Rattle.pyc_type_forms.specs.TypeView.{ty_of}
use Rattle.pyc_targets.proofs.attribute_targets.AttributeTarget.all_wants.Goals as goal

pub loop-item-preserved : goal.loop-item-preserved
unfolding more_wants
loop-item-preserved g c =
    let at = c.args.self.now.at in
    let inside = c.args.self.now.inside in
    let whole = ty_of c.args.self.now.whole.now in
    let name = c.args.self.now.name.now in
    let before = wants_in c.loop-item.found in
    record {
      same =
          rw c.in_ok-push_want.ensures
          (sym (one_turn (λ xs. more_wants at inside whole name before (map ty_of xs)) (λ x. item_want at inside whole name (ty_of x)) (λ want xs. more_wants at inside whole name (with_want before want) (map ty_of xs)) (λ x xs. refl) c.args.items.now c.loop-item.item-index _ _ _ _ c.loop-item-test.true c.item-item.is c.in_ok-want.ensures.done)
          ∙ c.loop-item.invariant.same);
      grown = grown_trans c.loop-item.invariant.grown c.item_want.ensures.grown;
    }

pub loop-item-init : goal.loop-item-init
unfolding more_wants
loop-item-init g c = first_of (grind (arith, performing), search rules)

pub returns : goal.returns
unfolding more_wants
returns g c = first_of (grind (arith, common_steps, performing), search rules)

pub returns-in_err-push_want : goal.returns-in_err-push_want
unfolding more_wants
returns-in_err-push_want g c = first_of (grind (arith, performing), search rules)

pub returns-in_err-want : goal.returns-in_err-want
unfolding more_wants
returns-in_err-want g c = first_of (grind (arith, performing), search rules)

pub returns-in_err-with_capacity : goal.returns-in_err-with_capacity
unfolding more_wants
returns-in_err-with_capacity g c = first_of (grind (arith, performing), search rules)
