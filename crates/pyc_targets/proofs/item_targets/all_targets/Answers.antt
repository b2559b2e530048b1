use Rattle.pyc_obligations.proofs.Steps.{performing}
use Rattle.std.proofs.Common.{map, sym, ◌∙◌, refl, arith, rules}
use Rattle.std.proofs.lemmas.Grind.{common_steps}
use Rattle.pyc_ast.specs.ExprView.{index_of}
use Rattle.pyc_targets.specs.ItemTargets.{more_targets, target_of_type, with_target}
use Rattle.pyc_targets.specs.Views.{item_targets_in}
use Rattle.pyc_reading.proofs.RunLemmas.{one_turn, grown_trans}
use Rattle.pyc_type_forms.specs.TypeView.{ty_of}
use Rattle.pyc_targets.proofs.item_targets.all_targets.Goals as goal

pub loop-ty-preserved : goal.loop-ty-preserved
unfolding more_targets
loop-ty-preserved g c =
    let at = c.args.at in
    let index = index_of c.args.index.now in
    let got = ty_of c.args.got.now in
    let before = item_targets_in c.loop-ty.found in
    record {
      same =
          rw c.in_ok-push_target.ensures
          (sym (one_turn (λ xs. more_targets at index got before (map ty_of xs)) (λ x. target_of_type at index got (ty_of x)) (λ item xs. more_targets at index got (with_target before item) (map ty_of xs)) (λ x xs. refl) c.args.types.now c.loop-ty.ty-index _ _ _ _ c.loop-ty-test.true c.ty-item.is c.in_ok-item.ensures.done)
          ∙ c.loop-ty.invariant.same);
      grown = grown_trans c.loop-ty.invariant.grown c.target_of_type.ensures.grown;
    }

pub loop-ty-init : goal.loop-ty-init
unfolding more_targets
loop-ty-init g c = first_of (grind (arith, performing), search rules)

pub returns : goal.returns
unfolding more_targets
returns g c = first_of (grind (arith, common_steps, performing), search rules)

pub returns-in_err-item : goal.returns-in_err-item
unfolding more_targets
returns-in_err-item g c = first_of (grind (arith, performing), search rules)

pub returns-in_err-push_target : goal.returns-in_err-push_target
unfolding more_targets
returns-in_err-push_target g c = first_of (grind (arith, performing), search rules)

pub returns-in_err-with_capacity : goal.returns-in_err-with_capacity
unfolding more_targets
returns-in_err-with_capacity g c = first_of (grind (arith, performing), search rules)
