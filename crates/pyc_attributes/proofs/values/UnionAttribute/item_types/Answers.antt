use Rattle.std.proofs.lemmas.Grind.{common_steps}
use Rattle.pyc_attributes.proofs.Steps.{performing}
use Rattle.std.proofs.Common.{◌∷◌, [], ◌++◌, map, sym, ◌∙◌, refl, arith, rules}
use Rattle.std.proofs.lemmas.List.{map-append}
use Rattle.pyc_attributes.specs.AttributeValues.{item_types, union_item}
use Rattle.pyc_reading.proofs.RunLemmas.{one_turn, grown_trans}
use Rattle.pyc_type_forms.specs.TypeView.{ty_of}
use Rattle.pyc_attributes.proofs.values.UnionAttribute.item_types.Goals as goal

pub loop-item-preserved : goal.loop-item-preserved
unfolding item_types
loop-item-preserved g c =
    let at = c.args.self.now.at in
    let whole = ty_of c.args.self.now.whole.now in
    let name = c.args.self.now.name.now in
    let before = map ty_of c.loop-item.found.items in
    record {
      same =
          rw (c.in_ok-push.ensures.items, map-append)
          (sym (one_turn (λ xs. item_types at whole name before (map ty_of xs)) (λ x. union_item at whole name (ty_of x)) (λ ty xs. item_types at whole name (before ++ (ty ∷ [])) (map ty_of xs)) (λ x xs. refl) c.args.items.now c.loop-item.item-index _ _ _ _ c.loop-item-test.true c.item-item.is c.in_ok-ty.ensures.done)
          ∙ c.loop-item.invariant.same);
      grown = grown_trans c.loop-item.invariant.grown c.union_item.ensures.grown;
    }

pub returns-in_err-found : goal.returns-in_err-found
unfolding item_types
returns-in_err-found g c = first_of (grind (arith, performing), search rules)

pub returns-in_err-ty : goal.returns-in_err-ty
unfolding item_types
returns-in_err-ty g c = first_of (grind (arith, performing), search rules)

pub returns-in_err-push : goal.returns-in_err-push
unfolding item_types
returns-in_err-push g c = first_of (grind (arith, performing), search rules)

pub loop-item-init : goal.loop-item-init
unfolding item_types
loop-item-init g c = first_of (grind (arith, performing), search rules)

pub returns : goal.returns
unfolding item_types
returns g c = first_of (grind (arith, common_steps, performing), search rules)
