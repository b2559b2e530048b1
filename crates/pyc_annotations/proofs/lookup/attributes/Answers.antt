use Rattle.std.proofs.lemmas.Grind.{common_steps}
use Rattle.pyc_annotations.proofs.Steps.{performing}
use Rattle.std.proofs.Common.{sym, ◌∙◌, refl, arith, rules}
use Rattle.pyc_annotations.specs.Annotations.{attributes, attribute_meaning}
use Rattle.pyc_annotations.specs.Views.{meaning_of}
use Rattle.pyc_reading.proofs.RunLemmas.{one_turn, grown_trans}
use Rattle.pyc_annotations.proofs.lookup.attributes.Goals as goal

pub loop-name-preserved : goal.loop-name-preserved
unfolding attributes
loop-name-preserved g c = record {
  same = sym (one_turn (λ names. attributes c.args.role c.args.at names (meaning_of c.loop-name.found)) (λ name. attribute_meaning c.args.role c.args.at name (meaning_of c.loop-name.found)) (λ found names. attributes c.args.role c.args.at names found) (λ x xs. refl) c.args.names.now c.loop-name.name-index _ _ _ _ c.loop-name-test.true c.name-item.is c.in_ok-found.ensures.done) ∙ c.loop-name.invariant.same;
  grown = grown_trans c.loop-name.invariant.grown c.attribute_meaning.ensures.grown;
}

pub returns-in_err-found : goal.returns-in_err-found
unfolding attributes
returns-in_err-found g c = first_of (grind (arith, performing), search rules)

pub loop-name-init : goal.loop-name-init
unfolding attributes
loop-name-init g c = first_of (grind (arith, performing), search rules)

pub returns : goal.returns
unfolding attributes
returns g c = first_of (grind (arith, common_steps, performing), search rules)
