use Rattle.std.proofs.Common.{arith, rules}
use Rattle.std.proofs.lemmas.Grind.{common_steps}
use Rattle.pyc_bindings.specs.Redefinitions.{redefinitions}
use Rattle.pyc_bindings.proofs.AgainLemmas.{again_more}
use Rattle.pyc_bindings.proofs.defined_again.redefinitions_at.Goals as goal

-- what a binding defines again is found
pub loop-i-preserved : goal.loop-i-preserved
loop-i-preserved c =
    again_more c.args.bindings.now c.loop-i.i c.index-bindings-i.result _ _ _ _ c.loop-i-test.true c.index-bindings-i.is
    c.declaration_before-earlier.ensures c.in_ok-push_redefinition.ensures c.loop-i.invariant

pub loop-i-init : goal.loop-i-init
unfolding redefinitions
loop-i-init c = first_of (grind (arith, common_steps), search rules)

pub returns : goal.returns
unfolding redefinitions
returns c = first_of (grind (arith, common_steps), search rules)

pub returns-in_err-push_redefinition : goal.returns-in_err-push_redefinition
unfolding redefinitions
returns-in_err-push_redefinition c = first_of (grind (arith, common_steps), search rules)
