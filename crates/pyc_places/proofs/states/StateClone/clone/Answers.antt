use Rattle.std.proofs.lemmas.Grind.{common_steps}
use Rattle.std.proofs.Common.{ap, ◌∙◌, sym, arith, rules}
use Rattle.pyc_places.specs.States.{reachable}
use Rattle.pyc_places.specs.StateView.{state_of}
use Rattle.pyc_places.proofs.states.StateClone.clone.Goals as goal

pub returns-in_ok-clone-in-Reachable : goal.returns-in_ok-clone-in-Reachable
returns-in_ok-clone-in-Reachable c = record {
  cases = ap reachable c.in_ok-clone-in-Reachable.ensures.cases ∙ sym (ap state_of c.in-Reachable.is);
}

pub returns-in-Unreachable : goal.returns-in-Unreachable
returns-in-Unreachable c = first_of (grind (arith, common_steps), search rules)

pub returns-in_err-clone-in-Reachable : goal.returns-in_err-clone-in-Reachable
returns-in_err-clone-in-Reachable c = first_of (grind (arith, common_steps), search rules)
