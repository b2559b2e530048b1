use Rattle.pyc_units.proofs.Steps.{performing}
use Rattle.std.proofs.Common.{arith, rules}
use Rattle.pyc_units.proofs.definitions.read_class_order.Goals as goal

pub returns-in-Some : goal.returns-in-Some
returns-in-Some g c = first_of (grind (arith, performing), search rules)

pub returns-in_err-ask-in-None : goal.returns-in_err-ask-in-None
returns-in_err-ask-in-None g c = first_of (grind (arith, performing), search rules)

pub returns-in_err-clone-in-None : goal.returns-in_err-clone-in-None
returns-in_err-clone-in-None g c = first_of (grind (arith, performing), search rules)

pub returns-in_ok-ask-in-None : goal.returns-in_ok-ask-in-None
returns-in_ok-ask-in-None g c = first_of (grind (arith, performing), search rules)
