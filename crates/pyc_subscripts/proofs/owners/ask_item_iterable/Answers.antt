use Rattle.pyc_subscripts.specs.Owners.{ask_item_iterable}
use Rattle.pyc_subscripts.proofs.Steps.{performing}
use Rattle.std.proofs.Common.{arith, rules}
use Rattle.pyc_subscripts.proofs.owners.ask_item_iterable.Goals as goal

pub returns-in_err-found : goal.returns-in_err-found
unfolding ask_item_iterable
returns-in_err-found g c = first_of (grind (arith, performing), search rules)

pub returns : goal.returns
unfolding ask_item_iterable
returns g c = first_of (grind (arith, performing), search rules)
