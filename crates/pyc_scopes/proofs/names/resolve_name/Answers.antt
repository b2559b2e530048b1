use Rattle.std.proofs.Common.{arith, rules}
use Rattle.std.proofs.lemmas.Grind.{common_steps}
use Rattle.pyc_scopes.specs.NamedValues.{resolve_name}
use Rattle.pyc_scopes.proofs.names.resolve_name.Goals as goal

pub returns-in-None : goal.returns-in-None
unfolding resolve_name
returns-in-None g c = first_of (grind (arith, common_steps), search rules)

pub returns-in_err-local_type-in-Some : goal.returns-in_err-local_type-in-Some
unfolding resolve_name
returns-in_err-local_type-in-Some g c = first_of (grind (arith, common_steps), search rules)

pub returns-in_ok-local_type-in-Some : goal.returns-in_ok-local_type-in-Some
unfolding resolve_name
returns-in_ok-local_type-in-Some g c = first_of (grind (arith, common_steps), search rules)
