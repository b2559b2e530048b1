use Rattle.std.proofs.Common.{arith, rules}
use Rattle.std.proofs.lemmas.Grind.{common_steps}
use Rattle.pyc_scopes.specs.NamedValues.{unbound}
use Rattle.pyc_scopes.proofs.names.unbound.Goals as goal

pub returns-in-None : goal.returns-in-None
unfolding unbound
returns-in-None g c = first_of (grind (arith, common_steps), search rules)

pub returns-in_err-builtin_value-in-Some : goal.returns-in_err-builtin_value-in-Some
unfolding unbound
returns-in_err-builtin_value-in-Some g c = first_of (grind (arith, common_steps), search rules)

pub returns-in_ok-builtin_value-in-Some : goal.returns-in_ok-builtin_value-in-Some
unfolding unbound
returns-in_ok-builtin_value-in-Some g c = first_of (grind (arith, common_steps), search rules)
