use Rattle.std.proofs.lemmas.Grind.{common_steps}
use Rattle.std.proofs.Common.{arith, rules}
use Rattle.pyc_bindings.proofs.bindings.push_imported.Goals as goal

pub loop-alias-init : goal.loop-alias-init
loop-alias-init c = first_of (grind (arith, common_steps), search rules)

pub returns : goal.returns
returns c = first_of (grind (arith, common_steps), search rules)

pub returns-in_err-push_alias : goal.returns-in_err-push_alias
returns-in_err-push_alias c = first_of (grind (arith, common_steps), search rules)
