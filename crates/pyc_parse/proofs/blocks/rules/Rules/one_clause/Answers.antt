use Rattle.pyc_parse.specs.Blocks.{one_clause}
use Rattle.std.proofs.lemmas.Grind.{common_steps}
use Rattle.std.proofs.Common.{arith, rules}
use Rattle.pyc_parse.proofs.blocks.rules.Rules.one_clause.Goals as goal

pub returns : goal.returns
unfolding one_clause
returns g c = first_of (grind (arith, common_steps), search rules)

pub returns-in-Header : goal.returns-in-Header
unfolding one_clause
returns-in-Header g c = first_of (grind (arith, common_steps), search rules)

pub returns-in_err-placed : goal.returns-in_err-placed
unfolding one_clause
returns-in_err-placed g c = first_of (grind (arith, common_steps), search rules)

pub returns-in_err-suite-in-Header : goal.returns-in_err-suite-in-Header
unfolding one_clause
returns-in_err-suite-in-Header g c = first_of (grind (arith, common_steps), search rules)
