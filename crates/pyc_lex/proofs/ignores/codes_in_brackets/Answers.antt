use Rattle.std.proofs.Common.{arith, rules}
use Rattle.std.proofs.lemmas.Grind.{common_steps}
use Rattle.pyc_lex.proofs.ignores.codes_in_brackets.Goals as goal

pub returns : goal.returns
returns c = first_of (grind (arith, common_steps), search rules)

pub returns-in_err-codes_at : goal.returns-in_err-codes_at
returns-in_err-codes_at c = first_of (grind (arith, common_steps), search rules)

pub returns-then-byte_at-ne93 : goal.returns-then-byte_at-ne93
returns-then-byte_at-ne93 c = first_of (grind (arith, common_steps), search rules)

pub returns-then-not-ends_ignore : goal.returns-then-not-ends_ignore
returns-then-not-ends_ignore c = first_of (grind (arith, common_steps), search rules)
