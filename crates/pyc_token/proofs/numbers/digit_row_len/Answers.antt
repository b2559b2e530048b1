use Rattle.std.proofs.Common.{arith, rules}
use Rattle.std.proofs.lemmas.Grind.{common_steps}
use Rattle.pyc_token.proofs.numbers.digit_row_len.Goals as goal

pub loop-index-init : goal.loop-index-init
loop-index-init c = first_of (grind (arith, common_steps), search rules)

pub returns : goal.returns
returns c = first_of (grind (arith, common_steps), search rules)

pub returns-then-not-is_digit_of : goal.returns-then-not-is_digit_of
returns-then-not-is_digit_of c = first_of (grind (arith, common_steps), search rules)
