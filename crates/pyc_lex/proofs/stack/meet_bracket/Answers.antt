use Rattle.std.proofs.Common.{arith, rules}
use Rattle.std.proofs.lemmas.Grind.{common_steps}
use Rattle.pyc_lex.specs.Lines.{bracketed}
use Rattle.pyc_lex.proofs.stack.meet_bracket.Goals as goal

pub returns-in-Close : goal.returns-in-Close
unfolding bracketed
returns-in-Close c = first_of (grind (arith, common_steps), search rules)

pub returns-in_default : goal.returns-in_default
unfolding bracketed
returns-in_default c = first_of (grind (arith, common_steps), search rules)

pub returns-in_err-open-in-Open : goal.returns-in_err-open-in-Open
unfolding bracketed
returns-in_err-open-in-Open c = first_of (grind (arith, common_steps), search rules)

pub returns-in_ok-open-in-Open : goal.returns-in_ok-open-in-Open
unfolding bracketed
returns-in_ok-open-in-Open c = first_of (grind (arith, common_steps), search rules)

pub returns-then-len-ge-MAX_DEPTH : goal.returns-then-len-ge-MAX_DEPTH
unfolding bracketed
returns-then-len-ge-MAX_DEPTH c = first_of (grind (arith, common_steps), search rules)
