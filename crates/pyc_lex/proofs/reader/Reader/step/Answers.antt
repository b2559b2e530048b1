use Rattle.std.proofs.Common.{arith, rules}
use Rattle.std.proofs.lemmas.Grind.{common_steps}
use Rattle.pyc_lex.specs.Lines.{step}
use Rattle.pyc_lex.proofs.reader.Reader.step.Goals as goal

pub returns-after-is_empty : goal.returns-after-is_empty
unfolding step
returns-after-is_empty c = first_of (grind (arith, common_steps), search rules)

pub returns-after-self-ne0 : goal.returns-after-self-ne0
unfolding step
returns-after-self-ne0 c = first_of (grind (arith, common_steps), search rules)

pub returns-in-Blank : goal.returns-in-Blank
unfolding step
returns-in-Blank c = first_of (grind (arith, common_steps), search rules)

pub returns-in_err-add_token-in-Name : goal.returns-in_err-add_token-in-Name
unfolding step
returns-in_err-add_token-in-Name c = first_of (grind (arith, common_steps), search rules)

pub returns-in_err-add_token-in-Token : goal.returns-in_err-add_token-in-Token
unfolding step
returns-in_err-add_token-in-Token c = first_of (grind (arith, common_steps), search rules)

pub returns-in_err-end_line-in-LineEnd : goal.returns-in_err-end_line-in-LineEnd
unfolding step
returns-in_err-end_line-in-LineEnd c = first_of (grind (arith, common_steps), search rules)

pub returns-in_err-kind_of_name-in-Name : goal.returns-in_err-kind_of_name-in-Name
unfolding step
returns-in_err-kind_of_name-in-Name c = first_of (grind (arith, common_steps), search rules)

pub returns-in_err-read_comment-in-Comment : goal.returns-in_err-read_comment-in-Comment
unfolding step
returns-in_err-read_comment-in-Comment c = first_of (grind (arith, common_steps), search rules)

pub returns-in_ok-add_token-in-Name : goal.returns-in_ok-add_token-in-Name
unfolding step
returns-in_ok-add_token-in-Name c = first_of (grind (arith, common_steps), search rules)

pub returns-in_ok-add_token-in-Token : goal.returns-in_ok-add_token-in-Token
unfolding step
returns-in_ok-add_token-in-Token c = first_of (grind (arith, common_steps), search rules)

pub returns-in_ok-read_comment-in-Comment : goal.returns-in_ok-read_comment-in-Comment
unfolding step
returns-in_ok-read_comment-in-Comment c = first_of (grind (arith, common_steps), search rules)
