use Rattle.std.proofs.Common.{arith, rules}
use Rattle.std.proofs.lemmas.Grind.{common_steps}
use Rattle.pyc_bindings.proofs.scope.+scope.Goals as goal

pub push_branches-loop-branch-init : goal.push_branches-loop-branch-init
push_branches-loop-branch-init t c = first_of (grind (arith, common_steps), search rules)

pub push_branches-returns : goal.push_branches-returns
push_branches-returns t c = first_of (grind (arith, common_steps), search rules)

pub push_branches-returns-in_err-push_block : goal.push_branches-returns-in_err-push_block
push_branches-returns-in_err-push_block t c = first_of (grind (arith, common_steps), search rules)

pub push_handlers-loop-handler-init : goal.push_handlers-loop-handler-init
push_handlers-loop-handler-init t c = first_of (grind (arith, common_steps), search rules)

pub push_handlers-returns : goal.push_handlers-returns
push_handlers-returns t c = first_of (grind (arith, common_steps), search rules)

pub push_handlers-returns-in_err-push_block : goal.push_handlers-returns-in_err-push_block
push_handlers-returns-in_err-push_block t c = first_of (grind (arith, common_steps), search rules)

pub push_handlers-returns-in_err-push_name : goal.push_handlers-returns-in_err-push_name
push_handlers-returns-in_err-push_name t c = first_of (grind (arith, common_steps), search rules)

pub push_statement-returns-in_err-push_block-in-For : goal.push_statement-returns-in_err-push_block-in-For
push_statement-returns-in_err-push_block-in-For t c = first_of (grind (arith, common_steps), search rules)

pub push_statement-returns-in_err-push_block-in-Try : goal.push_statement-returns-in_err-push_block-in-Try
push_statement-returns-in_err-push_block-in-Try t c = first_of (grind (arith, common_steps), search rules)

pub push_statement-returns-in_err-push_block-in-Try-2 : goal.push_statement-returns-in_err-push_block-in-Try-2
push_statement-returns-in_err-push_block-in-Try-2 t c = first_of (grind (arith, common_steps), search rules)

pub push_statement-returns-in_err-push_block-in-While : goal.push_statement-returns-in_err-push_block-in-While
push_statement-returns-in_err-push_block-in-While t c = first_of (grind (arith, common_steps), search rules)

pub push_statement-returns-in_err-push_branches-in-If : goal.push_statement-returns-in_err-push_branches-in-If
push_statement-returns-in_err-push_branches-in-If t c = first_of (grind (arith, common_steps), search rules)

pub push_statement-returns-in_err-push_handlers-in-Try : goal.push_statement-returns-in_err-push_handlers-in-Try
push_statement-returns-in_err-push_handlers-in-Try t c = first_of (grind (arith, common_steps), search rules)

pub push_statement-returns-in_err-push_items-in-With : goal.push_statement-returns-in_err-push_items-in-With
push_statement-returns-in_err-push_items-in-With t c = first_of (grind (arith, common_steps), search rules)

pub push_statement-returns-in_err-push_part-in-For : goal.push_statement-returns-in_err-push_part-in-For
push_statement-returns-in_err-push_part-in-For t c = first_of (grind (arith, common_steps), search rules)

pub push_statements-loop-statement-init : goal.push_statements-loop-statement-init
push_statements-loop-statement-init t c = first_of (grind (arith, common_steps), search rules)

pub push_statements-returns : goal.push_statements-returns
push_statements-returns t c = first_of (grind (arith, common_steps), search rules)

pub push_statements-returns-in_err-push_statement : goal.push_statements-returns-in_err-push_statement
push_statements-returns-in_err-push_statement t c = first_of (grind (arith, common_steps), search rules)
