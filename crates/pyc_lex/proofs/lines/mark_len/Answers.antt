use Rattle.std.proofs.Common.{arith, rules}
use Rattle.std.proofs.lemmas.Grind.{common_steps}
use Rattle.pyc_lex.specs.Lines.{mark_len}
use Rattle.pyc_lex.proofs.lines.mark_len.Goals as goal

pub returns-else-starts_with : goal.returns-else-starts_with
unfolding mark_len
returns-else-starts_with c = first_of (grind (arith, common_steps), search rules)

pub returns-then-starts_with : goal.returns-then-starts_with
unfolding mark_len
returns-then-starts_with c = first_of (grind (arith, common_steps), search rules)
