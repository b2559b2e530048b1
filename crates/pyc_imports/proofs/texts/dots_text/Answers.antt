use Rattle.pyc_imports.proofs.TextLemmas.{dots_more}
use Rattle.std.proofs.Common.{arith, rules}
use Rattle.std.proofs.lemmas.Grind.{common_steps}
use Rattle.pyc_imports.proofs.texts.dots_text.Goals as goal

pub loop-dot-init : goal.loop-dot-init
loop-dot-init c = first_of (grind (arith, dots_more), search rules)

pub returns-in_err-push_str : goal.returns-in_err-push_str
returns-in_err-push_str c = first_of (grind (arith, dots_more), search rules)

pub returns : goal.returns
returns c = first_of (grind (arith, common_steps, dots_more), search rules)
