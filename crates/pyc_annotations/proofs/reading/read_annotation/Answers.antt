use Rattle.std.proofs.Common.{arith, rules}
use Rattle.std.proofs.lemmas.Grind.{common_steps}
use Rattle.pyc_annotations.proofs.reading.read_annotation.Goals as goal

pub returns : goal.returns
returns g c = first_of (grind (arith, common_steps), search rules)

pub returns-in_err-written : goal.returns-in_err-written
returns-in_err-written g c = first_of (grind (arith, common_steps), search rules)
