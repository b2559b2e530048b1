use Rattle.std.proofs.Common.{arith, rules}
use Rattle.std.proofs.lemmas.Grind.{common_steps}
use Rattle.pyc_units.proofs.header.read_binding.Goals as goal

pub returns-else-is_import_from : goal.returns-else-is_import_from
returns-else-is_import_from g c = first_of (grind (arith, common_steps), search rules)

pub returns-then-is_none : goal.returns-then-is_none
returns-then-is_none g c = first_of (grind (arith, common_steps), search rules)
