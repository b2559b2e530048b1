use Rattle.std.proofs.Common.{arith, rules}
use Rattle.std.proofs.lemmas.Grind.{common_steps}
use Rattle.pyc_iface.proofs.world.PlainWorld.class_order.Goals as goal

pub returns : goal.returns
returns c = first_of (grind (arith, common_steps), search rules)

pub returns-in_err-copy_classes : goal.returns-in_err-copy_classes
returns-in_err-copy_classes c = first_of (grind (arith, common_steps), search rules)
