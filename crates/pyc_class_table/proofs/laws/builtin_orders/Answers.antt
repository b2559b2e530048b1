use Rattle.pyc_class_table.proofs.BuiltinLemmas.{builtins_follow_the_rule}
use Rattle.pyc_class_table.proofs.laws.builtin_orders.Goals as goal

pub returns : goal.returns
returns c = builtins_follow_the_rule
