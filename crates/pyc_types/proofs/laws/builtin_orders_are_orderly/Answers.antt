use Rattle.pyc_types.proofs.BuiltinMroLemmas.{builtin_orders_are_orderly}
use Rattle.pyc_types.proofs.laws.builtin_orders_are_orderly.Goals as goal

pub returns : goal.returns
returns c = builtin_orders_are_orderly
