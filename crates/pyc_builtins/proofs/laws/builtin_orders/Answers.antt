use Rattle.pyc_builtins.proofs.MroLemmas.{follow_the_bases}
use Rattle.pyc_builtins.proofs.laws.builtin_orders.Goals as goal

pub returns : goal.returns
returns c = follow_the_bases
