use Rattle.pyc_mro.proofs.DepthLemmas.{cycles_are_reported, has_enough_depth}
use Rattle.pyc_mro.proofs.laws.unknown_orders.Goals as goal

pub returns-clause-cycles : goal.returns-clause-cycles
returns-clause-cycles c = cycles_are_reported

pub returns-clause-depth : goal.returns-clause-depth
returns-clause-depth c = has_enough_depth
