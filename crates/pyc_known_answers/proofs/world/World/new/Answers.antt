use Rattle.std.proofs.Common.{ap}
use Rattle.pyc_keys.specs.KeyNumbers.{key_at}
use Rattle.pyc_known_answers.proofs.world.World.new.Goals as goal

pub invariant_of-result : goal.invariant_of-result
invariant_of-result c = record { are_over = c.new-2.ensures.over (key_at c.new.result) }

pub returns-clause-held : goal.returns-clause-held
returns-clause-held c = ap key_at c.new.ensures
