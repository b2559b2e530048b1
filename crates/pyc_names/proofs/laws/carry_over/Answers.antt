use Rattle.pyc_names.proofs.CarryLemmas.{follow_carries, on_ring_carries}
use Rattle.pyc_names.proofs.FuelLemmas.{more_steps}
use Rattle.pyc_names.proofs.StepLemmas.{steps_carry}
use Rattle.pyc_names.proofs.laws.carry_over.Goals as goal

pub returns : goal.returns
returns c = record { steps = more_steps; one = steps_carry; follow = follow_carries; on_ring = on_ring_carries }
