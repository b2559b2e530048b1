use Rattle.pyc_narrowing_laws.proofs.StateLemmas.{nothing_narrowed_is_met, with_place_keeps}
use Rattle.pyc_narrowing_laws.proofs.laws.narrowed_places.Goals as goal

pub returns-clause-nothing : goal.returns-clause-nothing
returns-clause-nothing c = nothing_narrowed_is_met

pub returns-clause-one : goal.returns-clause-one
returns-clause-one c = with_place_keeps
