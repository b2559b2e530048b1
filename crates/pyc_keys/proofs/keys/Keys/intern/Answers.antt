use Rattle.pyc_keys.proofs.NumberingLemmas.{number_held}
use Rattle.pyc_keys.proofs.keys.Keys.intern.Goals as goal

pub returns-in-Some-clause-number : goal.returns-in-Some-clause-number
returns-in-Some-clause-number c = number_held _ _ _ c.in-Some.ensures.apart c.in-Some.ensures.held
