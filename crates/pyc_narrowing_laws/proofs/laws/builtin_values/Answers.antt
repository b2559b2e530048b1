use Rattle.pyc_narrowing_laws.proofs.BuiltinLemmas.{builtin_values_meet_the_premises}
use Rattle.pyc_narrowing_laws.proofs.laws.builtin_values.Goals as goal

pub returns : goal.returns
returns c = builtin_values_meet_the_premises
