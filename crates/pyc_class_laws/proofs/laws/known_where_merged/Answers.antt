use Rattle.pyc_class_laws.proofs.KnownLemmas.{known_where_merged}
use Rattle.pyc_class_laws.proofs.laws.known_where_merged.Goals as goal

pub returns : goal.returns
returns c = known_where_merged
