use Rattle.pyc_class_laws.proofs.KnownLemmas.{c3_merge_held}
use Rattle.pyc_class_laws.proofs.laws.c3_merge_held.Goals as goal

pub returns : goal.returns
returns c = c3_merge_held
