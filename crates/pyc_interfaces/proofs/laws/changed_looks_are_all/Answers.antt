use Rattle.pyc_interfaces.proofs.ChangedLemmas.{changed_looks_are_all}
use Rattle.pyc_interfaces.proofs.SharedLemmas.{shared_carry}
use Rattle.pyc_interfaces.proofs.laws.changed_looks_are_all.Goals as goal

pub returns : goal.returns
returns c = record { all = changed_looks_are_all; shared = shared_carry }
