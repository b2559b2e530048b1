use Rattle.pyc_arguments.proofs.Parts.{run_all_read}
use Rattle.pyc_reading.proofs.RunLemmas.{grown_refl}
use Rattle.pyc_arguments.proofs.arguments.read_all.Goals as goal

pub returns-in-Read : goal.returns-in-Read
returns-in-Read g c = rw c.in-Read.is (record { done = run_all_read _ _; grown = grown_refl _ })
