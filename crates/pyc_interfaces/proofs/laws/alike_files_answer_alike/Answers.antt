use Rattle.pyc_interfaces.proofs.WorldLemmas.{alike_files_answer_alike}
use Rattle.pyc_interfaces.proofs.laws.alike_files_answer_alike.Goals as goal

pub returns : goal.returns
returns c = alike_files_answer_alike
