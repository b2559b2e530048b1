use Rattle.std.proofs.Common.{ap}
use Rattle.pyc_iface.specs.Answers.{answer_by}
use Rattle.pyc_iface.proofs.laws.interfaces_answer.Goals as goal

pub returns : goal.returns
returns c = λ files others same key. ap (λ interfaces. answer_by interfaces key) same
