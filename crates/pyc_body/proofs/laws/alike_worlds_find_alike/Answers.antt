use Rattle.pyc_body.proofs.ReadLemmas.{alike_answers, alike_interfaces}
use Rattle.pyc_body.proofs.laws.alike_worlds_find_alike.Goals as goal

pub returns-clause-answers : goal.returns-clause-answers
returns-clause-answers c = alike_answers

pub returns-clause-interfaces : goal.returns-clause-interfaces
returns-clause-interfaces c = alike_interfaces
