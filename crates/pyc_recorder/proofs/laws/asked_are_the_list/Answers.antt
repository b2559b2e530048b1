use Rattle.pyc_recorder.proofs.ReadListLemmas.{asked_are_the_list, one_list_alone}
use Rattle.pyc_recorder.proofs.laws.asked_are_the_list.Goals as goal

pub returns-clause-is : goal.returns-clause-is
returns-clause-is c = asked_are_the_list

pub returns-clause-only : goal.returns-clause-only
returns-clause-only c = one_list_alone
