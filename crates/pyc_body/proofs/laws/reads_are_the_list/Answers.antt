use Rattle.pyc_body.proofs.ReadLemmas.{no_other_list, reads_are_the_list}
use Rattle.pyc_body.proofs.laws.reads_are_the_list.Goals as goal

pub returns-clause-is : goal.returns-clause-is
returns-clause-is c = reads_are_the_list

pub returns-clause-only : goal.returns-clause-only
returns-clause-only c = no_other_list
