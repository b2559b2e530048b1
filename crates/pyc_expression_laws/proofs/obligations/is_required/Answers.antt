use Rattle.pyc_expression_laws.proofs.ObligationLemmas.{argument_is_required, assignment_is_required, entry_is_required, index_is_required, item_is_required, member_is_required}
use Rattle.pyc_expression_laws.proofs.obligations.is_required.Goals as goal

pub returns-clause-argument : goal.returns-clause-argument
returns-clause-argument c = argument_is_required

pub returns-clause-index : goal.returns-clause-index
returns-clause-index c = index_is_required

pub returns-clause-item : goal.returns-clause-item
returns-clause-item c = item_is_required

pub returns-clause-entry : goal.returns-clause-entry
returns-clause-entry c = entry_is_required

pub returns-clause-assignment : goal.returns-clause-assignment
returns-clause-assignment c = assignment_is_required

pub returns-clause-member : goal.returns-clause-member
returns-clause-member c = member_is_required
