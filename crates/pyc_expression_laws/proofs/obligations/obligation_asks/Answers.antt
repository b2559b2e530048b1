use Rattle.pyc_expression_laws.proofs.ObligationLemmas.{judgement_asks, obligation_asks}
use Rattle.pyc_expression_laws.proofs.obligations.obligation_asks.Goals as goal

pub returns-clause-judgement : goal.returns-clause-judgement
returns-clause-judgement c = judgement_asks

pub returns-clause-obligation : goal.returns-clause-obligation
returns-clause-obligation c = obligation_asks
