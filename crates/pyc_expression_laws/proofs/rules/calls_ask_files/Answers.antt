use Rattle.pyc_expression_laws.proofs.CallKeyLemmas.{of-call}
use Rattle.pyc_expression_laws.proofs.NarrowingLemmas.{of-split}
use Rattle.pyc_expression_laws.proofs.rules.calls_ask_files.Goals as goal

pub returns-clause-call : goal.returns-clause-call
returns-clause-call c = λ read shown at arguments callee reads. (of-call read (λ x want. record { all = reads x want }) shown at arguments callee).all

pub returns-clause-condition : goal.returns-clause-condition
returns-clause-condition c = λ look s x looks. (of-split look (λ t y. record { all = looks t y }) s x).all
