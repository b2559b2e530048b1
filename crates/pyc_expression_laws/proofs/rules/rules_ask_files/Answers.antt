use Rattle.pyc_expression_laws.proofs.AttributeKeyLemmas.{of-type_attribute}
use Rattle.pyc_expression_laws.proofs.ItemKeyLemmas.{of-infer_iteration, of-subscript}
use Rattle.pyc_expression_laws.proofs.ObligationKeyLemmas.{of-judge_assignable, of-required}
use Rattle.pyc_expression_laws.proofs.rules.rules_ask_files.Goals as goal
use Rattle.pyc_expression_laws.proofs.ScopeLemmas.{of-resolve_name}

pub returns-clause-obligation : goal.returns-clause-obligation
returns-clause-obligation c = λ o. (of-required o).all

pub returns-clause-judgement : goal.returns-clause-judgement
returns-clause-judgement c = λ got want. (of-judge_assignable got want).all

pub returns-clause-name : goal.returns-clause-name
returns-clause-name c = λ scope at x. (of-resolve_name scope at x).all

pub returns-clause-attribute : goal.returns-clause-attribute
returns-clause-attribute c = λ at ty n. (of-type_attribute at ty n).all

pub returns-clause-subscript : goal.returns-clause-subscript
returns-clause-subscript c = λ at brackets got ty. (of-subscript at brackets got ty).all

pub returns-clause-iteration : goal.returns-clause-iteration
returns-clause-iteration c = λ at ty. (of-infer_iteration at ty).all
