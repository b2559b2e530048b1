use Rattle.pyc_calls.specs.Methods.{infer_method_call}
use Rattle.pyc_expression_laws.proofs.CallKeyLemmas.{of-infer_method_call}
use Rattle.pyc_expression_laws.proofs.OperatorKeyLemmas.{of-binary, of-check_comparison, of-unary}
use Rattle.pyc_expression_laws.proofs.rules.operators_ask_files.Goals as goal

pub returns-clause-binary : goal.returns-clause-binary
returns-clause-binary c = λ at operator left right. (of-binary infer_method_call of-infer_method_call at operator left right).all

pub returns-clause-comparison : goal.returns-clause-comparison
returns-clause-comparison c = λ at operator left right. (of-check_comparison infer_method_call of-infer_method_call at operator left right).all

pub returns-clause-unary : goal.returns-clause-unary
returns-clause-unary c = λ at operator operand. (of-unary infer_method_call of-infer_method_call at operator operand).all
