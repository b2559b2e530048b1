-- What stands to the left of `and` or `or` says where what stands to the right is read.
use Rattle.std.specs.Prelude.{◌≡◌, Option}
use Rattle.pyc_ast.specs.declared.operator.BooleanOperator.{BooleanOperator}
use Rattle.pyc_ast.specs.Exprs.{Expr}
use Rattle.pyc_expr_forms.specs.Choices.{infer_chain, right_side_state}
use Rattle.pyc_expr_forms.specs.Contexts.{InferValue, looked_by}
use Rattle.pyc_narrowing.specs.Splitting.{split}
use Rattle.pyc_places.specs.States.{State}
use Rattle.pyc_reading.specs.Answers.{Answer}
use Rattle.pyc_reading.specs.Keys.{Key}
use Rattle.pyc_reading.specs.Readings.{result_of}
use Rattle.pyc_type_forms.specs.Types.{Ty}

-- a chain goes on in the state that all of it leaves, taken as one condition
abbrev pub ChainsGoOn : Type 0
ChainsGoOn =
    (answers : Key → Answer) (parts : InferValue) (s : State) (want : Option Ty) (operator : BooleanOperator) (x : Expr)
    → (result_of answers (infer_chain parts s want operator x)).state
    ≡ right_side_state operator (result_of answers (split (looked_by parts) s x))
