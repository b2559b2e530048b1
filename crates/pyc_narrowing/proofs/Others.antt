-- Calls and comparisons with other numbers of parts.
use Rattle.std.proofs.Common.{◌≡◌, List, [], ◌∷◌, length, map, refl}
use Rattle.pyc_ast.specs.declared.expr.Argument.{Argument as ArgumentOf}
use Rattle.pyc_ast.specs.declared.expr.Comparison.{Comparison as ComparisonOf}
use Rattle.pyc_ast.specs.Exprs.{Expr, arguments, comparisons}
use Rattle.pyc_ast.specs.ExprView.{argument_of, comparison_of}
use Rattle.pyc_narrowing.specs.SplitStates.{unchanged}
use Rattle.pyc_narrowing.specs.Splitting.{InferOperand, call_rule, comparison_rule}
use Rattle.pyc_places.specs.States.{State}
use Rattle.pyc_reading.specs.Readings.{Done}

pub other_call : (look : InferOperand) (s : State) (callee : Expr) (xs : List ArgumentOf) → (length xs ≡ 2 → ⊥)
    → call_rule look s callee (arguments (map argument_of xs)) ≡ Done (unchanged s)
other_call look s callee [] other = refl
other_call look s callee (x ∷ []) other = refl
other_call look s callee (x ∷ y ∷ []) other = absurd (other refl)
other_call look s callee (x ∷ y ∷ z ∷ xs) other = refl

pub other_comparison : (look : InferOperand) (s : State) (left : Expr) (xs : List ComparisonOf) → (length xs ≡ 1 → ⊥)
    → comparison_rule look s left (comparisons (map comparison_of xs)) ≡ Done (unchanged s)
other_comparison look s left [] other = refl
other_comparison look s left (x ∷ []) other = absurd (other refl)
other_comparison look s left (x ∷ y ∷ xs) other = refl
