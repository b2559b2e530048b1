-- Calls of `reveal_type` and `cast` with other numbers of arguments.
use Rattle.std.proofs.Common.{◌≡◌, List, [], ◌∷◌, length, map, refl}
use Rattle.pyc_ast.specs.declared.expr.Argument.{Argument as ArgumentOf}
use Rattle.pyc_ast.specs.declared.position.Position.{Position}
use Rattle.pyc_ast.specs.ExprView.{argument_of}
use Rattle.pyc_expr_forms.specs.CallValues.{infer_reveal_call, cast_by}
use Rattle.pyc_expr_forms.specs.Contexts.{Context, InferValue}
use Rattle.pyc_places.specs.States.{State}
use Rattle.pyc_reading.specs.Traces.{Step}
use Rattle.pyc_type_forms.specs.Types.{Ty}

pub other_revealed : (parts : InferValue) (s : State) (at : Position) (xs : List ArgumentOf) (otherwise : Step Ty) → (length xs ≡ 1 → ⊥)
    → infer_reveal_call parts s at (map argument_of xs) otherwise ≡ otherwise
other_revealed parts s at [] otherwise other = refl
other_revealed parts s at (x ∷ []) otherwise other = absurd (other refl)
other_revealed parts s at (x ∷ y ∷ xs) otherwise other = refl

pub other_cast : (context : Context) (parts : InferValue) (s : State) (xs : List ArgumentOf) (otherwise : Step Ty) → (length xs ≡ 2 → ⊥)
    → cast_by context parts s (map argument_of xs) otherwise ≡ otherwise
other_cast context parts s [] otherwise other = refl
other_cast context parts s (x ∷ []) otherwise other = refl
other_cast context parts s (x ∷ y ∷ []) otherwise other = absurd (other refl)
other_cast context parts s (x ∷ y ∷ z ∷ xs) otherwise other = refl
