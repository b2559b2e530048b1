-- What the pairs of two operands give, each item of the one with each of the other (typing specification, "Union
-- types").
use Rattle.std.specs.Prelude.{Bool, true, false, List, [], ◌∷◌, ◌++◌, Option, None, Some}
use Rattle.pyc_operators.specs.declared.operation.Operation.{Operation}
use Rattle.pyc_operators.specs.Methods.{Caller}
use Rattle.pyc_operators.specs.Pairs.{infer_pair}
use Rattle.pyc_reading.specs.Traces.{Step}
use Rattle.pyc_reading.specs.Readings.{Done, and_then}
use Rattle.pyc_type_forms.specs.Types.{Ty}

-- what the pairs give that were read so far: the types, and whether there is no such operation for one of them
pub record Results : Type 0 where
  pub types : List Ty
  pub is_failed : Bool

abbrev pub no_results : Results
no_results = record { types = []; is_failed = false }

-- with what one more pair gives
abbrev pub with_result : Results → Option Ty → Results
with_result before (Some ty) = record { types = before.types ++ (ty ∷ []); is_failed = before.is_failed }
with_result before None = record { types = before.types; is_failed = true }

-- what an operation gives on each pair of an operand and one of these: every pair is read, also after one failed
unfoldable pub pairs_of_left : Caller → Operation → Results → Ty → List Ty → Step Results
pairs_of_left call operation before left [] = Done before
pairs_of_left call operation before left (right ∷ rights) =
    and_then (infer_pair call operation left right) (λ found.
    pairs_of_left call operation (with_result before found) left rights)

-- what an operation gives on each pair of these operands
unfoldable pub pairs_of : Caller → Operation → Results → List Ty → List Ty → Step Results
pairs_of call operation before [] rights = Done before
pairs_of call operation before (left ∷ lefts) rights =
    and_then (pairs_of_left call operation before left rights) (λ found.
    pairs_of call operation found lefts rights)
