-- What an operation asks (Python reference 3.13, "Binary arithmetic operations", "Comparisons", "Unary arithmetic and
-- bitwise operations" and "Emulating numeric types"; typing specification, "Union types").
use Rattle.std.specs.Prelude.{◌≡◌, ℕ, Bool, true, false, ◌||◌, codes, if◌then◌else◌, List, [], ◌∷◌, ◌++◌, flat_map}
use Rattle.std.specs.Prelude.{Option, None, Some}
use Rattle.pyc_ast.specs.declared.operator.ComparisonOperator.{ComparisonOperator}
use Rattle.pyc_ast.specs.declared.operator.ComparisonOperator.TheVariants as comparison
use Rattle.pyc_ast.specs.declared.operator.Operator.{Operator}
use Rattle.pyc_ast.specs.declared.operator.UnaryOperator.{UnaryOperator}
use Rattle.pyc_ast.specs.declared.operator.UnaryOperator.TheVariants as unary_operator
use Rattle.pyc_ast.specs.declared.position.Position.{Position}
use Rattle.pyc_class_ids.specs.Class.{user}
use Rattle.pyc_operators.specs.Binary.{binary, check_comparison}
use Rattle.pyc_operators.specs.Methods.{Caller}
use Rattle.pyc_operators.specs.Operations.{operator_method}
use Rattle.pyc_operators.specs.Unary.{unary}
use Rattle.pyc_expression_laws.specs.Rows.{Answers, class_key, member_key, member_at, has_no_order}
use Rattle.pyc_reading.specs.Answers.{MemberAnswer}
use Rattle.pyc_reading.specs.Keys.{Key}
use Rattle.pyc_reading.specs.Readings.{asked}
use Rattle.pyc_type_forms.specs.Types.{Ty, any, instance}
use Rattle.pyc_type_forms.specs.Unions.{items_of}

-- ---- operands

-- the order of the class of an operand, where that is a class of a source
abbrev pub operand_keys : Ty → List Key
operand_keys (instance (user m x)) = class_key (user m x) ∷ []
operand_keys _ = []

-- whether an operand is Any
abbrev pub is_any_type : Ty → Bool
is_any_type any = true
is_any_type _ = false

-- whether it is Any, or an instance of a class of a source whose order is not known
abbrev pub counts_as_any : Answers → Ty → Bool
counts_as_any answers any = true
counts_as_any answers (instance (user m x)) = has_no_order answers (user m x)
counts_as_any answers _ = false

-- ---- methods

-- the call of a method that was found
abbrev pub called_keys : Answers → Caller → List Ty → Option MemberAnswer → List Key
called_keys answers call operands (Some method) = asked answers (call method operands)
called_keys answers call operands None = []

-- the method of a name of an operand, where that is an instance of a class of a source, and the call of it with other
-- operands
abbrev pub method_keys : Answers → Caller → List ℕ → Ty → List Ty → List Key
method_keys answers call name (instance (user m x)) operands =
    member_key (user m x) name ∷ called_keys answers call operands (member_at answers (user m x) name)
method_keys answers call name _ operands = []

-- the method that a comparison in order calls; other comparisons call none
abbrev pub comparison_method : ComparisonOperator → Option (List ℕ)
comparison_method comparison.Lt = Some (codes "__lt__")
comparison_method comparison.Gt = Some (codes "__gt__")
comparison_method comparison.LtE = Some (codes "__le__")
comparison_method comparison.GtE = Some (codes "__ge__")
comparison_method _ = None

-- the method that a unary operator calls; `not` calls none
abbrev pub unary_method : UnaryOperator → Option (List ℕ)
unary_method unary_operator.UAdd = Some (codes "__pos__")
unary_method unary_operator.USub = Some (codes "__neg__")
unary_method unary_operator.Invert = Some (codes "__invert__")
unary_method unary_operator.Not = None

-- ---- two operands

-- a pair of operands that are no unions: with Any on a side nothing; else the class of the left one; where its order is
-- known the class of the right one; where that is known too the method of the left one
abbrev pub pair_keys : Answers → Caller → List ℕ → Ty → Ty → List Key
pair_keys answers call name left right =
    if is_any_type left || is_any_type right then []
    else
    operand_keys left
    ++ (if counts_as_any answers left then []
    else
    operand_keys right
    ++ (if counts_as_any answers right then [] else method_keys answers call name left (right ∷ [])))

-- two operands: each pair of an item of the left one and an item of the right one, in turn
abbrev pub pairs_keys : Answers → Caller → List ℕ → Ty → Ty → List Key
pairs_keys answers call name left right =
    flat_map (λ one. flat_map (λ other. pair_keys answers call name one other) (items_of right)) (items_of left)

-- the law of binary operations
abbrev pub BinaryReads : Type 0
BinaryReads =
    (answers : Answers) (call : Caller) (at : Position) (operator : Operator) (left right : Ty)
    → asked answers (binary call at operator left right) ≡ pairs_keys answers call (operator_method operator) left right

-- two operands that are compared: where it is no comparison in order nothing
abbrev pub comparison_keys : Answers → Caller → Option (List ℕ) → Ty → Ty → List Key
comparison_keys answers call (Some name) left right = pairs_keys answers call name left right
comparison_keys answers call None left right = []

-- the law of comparisons
abbrev pub ComparisonReads : Type 0
ComparisonReads =
    (answers : Answers) (call : Caller) (at : Position) (operator : ComparisonOperator) (left right : Ty)
    → asked answers (check_comparison call at operator left right)
    ≡ comparison_keys answers call (comparison_method operator) left right

-- ---- one operand

-- an operand that is no union: its class, and where the order of that is known its method
abbrev pub operand_method_keys : Answers → Caller → List ℕ → Ty → List Key
operand_method_keys answers call name operand =
    operand_keys operand ++ (if counts_as_any answers operand then [] else method_keys answers call name operand [])

-- one operand: each item of it, in turn; of `not` nothing
abbrev pub unary_keys : Answers → Caller → Option (List ℕ) → Ty → List Key
unary_keys answers call (Some name) operand =
    flat_map (λ item. operand_method_keys answers call name item) (items_of operand)
unary_keys answers call None operand = []

-- the law of unary operations
abbrev pub UnaryReads : Type 0
UnaryReads =
    (answers : Answers) (call : Caller) (at : Position) (operator : UnaryOperator) (operand : Ty)
    → asked answers (unary call at operator operand) ≡ unary_keys answers call (unary_method operator) operand
