-- What an operation asks.
use Rattle.std.proofs.Common.{◌≡◌, ℕ, Bool, true, false, ◌||◌, if◌then◌else◌, List, [], ◌∷◌, ◌++◌, flat_map, Option, None, Some, refl, ap, ◌∙◌}
use Rattle.pyc_ast.specs.declared.operator.ComparisonOperator.TheVariants as comparison
use Rattle.pyc_ast.specs.declared.operator.UnaryOperator.TheVariants as unary_operator
use Rattle.pyc_ast.specs.declared.position.Position.{Position}
use Rattle.pyc_class_ids.specs.declared.builtin_class.BuiltinClass.{BuiltinClass}
use Rattle.pyc_class_ids.specs.declared.builtin_class.BuiltinClass.TheVariants as class
use Rattle.pyc_class_ids.specs.Class.{builtin, user}
use Rattle.pyc_class_ids.specs.Mro.{Mro, is_unknown, order_contains}
use Rattle.pyc_operators.specs.Binary.{finish_union, pairs, infer_operation, compare_in_order}
use Rattle.pyc_operators.specs.Messages.{wrong_operands, wrong_operand}
use Rattle.pyc_operators.specs.Methods.{Caller, method_of}
use Rattle.pyc_operators.specs.Operations.{comparison_method, method_name, unary_method}
use Rattle.pyc_operators.specs.Pairs.{given_by_sorts, infer_by_method, infer_by_both_sorts, infer_by_left_sort, infer_pair}
use Rattle.pyc_operators.specs.Results.{Results, no_results, with_result, pairs_of_left, pairs_of}
use Rattle.pyc_operators.specs.Sorts.{builtin_sort, sort_of, is_any, counted_sort, ordered_sort, operand_sort}
use Rattle.pyc_operators.specs.Unary as one
use Rattle.pyc_expression_laws.proofs.AskedLemmas.{asked-and_then, asked-then_nothing, asked-unless}
use Rattle.pyc_expression_laws.specs.OperatorRows.{operand_keys, is_any_type, counts_as_any, called_keys, method_keys, pair_keys, pairs_keys, operand_method_keys, BinaryReads, ComparisonReads, UnaryReads}
use Rattle.pyc_expression_laws.specs.Rows.{Answers, member_key, member_at, order_at}
use Rattle.pyc_reading.specs.Answers.{MemberAnswer}
use Rattle.pyc_reading.specs.Traces.{Step}
use Rattle.pyc_reading.specs.Keys.{Key}
use Rattle.pyc_reading.specs.Readings.{Done, and_then, result_of, asked}
use Rattle.pyc_type_forms.specs.Types.{Ty, any, instance}
use Rattle.pyc_type_forms.specs.Unions.{items_of}

-- ---- sorts

-- what counts as Any of either of two things counts as Any
is_any-either : (b : Bool) (x y : _) → is_any x ≡ false → is_any y ≡ false → is_any (if b then x else y) ≡ false
is_any-either true x y first second = first
is_any-either false x y first second = second

builtin-is_any : (c : BuiltinClass) → is_any (builtin_sort c) ≡ false
builtin-is_any class.Bool = refl
builtin-is_any _ = refl

counted-is_any : (order : Mro) → is_any (counted_sort order) ≡ false
counted-is_any order =
    is_any-either (order_contains order (builtin class.Int)) _ _ refl
    (is_any-either (order_contains order (builtin class.Float)) _ _ refl
    (is_any-either (order_contains order (builtin class.Str)) _ _ refl
    (is_any-either (order_contains order (builtin class.Bytes)) _ _ refl refl)))

is_any-by : (b : Bool) (x y : _) → is_any x ≡ true → is_any y ≡ false → is_any (if b then x else y) ≡ b
is_any-by true x y first second = first
is_any-by false x y first second = second

compare_in_order-is_any : (order : Mro) → is_any (ordered_sort order) ≡ is_unknown order
compare_in_order-is_any order = is_any-by (is_unknown order) _ _ refl (counted-is_any order)

-- by the type alone
type-is_any : (ty : Ty) → is_any (sort_of ty) ≡ is_any_type ty
type-is_any any = refl
type-is_any (instance (builtin c)) = builtin-is_any c
type-is_any (instance (user m x)) = refl
type-is_any _ = refl

-- by the order of a class too
operand-is_any : (answers : Answers) (ty : Ty) → is_any (result_of answers (operand_sort ty)) ≡ counts_as_any answers ty
operand-is_any answers any = refl
operand-is_any answers (instance (builtin c)) = builtin-is_any c
operand-is_any answers (instance (user m x)) = compare_in_order-is_any (order_at answers (user m x))
operand-is_any answers _ = refl

operand-asks : (answers : Answers) (ty : Ty) → asked answers (operand_sort ty) ≡ operand_keys ty
operand-asks answers (instance (user m x)) = refl
operand-asks answers _ = refl

-- an operand is read, and then nothing more is asked where it counts as Any
pub operand_then-asks : {A : Type 0} (answers : Answers) (ty : Ty) (next : _ → Step A) (rest : List Key)
    → ((sort : _) → asked answers (next sort) ≡ (if is_any sort then [] else rest))
    → asked answers (and_then (operand_sort ty) next) ≡ operand_keys ty ++ (if counts_as_any answers ty then [] else rest)
operand_then-asks answers ty next rest each =
    let sort = result_of answers (operand_sort ty) in
    asked-and_then answers (operand_sort ty) next
    ∙ ap (λ l. l ++ asked answers (next sort)) (operand-asks answers ty)
    ∙ ap (λ l. operand_keys ty ++ l) (each sort ∙ ap (λ b. if b then [] else rest) (operand-is_any answers ty))

-- ---- pairs

infer_by_method-asks : (answers : Answers) (call : Caller) (given : _) (left right : Ty) (found : Option MemberAnswer)
    → asked answers (infer_by_method call given left right found) ≡ called_keys answers call (right ∷ []) found
unfolding infer_by_method
infer_by_method-asks answers call given left right (Some method) = refl
infer_by_method-asks answers call given left right None = refl

left_method-asks : (answers : Answers) (call : Caller) (given : _) (name : List ℕ) (left right : Ty)
    → asked answers (and_then (method_of left name) (λ method. infer_by_method call given left right method)) ≡ method_keys answers call name left (right ∷ [])
unfolding and_then infer_by_method
left_method-asks answers call given name (instance (user m x)) right =
    ap (λ l. member_key (user m x) name ∷ l) (infer_by_method-asks answers call given (instance (user m x)) right (member_at answers (user m x) name))
left_method-asks answers call given name _ right = refl

infer_by_both_sorts-asks : (answers : Answers) (call : Caller) (operation : _) (left right : Ty) (left_sort right_sort : _)
    → asked answers (infer_by_both_sorts call operation left right left_sort right_sort) ≡ (if is_any right_sort then [] else method_keys answers call (method_name operation) left (right ∷ []))
unfolding infer_by_both_sorts
infer_by_both_sorts-asks answers call operation left right left_sort right_sort =
    let given = given_by_sorts operation left right left_sort right_sort in
    asked-unless answers (is_any right_sort) (Some any) (and_then (method_of left (method_name operation)) (λ method. infer_by_method call given left right method))
    ∙ ap (λ keys. if is_any right_sort then [] else keys) (left_method-asks answers call given (method_name operation) left right)

infer_by_left_sort-asks : (answers : Answers) (call : Caller) (operation : _) (left right : Ty) (left_sort : _)
    → asked answers (infer_by_left_sort call operation left right left_sort)
    ≡ (if is_any left_sort then [] else operand_keys right ++ (if counts_as_any answers right then [] else method_keys answers call (method_name operation) left (right ∷ [])))
unfolding infer_by_left_sort
infer_by_left_sort-asks answers call operation left right left_sort =
    asked-unless answers (is_any left_sort) (Some any) (and_then (operand_sort right) (λ right_sort. infer_by_both_sorts call operation left right left_sort right_sort))
    ∙ ap (λ keys. if is_any left_sort then [] else keys)
    (operand_then-asks answers right (λ right_sort. infer_by_both_sorts call operation left right left_sort right_sort) (method_keys answers call (method_name operation) left (right ∷ []))
    (λ right_sort. infer_by_both_sorts-asks answers call operation left right left_sort right_sort))

infer_pair-asks : (answers : Answers) (call : Caller) (operation : _) (left right : Ty)
    → asked answers (infer_pair call operation left right) ≡ pair_keys answers call (method_name operation) left right
unfolding infer_pair
infer_pair-asks answers call operation left right =
    let rest = operand_keys right ++ (if counts_as_any answers right then [] else method_keys answers call (method_name operation) left (right ∷ [])) in
    let keys = operand_keys left ++ (if counts_as_any answers left then [] else rest) in
    asked-unless answers (is_any (sort_of left) || is_any (sort_of right)) (Some any) (and_then (operand_sort left) (λ left_sort. infer_by_left_sort call operation left right left_sort))
    ∙ ap (λ l. if is_any (sort_of left) || is_any (sort_of right) then [] else l)
    (operand_then-asks answers left (λ left_sort. infer_by_left_sort call operation left right left_sort) rest (λ left_sort. infer_by_left_sort-asks answers call operation left right left_sort))
    ∙ ap (λ b. if b || is_any (sort_of right) then [] else keys) (type-is_any left)
    ∙ ap (λ b. if is_any_type left || b then [] else keys) (type-is_any right)

-- ---- two operands

pairs_of_left-asks : (answers : Answers) (call : Caller) (operation : _) (before : Results) (left : Ty) (rights : List Ty)
    → asked answers (pairs_of_left call operation before left rights) ≡ flat_map (λ r. pair_keys answers call (method_name operation) left r) rights
unfolding pairs_of_left
pairs_of_left-asks answers call operation before left [] = refl
pairs_of_left-asks answers call operation before left (right ∷ rights) =
    let next = with_result before (result_of answers (infer_pair call operation left right)) in
    asked-and_then answers (infer_pair call operation left right) (λ found. pairs_of_left call operation (with_result before found) left rights)
    ∙ ap (λ l. l ++ asked answers (pairs_of_left call operation next left rights)) (infer_pair-asks answers call operation left right)
    ∙ ap (λ l. pair_keys answers call (method_name operation) left right ++ l) (pairs_of_left-asks answers call operation next left rights)

pairs_of-asks : (answers : Answers) (call : Caller) (operation : _) (before : Results) (lefts rights : List Ty)
    → asked answers (pairs_of call operation before lefts rights) ≡ flat_map (λ l. flat_map (λ r. pair_keys answers call (method_name operation) l r) rights) lefts
unfolding pairs_of
pairs_of-asks answers call operation before [] rights = refl
pairs_of-asks answers call operation before (left ∷ lefts) rights =
    let first = pairs_of_left call operation before left rights in
    let next = result_of answers first in
    asked-and_then answers first (λ found. pairs_of call operation found lefts rights)
    ∙ ap (λ l. l ++ asked answers (pairs_of call operation next lefts rights)) (pairs_of_left-asks answers call operation before left rights)
    ∙ ap (λ l. flat_map (λ r. pair_keys answers call (method_name operation) left r) rights ++ l) (pairs_of-asks answers call operation next lefts rights)

finish_union-asks : (answers : Answers) (at : Position) (operation : _) (left right : Ty) (types : List Ty) (is_failed : Bool)
    → asked answers (finish_union at operation left right (record { types = types; is_failed = is_failed })) ≡ []
unfolding finish_union wrong_operands
finish_union-asks answers at operation left right types true = refl
finish_union-asks answers at operation left right types false = refl

infer_operation-asks : (answers : Answers) (call : Caller) (at : Position) (operation : _) (left right : Ty)
    → asked answers (infer_operation call at operation left right) ≡ pairs_keys answers call (method_name operation) left right
unfolding infer_operation
infer_operation-asks answers call at operation left right =
    asked-then_nothing answers (pairs call operation left right) (λ results. finish_union at operation left right results) (λ found. finish_union-asks answers at operation left right found.types found.is_failed)
    ∙ pairs_of-asks answers call operation no_results (items_of left) (items_of right)

pub binary_asks : BinaryReads
binary_asks answers call at operator left right = infer_operation-asks answers call at _ left right

compare_in_order-asks : (answers : Answers) (call : Caller) (at : Position) (compared_by : _) (left right : Ty)
    → asked answers (compare_in_order call at compared_by left right) ≡ pairs_keys answers call (comparison_method compared_by) left right
unfolding compare_in_order
compare_in_order-asks answers call at compared_by left right =
    asked-then_nothing answers (infer_operation call at _ left right) (λ ty. Done tt) (λ ty. refl) ∙ infer_operation-asks answers call at _ left right

pub comparison_asks : ComparisonReads
comparison_asks answers call at comparison.Lt left right = compare_in_order-asks answers call at _ left right
comparison_asks answers call at comparison.Gt left right = compare_in_order-asks answers call at _ left right
comparison_asks answers call at comparison.LtE left right = compare_in_order-asks answers call at _ left right
comparison_asks answers call at comparison.GtE left right = compare_in_order-asks answers call at _ left right
comparison_asks answers call at _ left right = refl

-- ---- one operand

one_method-asks : (answers : Answers) (call : Caller) (operation : _) (operand : Ty) (sort : _) (found : Option MemberAnswer)
    → asked answers (one.infer_by_method call operation operand sort found) ≡ called_keys answers call [] found
unfolding one.infer_by_method
one_method-asks answers call operation operand sort (Some method) = refl
one_method-asks answers call operation operand sort None = refl

operand_method-asks : (answers : Answers) (call : Caller) (operation : _) (name : List ℕ) (operand : Ty) (sort : _)
    → asked answers (and_then (method_of operand name) (λ method. one.infer_by_method call operation operand sort method)) ≡ method_keys answers call name operand []
unfolding and_then one.infer_by_method
operand_method-asks answers call operation name (instance (user m x)) sort =
    ap (λ l. member_key (user m x) name ∷ l) (one_method-asks answers call operation (instance (user m x)) sort (member_at answers (user m x) name))
operand_method-asks answers call operation name _ sort = refl

infer_by_sort-asks : (answers : Answers) (call : Caller) (operation : _) (operand : Ty) (sort : _)
    → asked answers (one.infer_by_sort call operation operand sort) ≡ (if is_any sort then [] else method_keys answers call (unary_method operation) operand [])
unfolding one.infer_by_sort
infer_by_sort-asks answers call operation operand sort =
    asked-unless answers (is_any sort) (Some any) (and_then (method_of operand (unary_method operation)) (λ method. one.infer_by_method call operation operand sort method))
    ∙ ap (λ keys. if is_any sort then [] else keys) (operand_method-asks answers call operation (unary_method operation) operand sort)

one_item-asks : (answers : Answers) (call : Caller) (operation : _) (operand : Ty)
    → asked answers (one.one_item call operation operand) ≡ operand_method_keys answers call (unary_method operation) operand
unfolding one.one_item
one_item-asks answers call operation operand =
    operand_then-asks answers operand (λ sort. one.infer_by_sort call operation operand sort) (method_keys answers call (unary_method operation) operand []) (λ sort. infer_by_sort-asks answers call operation operand sort)

each_item-asks : (answers : Answers) (call : Caller) (operation : _) (before : Results) (operands : List Ty)
    → asked answers (one.each_item call operation before operands) ≡ flat_map (λ item. operand_method_keys answers call (unary_method operation) item) operands
unfolding one.each_item
each_item-asks answers call operation before [] = refl
each_item-asks answers call operation before (operand ∷ operands) =
    let next = with_result before (result_of answers (one.one_item call operation operand)) in
    asked-and_then answers (one.one_item call operation operand) (λ found. one.each_item call operation (with_result before found) operands)
    ∙ ap (λ l. l ++ asked answers (one.each_item call operation next operands)) (one_item-asks answers call operation operand)
    ∙ ap (λ l. operand_method_keys answers call (unary_method operation) operand ++ l) (each_item-asks answers call operation next operands)

unary_ended-asks : (answers : Answers) (at : Position) (operation : _) (operand : Ty) (types : List Ty) (is_failed : Bool)
    → asked answers (one.finish_union at operation operand (record { types = types; is_failed = is_failed })) ≡ []
unfolding one.finish_union wrong_operand
unary_ended-asks answers at operation operand types true = refl
unary_ended-asks answers at operation operand types false = refl

unary_operated-asks : (answers : Answers) (call : Caller) (at : Position) (operation : _) (operand : Ty)
    → asked answers (one.infer_operation call at operation operand) ≡ flat_map (λ item. operand_method_keys answers call (unary_method operation) item) (items_of operand)
unfolding one.infer_operation
unary_operated-asks answers call at operation operand =
    asked-then_nothing answers (one.items call operation operand) (λ results. one.finish_union at operation operand results) (λ found. unary_ended-asks answers at operation operand found.types found.is_failed)
    ∙ each_item-asks answers call operation no_results (items_of operand)

pub unary_asks : UnaryReads
unary_asks answers call at unary_operator.UAdd operand = unary_operated-asks answers call at _ operand
unary_asks answers call at unary_operator.USub operand = unary_operated-asks answers call at _ operand
unary_asks answers call at unary_operator.Invert operand = unary_operated-asks answers call at _ operand
unary_asks answers call at unary_operator.Not operand = refl
