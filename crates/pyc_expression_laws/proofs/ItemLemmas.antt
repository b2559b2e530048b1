-- What a subscript and an iteration ask.
use Rattle.std.proofs.Common.{◌≡◌, Bool, true, false, codes, if◌then◌else◌, is_some, List, [], ◌∷◌, ◌++◌, flat_map, Option, None, Some, refl, sym, ap, ◌∙◌, append-nil}
use Rattle.pyc_ast.specs.declared.position.Position.{Position}
use Rattle.pyc_ast.specs.Exprs.{Index}
use Rattle.pyc_class_ids.specs.declared.builtin_class.BuiltinClass.TheVariants as class
use Rattle.pyc_class_ids.specs.Class.{Id, builtin, user}
use Rattle.pyc_class_ids.specs.Mro.{Mro, is_unknown, order_contains}
use Rattle.pyc_subscripts.specs.Chosen.{at_of, is_slice, chosen_by, chosen_type}
use Rattle.pyc_subscripts.specs.Iteration.{not_iterable, item_not_iterable, part_by, item_part, union_part, infer_more_parts, infer_union_iteration, limited_part, infer_part_by_owner, infer_single_iteration}
use Rattle.pyc_subscripts.specs.Owners.{Owner, unknown_owner, builtin_owner, int_type, counted, counts_as, ask_owner, user_owner, source_owner, subscript_owner, owner_by_iter, ask_item_iterable, ask_iterable, user_iterable, source_iterable, iterable}
use Rattle.pyc_subscripts.specs.Subscripts.{report_out_of_range, not_indexable, required_index, required_item, sequence_item, placed_item, fixed_item, builtin_item, infer_item_by_owner, item_of, Items, no_items, with_item, more_items, finish_union, subscript}
use Rattle.pyc_expression_laws.proofs.AskedLemmas.{asked-and_then, asked-then_nothing, asked-unless, asked-either, asked-by}
use Rattle.pyc_expression_laws.proofs.ObligationLemmas.{obligation_asks}
use Rattle.pyc_expression_laws.specs.ItemRows.{subscript_keys, sequence_index_keys, builtin_index_keys, index_keys, item_subscript_keys, SubscriptOwnerReads, SubscriptReads, iteration_keys, IterationReads}
use Rattle.pyc_expression_laws.specs.ObligationRows.{obligation_keys}
use Rattle.pyc_expression_laws.specs.Rows.{Answers, class_key, member_key, member_at, has_member, order_at}
use Rattle.pyc_reading.specs.Answers.{MemberAnswer}
use Rattle.pyc_reading.specs.Traces.{required}
use Rattle.pyc_reading.specs.Readings.{Done, and_then, result_of, asked}
use Rattle.pyc_type_forms.specs.Types.{Ty, Tys, any, none, module_type, instance, class_object, list, dict, tuple, tuple_of, union, callable}
use Rattle.pyc_type_forms.specs.Unions.{row_items, items_of, union_of}

-- ---- what a subscript goes by

-- an instance of a class of a known order
counted_owner-asks : (answers : Answers) (c : Id) (order : Mro) → asked answers (user_owner c (counted order)) ≡ member_key c (codes "__getitem__") ∷ []
unfolding ask_owner and_then
counted_owner-asks answers c order =
    asked-either answers (user_owner c) _ (order_contains order (builtin class.Str)) _ _ refl
    (asked-either answers (user_owner c) _ (order_contains order (builtin class.Bytes)) _ _ refl refl)

-- an instance of a class
user_owner-asks : (answers : Answers) (c : Id) (order : Mro) → asked answers (user_owner c (counts_as order)) ≡ (if is_unknown order then [] else member_key c (codes "__getitem__") ∷ [])
user_owner-asks answers c order = asked-by answers (user_owner c) (is_unknown order) _ _ _ _ refl (counted_owner-asks answers c order)

pub subscript_owner_asks : SubscriptOwnerReads
unfolding source_owner
subscript_owner_asks answers (instance (user m x)) = ap (λ l. class_key (user m x) ∷ l) (user_owner-asks answers (user m x) (order_at answers (user m x)))
subscript_owner_asks answers _ = refl

-- ---- what is required of the index

required_item-asks : (answers : Answers) (at : Position) (got whole want given : Ty) → asked answers (required_item at got whole want given) ≡ obligation_keys got want
unfolding required_item
required_item-asks answers at got whole want given =
    asked-then_nothing answers (required (required_index at got whole want)) (λ u. Done (Some given)) (λ u. refl)
    ∙ obligation_asks answers (required_index at got whole want)
    ∙ append-nil (obligation_keys got want)

sequence_item-asks : (answers : Answers) (brackets : Index) (got whole given : Ty) → asked answers (sequence_item brackets got whole given) ≡ sequence_index_keys brackets got
sequence_item-asks answers brackets got whole given =
    asked-unless answers (is_slice brackets) (Some whole) (required_item (at_of brackets) got whole int_type given)
    ∙ ap (λ keys. if is_slice brackets then [] else keys) (required_item-asks answers (at_of brackets) got whole int_type given)

placed_item-asks : (answers : Answers) (at : Position) (found : Option Ty) → asked answers (placed_item at found) ≡ []
unfolding report_out_of_range
placed_item-asks answers at (Some ty) = refl
placed_item-asks answers at None = refl

fixed_item-asks : (answers : Answers) (at : Position) (brackets : Index) (items : Tys) → asked answers (fixed_item at (chosen_by brackets) items) ≡ []
fixed_item-asks answers at brackets items = elim (chosen_by brackets) as (λ chosen. asked answers (fixed_item at chosen items) ≡ []) [
  | Some place ↦ placed_item-asks answers at (chosen_type place items)
  | None ↦ refl
]

builtin_item-asks : (answers : Answers) (at : Position) (brackets : Index) (got ty : Ty) → asked answers (builtin_item at brackets got ty) ≡ builtin_index_keys brackets got ty
builtin_item-asks answers at brackets got (instance (builtin class.Str)) = sequence_item-asks answers brackets got _ _
builtin_item-asks answers at brackets got (instance (builtin class.Bytes)) = sequence_item-asks answers brackets got _ _
builtin_item-asks answers at brackets got (list item) = sequence_item-asks answers brackets got (list item) item
builtin_item-asks answers at brackets got (dict key value) = required_item-asks answers (at_of brackets) got (dict key value) key value
builtin_item-asks answers at brackets got (tuple items) = fixed_item-asks answers at brackets items
builtin_item-asks answers at brackets got _ = refl

infer_item_by_owner-asks : (answers : Answers) (at : Position) (brackets : Index) (got : Ty) (owner : Owner) → asked answers (infer_item_by_owner at brackets got owner) ≡ index_keys brackets got owner
infer_item_by_owner-asks answers at brackets got (builtin_owner ty) = builtin_item-asks answers at brackets got ty
infer_item_by_owner-asks answers at brackets got _ = refl

-- ---- subscripts

pub item_of-asks : (answers : Answers) (at : Position) (brackets : Index) (got ty : Ty) → asked answers (item_of at brackets got ty) ≡ item_subscript_keys answers brackets got ty
unfolding item_of
item_of-asks answers at brackets got ty =
    let owner : Owner = result_of answers (subscript_owner ty) in
    asked-and_then answers (subscript_owner ty) (infer_item_by_owner at brackets got)
    ∙ ap (λ l. l ++ asked answers (infer_item_by_owner at brackets got owner)) (subscript_owner_asks answers ty)
    ∙ ap (λ l. subscript_keys answers ty ++ l) (infer_item_by_owner-asks answers at brackets got owner)

more_items-asks : (answers : Answers) (at : Position) (brackets : Index) (got : Ty) (found : Items) (types : List Ty)
    → asked answers (more_items at brackets got found types) ≡ flat_map (λ item. item_subscript_keys answers brackets got item) types
unfolding more_items
more_items-asks answers at brackets got found [] = refl
more_items-asks answers at brackets got found (ty ∷ types) =
    let first = item_of at brackets got ty in
    let next : Items = with_item found (result_of answers first) in
    asked-and_then answers first (λ item. more_items at brackets got (with_item found item) types)
    ∙ ap (λ l. l ++ asked answers (more_items at brackets got next types)) (item_of-asks answers at brackets got ty)
    ∙ ap (λ l. item_subscript_keys answers brackets got ty ++ l) (more_items-asks answers at brackets got next types)

finish_union-asks : (answers : Answers) (at : Position) (ty : Ty) (types : List Ty) (is_failed : Bool)
    → asked answers (finish_union at ty (record { types = types; is_failed = is_failed })) ≡ []
unfolding not_indexable
finish_union-asks answers at ty types true = refl
finish_union-asks answers at ty types false = refl

pub subscript_asks : SubscriptReads
unfolding subscript
subscript_asks answers at brackets got ty =
    asked-then_nothing answers (more_items at brackets got no_items (items_of ty)) (finish_union at ty) (λ found. finish_union-asks answers at ty found.types found.is_failed)
    ∙ more_items-asks answers at brackets got no_items (items_of ty)

-- ---- iterations

owner_by_iter-asks : (answers : Answers) (c : Id) (form : _) (found : Option MemberAnswer)
    → asked answers (owner_by_iter c form found) ≡ (if is_some found then [] else member_key c (codes "__getitem__") ∷ [])
unfolding ask_item_iterable and_then
owner_by_iter-asks answers c form (Some found) = refl
owner_by_iter-asks answers c form None = refl

ask_iterable-asks : (answers : Answers) (c : Id) (form : _)
    → asked answers (ask_iterable c form)
    ≡ member_key c (codes "__iter__") ∷ (if has_member answers c (codes "__iter__") then [] else member_key c (codes "__getitem__") ∷ [])
unfolding ask_iterable and_then
ask_iterable-asks answers c form = ap (λ l. member_key c (codes "__iter__") ∷ l) (owner_by_iter-asks answers c form (member_at answers c (codes "__iter__")))

-- an instance of a class of a known order
counted_iterable-asks : (answers : Answers) (c : Id) (order : Mro)
    → asked answers (user_iterable c (counted order))
    ≡ member_key c (codes "__iter__") ∷ (if has_member answers c (codes "__iter__") then [] else member_key c (codes "__getitem__") ∷ [])
counted_iterable-asks answers c order =
    asked-either answers (user_iterable c) _ (order_contains order (builtin class.Str)) _ _ (ask_iterable-asks answers c _)
    (asked-either answers (user_iterable c) _ (order_contains order (builtin class.Bytes)) _ _ (ask_iterable-asks answers c _) (ask_iterable-asks answers c _))

-- an instance of a class
user_iterable-asks : (answers : Answers) (c : Id) (order : Mro)
    → asked answers (user_iterable c (counts_as order))
    ≡ (if is_unknown order then [] else member_key c (codes "__iter__") ∷ (if has_member answers c (codes "__iter__") then [] else member_key c (codes "__getitem__") ∷ []))
user_iterable-asks answers c order = asked-by answers (user_iterable c) (is_unknown order) _ _ _ _ refl (counted_iterable-asks answers c order)

iterable-asks : (answers : Answers) (ty : Ty) → asked answers (iterable ty) ≡ iteration_keys answers ty
unfolding source_iterable
iterable-asks answers (instance (user m x)) = ap (λ l. class_key (user m x) ∷ l) (user_iterable-asks answers (user m x) (order_at answers (user m x)))
iterable-asks answers _ = refl

part_by-asks : (answers : Answers) (at : Position) (ty : Ty) (owner : Owner) → asked answers (part_by at ty owner) ≡ []
unfolding not_iterable
part_by-asks answers at ty unknown_owner = refl
part_by-asks answers at ty _ = refl

infer_part_by_owner-asks : (answers : Answers) (at : Position) (ty : Ty) (owner : Owner) → asked answers (infer_part_by_owner at ty owner) ≡ []
unfolding infer_part_by_owner
infer_part_by_owner-asks answers at ty owner = asked-then_nothing answers (part_by at ty owner) (λ part. Done (limited_part part)) (λ part. refl) ∙ part_by-asks answers at ty owner

single-asks : (answers : Answers) (at : Position) (ty : Ty) → asked answers (infer_single_iteration at ty) ≡ iteration_keys answers ty ++ []
unfolding infer_single_iteration
single-asks answers at ty =
    asked-then_nothing answers (iterable ty) (infer_part_by_owner at ty) (λ owner. infer_part_by_owner-asks answers at ty owner)
    ∙ iterable-asks answers ty
    ∙ sym (append-nil (iteration_keys answers ty))

item_part-asks : (answers : Answers) (at : Position) (whole item : Ty) (owner : Owner) → asked answers (item_part at whole item owner) ≡ []
unfolding item_not_iterable
item_part-asks answers at whole item unknown_owner = refl
item_part-asks answers at whole item _ = refl

union_part-asks : (answers : Answers) (at : Position) (whole item : Ty) → asked answers (union_part at whole item) ≡ iteration_keys answers item
unfolding union_part
union_part-asks answers at whole item =
    asked-then_nothing answers (iterable item) (item_part at whole item) (λ owner. item_part-asks answers at whole item owner) ∙ iterable-asks answers item

infer_more_parts-asks : (answers : Answers) (at : Position) (whole : Ty) (found items : List Ty)
    → asked answers (infer_more_parts at whole found items) ≡ flat_map (λ item. iteration_keys answers item) items
unfolding infer_more_parts
infer_more_parts-asks answers at whole found [] = refl
infer_more_parts-asks answers at whole found (item ∷ items) =
    let first = union_part at whole item in
    let next : Ty = result_of answers first in
    asked-and_then answers first (λ ty. infer_more_parts at whole (found ++ (ty ∷ [])) items)
    ∙ ap (λ l. l ++ asked answers (infer_more_parts at whole (found ++ (next ∷ [])) items)) (union_part-asks answers at whole item)
    ∙ ap (λ l. iteration_keys answers item ++ l) (infer_more_parts-asks answers at whole (found ++ (next ∷ [])) items)

union-asks : (answers : Answers) (at : Position) (items : Tys)
    → asked answers (infer_union_iteration at (union items) (row_items items)) ≡ flat_map (λ item. iteration_keys answers item) (row_items items)
unfolding infer_union_iteration
union-asks answers at items =
    asked-then_nothing answers (infer_more_parts at (union items) [] (row_items items)) (λ found. Done (union_of found)) (λ found. refl)
    ∙ infer_more_parts-asks answers at (union items) [] (row_items items)

pub iteration_asks : IterationReads
iteration_asks answers at (union items) = union-asks answers at items
iteration_asks answers at any = single-asks answers at any
iteration_asks answers at none = single-asks answers at none
iteration_asks answers at (module_type m) = single-asks answers at (module_type m)
iteration_asks answers at (instance c) = single-asks answers at (instance c)
iteration_asks answers at (class_object c) = single-asks answers at (class_object c)
iteration_asks answers at (list item) = single-asks answers at (list item)
iteration_asks answers at (dict key value) = single-asks answers at (dict key value)
iteration_asks answers at (tuple items) = single-asks answers at (tuple items)
iteration_asks answers at (tuple_of item) = single-asks answers at (tuple_of item)
iteration_asks answers at (callable params result) = single-asks answers at (callable params result)
