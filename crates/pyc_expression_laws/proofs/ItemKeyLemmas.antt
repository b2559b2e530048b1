-- What subscripts and iterations ask.
use Rattle.std.proofs.Common.{ℕ, codes, List, [], ◌∷◌, ◌++◌, Option, None, Some, refl}
use Rattle.pyc_ast.specs.declared.position.Position.{Position}
use Rattle.pyc_ast.specs.Exprs.{Index}
use Rattle.pyc_class_ids.specs.declared.builtin_class.BuiltinClass.TheVariants as class
use Rattle.pyc_class_ids.specs.Class.{Id, builtin, user}
use Rattle.pyc_class_ids.specs.Mro.{Mro, is_unknown, order_contains}
use Rattle.pyc_subscripts.specs.Chosen.{at_of, chosen_by, chosen_type, is_slice}
use Rattle.pyc_subscripts.specs.Iteration.{infer_part_by_owner, item_not_iterable, item_part, infer_iteration, infer_more_parts, not_iterable, part_by, infer_single_iteration, infer_union_iteration, union_part}
use Rattle.pyc_subscripts.specs.Owners.{Owner, builtin_owner, no_owner, ask_item_iterable, ask_iterable, ask_owner, bytes_type, counts_as, instance_iterable, instance_owner, int_type, iterable, owner_by_iter, source_iterable, source_owner, str_type, subscript_owner, user_iterable, user_owner}
use Rattle.pyc_subscripts.specs.Subscripts.{Items, builtin_item, finish_union, fixed_item, infer_item_by_owner, item_of, more_items, no_items, not_indexable, report_out_of_range, required_index, required_item, placed_item, sequence_item, subscript, text_item, with_item}
use Rattle.pyc_reading.specs.Answers.{MemberAnswer}
use Rattle.pyc_reading.specs.Owing.{order_in}
use Rattle.pyc_expression_laws.proofs.ObligationKeyLemmas.{of-ask_member, of-required}
use Rattle.pyc_expression_laws.proofs.StepLemmas.{Files, files_ask, files_done, files_if, files_of_either, files_report, files_then}
use Rattle.pyc_type_forms.specs.Types.{Ty, Tys, instance, list, dict, tuple, union}
use Rattle.pyc_type_forms.specs.Unions.{items_of, row_items}

-- ---- what a subscript goes by

of-ask_owner : (m : List (List ℕ)) (x : List ℕ) (form : _) → Files (ask_owner (user m x) form)
unfolding ask_owner
of-ask_owner m x form = files_then _ _ (of-ask_member m x (codes "__getitem__")) (λ found. files_done)

of-user_owner : (m : List (List ℕ)) (x : List ℕ) (order : Mro) → Files (user_owner (user m x) (counts_as order))
of-user_owner m x order =
    files_of_either (user_owner (user m x)) (is_unknown order) _ _ files_done
    (files_of_either (user_owner (user m x)) (order_contains order (builtin class.Str)) _ _ (of-ask_owner m x _)
    (files_of_either (user_owner (user m x)) (order_contains order (builtin class.Bytes)) _ _ (of-ask_owner m x _) (of-ask_owner m x _)))

of-instance_owner : (c : Id) → Files (instance_owner c)
unfolding source_owner
of-instance_owner (builtin c) = files_done
of-instance_owner (user m x) = files_ask refl (λ answer. of-user_owner m x (order_in answer))

of-subscript_owner : (ty : Ty) → Files (subscript_owner ty)
of-subscript_owner (instance c) = of-instance_owner c
of-subscript_owner _ = files_done

-- ---- what an iteration goes by

of-owner_by_iter : (m : List (List ℕ)) (x : List ℕ) (form : _) (found : Option MemberAnswer) → Files (owner_by_iter (user m x) form found)
unfolding ask_item_iterable
of-owner_by_iter m x form (Some found) = files_done
of-owner_by_iter m x form None = files_then _ _ (of-ask_member m x (codes "__getitem__")) (λ found. files_done)

of-ask_iterable : (m : List (List ℕ)) (x : List ℕ) (form : _) → Files (ask_iterable (user m x) form)
unfolding ask_iterable
of-ask_iterable m x form = files_then _ _ (of-ask_member m x (codes "__iter__")) (of-owner_by_iter m x form)

of-user_iterable : (m : List (List ℕ)) (x : List ℕ) (order : Mro) → Files (user_iterable (user m x) (counts_as order))
of-user_iterable m x order =
    files_of_either (user_iterable (user m x)) (is_unknown order) _ _ files_done
    (files_of_either (user_iterable (user m x)) (order_contains order (builtin class.Str)) _ _ (of-ask_iterable m x _)
    (files_of_either (user_iterable (user m x)) (order_contains order (builtin class.Bytes)) _ _ (of-ask_iterable m x _) (of-ask_iterable m x _)))

of-instance_iterable : (c : Id) → Files (instance_iterable c)
unfolding source_iterable
of-instance_iterable (builtin c) = files_done
of-instance_iterable (user m x) = files_ask refl (λ answer. of-user_iterable m x (order_in answer))

of-iterable : (ty : Ty) → Files (iterable ty)
of-iterable (instance c) = of-instance_iterable c
of-iterable _ = files_done

-- ---- subscripts

of-required_item : (at : Position) (got whole want given : Ty) → Files (required_item at got whole want given)
unfolding required_item
of-required_item at got whole want given = files_then _ _ (of-required (required_index at got whole want)) (λ u. files_done)

of-sequence_item : (brackets : Index) (got whole given : Ty) → Files (sequence_item brackets got whole given)
of-sequence_item brackets got whole given = files_if (is_slice brackets) _ _ files_done (of-required_item (at_of brackets) got whole int_type given)

of-text_item : (brackets : Index) (got : Ty) (c : Id) → Files (text_item brackets got c)
of-text_item brackets got (builtin class.Str) = of-sequence_item brackets got str_type str_type
of-text_item brackets got (builtin class.Bytes) = of-sequence_item brackets got bytes_type int_type
of-text_item brackets got _ = files_done

of-placed_item : (at : Position) (found : Option Ty) → Files (placed_item at found)
unfolding report_out_of_range
of-placed_item at (Some ty) = files_done
of-placed_item at None = files_report files_done

of-fixed_item : (at : Position) (place : _) (items : Tys) → Files (fixed_item at place items)
of-fixed_item at (Some place) items = of-placed_item at (chosen_type place items)
of-fixed_item at None items = files_done

of-builtin_item : (at : Position) (brackets : Index) (got ty : Ty) → Files (builtin_item at brackets got ty)
of-builtin_item at brackets got (instance c) = of-text_item brackets got c
of-builtin_item at brackets got (list item) = of-sequence_item brackets got (list item) item
of-builtin_item at brackets got (dict key value) = of-required_item (at_of brackets) got (dict key value) key value
of-builtin_item at brackets got (tuple items) = of-fixed_item at (chosen_by brackets) items
of-builtin_item at brackets got _ = files_done

of-infer_item_by_owner : (at : Position) (brackets : Index) (got : Ty) (owner : Owner) → Files (infer_item_by_owner at brackets got owner)
of-infer_item_by_owner at brackets got (builtin_owner ty) = of-builtin_item at brackets got ty
of-infer_item_by_owner at brackets got _ = files_done

pub of-item_of : (at : Position) (brackets : Index) (got ty : Ty) → Files (item_of at brackets got ty)
unfolding item_of
of-item_of at brackets got ty = files_then _ _ (of-subscript_owner ty) (of-infer_item_by_owner at brackets got)

of-more_items : (at : Position) (brackets : Index) (got : Ty) (found : Items) (types : List Ty) → Files (more_items at brackets got found types)
unfolding more_items
of-more_items at brackets got found [] = files_done
of-more_items at brackets got found (ty ∷ rest) =
    files_then _ _ (of-item_of at brackets got ty) (λ item. of-more_items at brackets got (with_item found item) rest)

of-finish_union : (at : Position) (ty : Ty) (found : Items) → Files (finish_union at ty found)
unfolding not_indexable
of-finish_union at ty found = files_if found.is_failed _ _ (files_report files_done) files_done

pub of-subscript : (at : Position) (brackets : Index) (got ty : Ty) → Files (subscript at brackets got ty)
unfolding subscript
of-subscript at brackets got ty = files_then _ _ (of-more_items at brackets got no_items (items_of ty)) (of-finish_union at ty)

-- ---- iterations

of-part_by : (at : Position) (ty : Ty) (owner : Owner) → Files (part_by at ty owner)
unfolding not_iterable
of-part_by at ty no_owner = files_report files_done
of-part_by at ty _ = files_done

of-item_part : (at : Position) (whole item : Ty) (owner : Owner) → Files (item_part at whole item owner)
unfolding item_not_iterable
of-item_part at whole item no_owner = files_report files_done
of-item_part at whole item _ = files_done

of-infer_more_parts : (at : Position) (whole : Ty) (found items : List Ty) → Files (infer_more_parts at whole found items)
unfolding infer_more_parts union_part
of-infer_more_parts at whole found [] = files_done
of-infer_more_parts at whole found (item ∷ rest) =
    files_then _ _ (files_then _ _ (of-iterable item) (of-item_part at whole item)) (λ ty. of-infer_more_parts at whole (found ++ (ty ∷ [])) rest)

of-infer_single_iteration : (at : Position) (ty : Ty) → Files (infer_single_iteration at ty)
unfolding infer_single_iteration infer_part_by_owner
of-infer_single_iteration at ty = files_then _ _ (of-iterable ty) (λ found. files_then _ _ (of-part_by at ty found) (λ part. files_done))

pub of-infer_iteration : (at : Position) (ty : Ty) → Files (infer_iteration at ty)
unfolding infer_union_iteration
of-infer_iteration at (union items) = files_then _ _ (of-infer_more_parts at (union items) [] (row_items items)) (λ found. files_done)
of-infer_iteration at ty = of-infer_single_iteration at ty
