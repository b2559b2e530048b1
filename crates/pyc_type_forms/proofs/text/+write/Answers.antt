use Rattle.std.proofs.lemmas.Grind.{common_steps}
use Rattle.std.proofs.Common.{◌∙◌, sym, arith, rules}
use Rattle.pyc_type_forms.proofs.TextLemmas.{tuple_text-items}
use Rattle.pyc_type_forms.proofs.text.+write.Goals as goal

pub write_tuple-returns-else-is_empty : goal.write_tuple-returns-else-is_empty
write_tuple-returns-else-is_empty t c =
    rw (tuple_text-items c.args.items.now (sym c.is_empty.ensures ∙ c.if-is_empty.false)) c.write_joined.ensures

pub write_joined-loop-item-init : goal.write_joined-loop-item-init
write_joined-loop-item-init t c = first_of (grind (arith, common_steps), search rules)

pub write_joined-returns : goal.write_joined-returns
write_joined-returns t c = first_of (grind (arith, common_steps), search rules)

pub write_joined-returns-in_err-push_str : goal.write_joined-returns-in_err-push_str
write_joined-returns-in_err-push_str t c = first_of (grind (arith, common_steps), search rules)

pub write_joined-returns-in_err-write_type : goal.write_joined-returns-in_err-write_type
write_joined-returns-in_err-write_type t c = first_of (grind (arith, common_steps), search rules)

pub write_param_types-loop-param-init : goal.write_param_types-loop-param-init
write_param_types-loop-param-init t c = first_of (grind (arith, common_steps), search rules)

pub write_param_types-returns : goal.write_param_types-returns
write_param_types-returns t c = first_of (grind (arith, common_steps), search rules)

pub write_param_types-returns-in_err-push_str : goal.write_param_types-returns-in_err-push_str
write_param_types-returns-in_err-push_str t c = first_of (grind (arith, common_steps), search rules)

pub write_param_types-returns-in_err-write_type : goal.write_param_types-returns-in_err-write_type
write_param_types-returns-in_err-write_type t c = first_of (grind (arith, common_steps), search rules)

pub write_params-returns-in_err-push_str-in-Listed : goal.write_params-returns-in_err-push_str-in-Listed
write_params-returns-in_err-push_str-in-Listed t c = first_of (grind (arith, common_steps), search rules)

pub write_params-returns-in_err-write_param_types-in-Listed : goal.write_params-returns-in_err-write_param_types-in-Listed
write_params-returns-in_err-write_param_types-in-Listed t c = first_of (grind (arith, common_steps), search rules)

pub write_tuple-returns-then-is_empty : goal.write_tuple-returns-then-is_empty
write_tuple-returns-then-is_empty t c = first_of (grind (arith, common_steps), search rules)

pub write_type-returns-in_err-push_str-in-Callable : goal.write_type-returns-in_err-push_str-in-Callable
write_type-returns-in_err-push_str-in-Callable t c = first_of (grind (arith, common_steps), search rules)

pub write_type-returns-in_err-push_str-in-Callable-2 : goal.write_type-returns-in_err-push_str-in-Callable-2
write_type-returns-in_err-push_str-in-Callable-2 t c = first_of (grind (arith, common_steps), search rules)

pub write_type-returns-in_err-push_str-in-Class : goal.write_type-returns-in_err-push_str-in-Class
write_type-returns-in_err-push_str-in-Class t c = first_of (grind (arith, common_steps), search rules)

pub write_type-returns-in_err-push_str-in-Class-2 : goal.write_type-returns-in_err-push_str-in-Class-2
write_type-returns-in_err-push_str-in-Class-2 t c = first_of (grind (arith, common_steps), search rules)

pub write_type-returns-in_err-push_str-in-Dict : goal.write_type-returns-in_err-push_str-in-Dict
write_type-returns-in_err-push_str-in-Dict t c = first_of (grind (arith, common_steps), search rules)

pub write_type-returns-in_err-push_str-in-Dict-2 : goal.write_type-returns-in_err-push_str-in-Dict-2
write_type-returns-in_err-push_str-in-Dict-2 t c = first_of (grind (arith, common_steps), search rules)

pub write_type-returns-in_err-push_str-in-List : goal.write_type-returns-in_err-push_str-in-List
write_type-returns-in_err-push_str-in-List t c = first_of (grind (arith, common_steps), search rules)

pub write_type-returns-in_err-push_str-in-Tuple : goal.write_type-returns-in_err-push_str-in-Tuple
write_type-returns-in_err-push_str-in-Tuple t c = first_of (grind (arith, common_steps), search rules)

pub write_type-returns-in_err-push_str-in-TupleOf : goal.write_type-returns-in_err-push_str-in-TupleOf
write_type-returns-in_err-push_str-in-TupleOf t c = first_of (grind (arith, common_steps), search rules)

pub write_type-returns-in_err-write_params-in-Callable : goal.write_type-returns-in_err-write_params-in-Callable
write_type-returns-in_err-write_params-in-Callable t c = first_of (grind (arith, common_steps), search rules)

pub write_type-returns-in_err-write_tuple-in-Tuple : goal.write_type-returns-in_err-write_tuple-in-Tuple
write_type-returns-in_err-write_tuple-in-Tuple t c = first_of (grind (arith, common_steps), search rules)

pub write_type-returns-in_err-write_type-in-Callable : goal.write_type-returns-in_err-write_type-in-Callable
write_type-returns-in_err-write_type-in-Callable t c = first_of (grind (arith, common_steps), search rules)

pub write_type-returns-in_err-write_type-in-Dict : goal.write_type-returns-in_err-write_type-in-Dict
write_type-returns-in_err-write_type-in-Dict t c = first_of (grind (arith, common_steps), search rules)

pub write_type-returns-in_err-write_type-in-Dict-2 : goal.write_type-returns-in_err-write_type-in-Dict-2
write_type-returns-in_err-write_type-in-Dict-2 t c = first_of (grind (arith, common_steps), search rules)

pub write_type-returns-in_err-write_type-in-List : goal.write_type-returns-in_err-write_type-in-List
write_type-returns-in_err-write_type-in-List t c = first_of (grind (arith, common_steps), search rules)

pub write_type-returns-in_err-write_type-in-TupleOf : goal.write_type-returns-in_err-write_type-in-TupleOf
write_type-returns-in_err-write_type-in-TupleOf t c = first_of (grind (arith, common_steps), search rules)
