use Rattle.std.proofs.Common.{arith, rules}
use Rattle.std.proofs.lemmas.Grind.{common_steps}
use Rattle.pyc_annotations.proofs.reading.bare_form.Goals as goal

pub returns-in_default : goal.returns-in_default
returns-in_default g c = first_of (grind (arith, common_steps), search rules)

pub returns-in_err-any_callable-in-Callable : goal.returns-in_err-any_callable-in-Callable
returns-in_err-any_callable-in-Callable g c = first_of (grind (arith, common_steps), search rules)

pub returns-in_err-any_length-in-Tuple : goal.returns-in_err-any_length-in-Tuple
returns-in_err-any_length-in-Tuple g c = first_of (grind (arith, common_steps), search rules)

pub returns-in_err-dict_type-in-Dict : goal.returns-in_err-dict_type-in-Dict
returns-in_err-dict_type-in-Dict g c = first_of (grind (arith, common_steps), search rules)

pub returns-in_err-list_type-in-List : goal.returns-in_err-list_type-in-List
returns-in_err-list_type-in-List g c = first_of (grind (arith, common_steps), search rules)
