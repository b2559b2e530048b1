use Rattle.pyc_subscripts.proofs.Steps.{performing}
use Rattle.std.proofs.Common.{arith, rules}
use Rattle.pyc_subscripts.proofs.indexing.builtin_item.Goals as goal

pub returns-in_err-any_length_item-in-TupleOf : goal.returns-in_err-any_length_item-in-TupleOf
returns-in_err-any_length_item-in-TupleOf g c = first_of (grind (arith, performing), search rules)
