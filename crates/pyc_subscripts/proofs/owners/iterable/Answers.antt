use Rattle.pyc_subscripts.proofs.Steps.{performing}
use Rattle.std.proofs.Common.{arith, rules}
use Rattle.pyc_subscripts.proofs.owners.iterable.Goals as goal

pub returns-in_err-clone-in-Dict : goal.returns-in_err-clone-in-Dict
returns-in_err-clone-in-Dict g c = first_of (grind (arith, performing), search rules)

pub returns-in_err-clone-in-List : goal.returns-in_err-clone-in-List
returns-in_err-clone-in-List g c = first_of (grind (arith, performing), search rules)

pub returns-in_err-clone-in-Tuple : goal.returns-in_err-clone-in-Tuple
returns-in_err-clone-in-Tuple g c = first_of (grind (arith, performing), search rules)

pub returns-in_err-clone-in-TupleOf : goal.returns-in_err-clone-in-TupleOf
returns-in_err-clone-in-TupleOf g c = first_of (grind (arith, performing), search rules)
