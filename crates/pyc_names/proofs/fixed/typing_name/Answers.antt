use Rattle.std.proofs.lemmas.Grind.{common_steps}
use Rattle.std.proofs.Common.{arith, rules}
use Rattle.pyc_names.proofs.fixed.typing_name.Goals as goal

pub returns-in-Any : goal.returns-in-Any
returns-in-Any c = first_of (grind (arith, common_steps), search rules)

pub returns-in-Callable : goal.returns-in-Callable
returns-in-Callable c = first_of (grind (arith, common_steps), search rules)

pub returns-in-Dict : goal.returns-in-Dict
returns-in-Dict c = first_of (grind (arith, common_steps), search rules)

pub returns-in-List : goal.returns-in-List
returns-in-List c = first_of (grind (arith, common_steps), search rules)

pub returns-in-Optional : goal.returns-in-Optional
returns-in-Optional c = first_of (grind (arith, common_steps), search rules)

pub returns-in-TYPE_CHECKING : goal.returns-in-TYPE_CHECKING
returns-in-TYPE_CHECKING c = first_of (grind (arith, common_steps), search rules)

pub returns-in-Tuple : goal.returns-in-Tuple
returns-in-Tuple c = first_of (grind (arith, common_steps), search rules)

pub returns-in-Union : goal.returns-in-Union
returns-in-Union c = first_of (grind (arith, common_steps), search rules)

pub returns-in-cast : goal.returns-in-cast
returns-in-cast c = first_of (grind (arith, common_steps), search rules)

pub returns-in-reveal_type : goal.returns-in-reveal_type
returns-in-reveal_type c = first_of (grind (arith, common_steps), search rules)

pub returns-in_default : goal.returns-in_default
returns-in_default c = first_of (grind (arith, common_steps), search rules)
