use Rattle.std.proofs.Common.{arith, rules}
use Rattle.std.proofs.lemmas.Grind.{common_steps}
use Rattle.pyc_builtins.proofs.member_types.result_type.Goals as goal

pub returns-in-DictOfPairs : goal.returns-in-DictOfPairs
returns-in-DictOfPairs c = first_of (grind (arith, common_steps), search rules)

pub returns-in-Item : goal.returns-in-Item
returns-in-Item c = first_of (grind (arith, common_steps), search rules)

pub returns-in-ListOfItems : goal.returns-in-ListOfItems
returns-in-ListOfItems c = first_of (grind (arith, common_steps), search rules)

pub returns-in-ListOfStr : goal.returns-in-ListOfStr
returns-in-ListOfStr c = first_of (grind (arith, common_steps), search rules)

pub returns-in-Pair : goal.returns-in-Pair
returns-in-Pair c = first_of (grind (arith, common_steps), search rules)

pub returns-in-ThreeStrs : goal.returns-in-ThreeStrs
returns-in-ThreeStrs c = first_of (grind (arith, common_steps), search rules)

pub returns-in-Value : goal.returns-in-Value
returns-in-Value c = first_of (grind (arith, common_steps), search rules)
