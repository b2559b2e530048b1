use Rattle.std.proofs.Common.{arith, rules}
use Rattle.std.proofs.lemmas.Grind.{common_steps}
use Rattle.pyc_builtins.specs.Members.{number_members, list_members, dict_members, tuple_members, exception_members}
use Rattle.pyc_builtins.proofs.members.own_member.Goals as goal

pub returns-in-BaseException : goal.returns-in-BaseException
unfolding number_members list_members dict_members tuple_members exception_members
returns-in-BaseException c = first_of (grind (arith, common_steps), search rules)

pub returns-in-Bytes : goal.returns-in-Bytes
unfolding number_members list_members dict_members tuple_members exception_members
returns-in-Bytes c = first_of (grind (arith, common_steps), search rules)

pub returns-in-Dict : goal.returns-in-Dict
unfolding number_members list_members dict_members tuple_members exception_members
returns-in-Dict c = first_of (grind (arith, common_steps), search rules)

pub returns-in-Int : goal.returns-in-Int
unfolding number_members list_members dict_members tuple_members exception_members
returns-in-Int c = first_of (grind (arith, common_steps), search rules)

pub returns-in-List : goal.returns-in-List
unfolding number_members list_members dict_members tuple_members exception_members
returns-in-List c = first_of (grind (arith, common_steps), search rules)

pub returns-in-Str : goal.returns-in-Str
unfolding number_members list_members dict_members tuple_members exception_members
returns-in-Str c = first_of (grind (arith, common_steps), search rules)

pub returns-in-Tuple : goal.returns-in-Tuple
unfolding number_members list_members dict_members tuple_members exception_members
returns-in-Tuple c = first_of (grind (arith, common_steps), search rules)

pub returns-in_default : goal.returns-in_default
unfolding number_members list_members dict_members tuple_members exception_members
returns-in_default c = first_of (grind (arith, common_steps), search rules)
