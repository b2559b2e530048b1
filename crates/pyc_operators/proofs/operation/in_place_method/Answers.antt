use Rattle.std.proofs.Common.{arith, rules}
use Rattle.std.proofs.lemmas.Grind.{common_steps}
use Rattle.pyc_operators.proofs.operation.in_place_method.Goals as goal

pub returns-in-Add : goal.returns-in-Add
returns-in-Add c = first_of (grind (arith, common_steps), search rules)

pub returns-in-BitAnd : goal.returns-in-BitAnd
returns-in-BitAnd c = first_of (grind (arith, common_steps), search rules)

pub returns-in-BitOr : goal.returns-in-BitOr
returns-in-BitOr c = first_of (grind (arith, common_steps), search rules)

pub returns-in-BitXor : goal.returns-in-BitXor
returns-in-BitXor c = first_of (grind (arith, common_steps), search rules)

pub returns-in-Div : goal.returns-in-Div
returns-in-Div c = first_of (grind (arith, common_steps), search rules)

pub returns-in-FloorDiv : goal.returns-in-FloorDiv
returns-in-FloorDiv c = first_of (grind (arith, common_steps), search rules)

pub returns-in-LShift : goal.returns-in-LShift
returns-in-LShift c = first_of (grind (arith, common_steps), search rules)

pub returns-in-MatMult : goal.returns-in-MatMult
returns-in-MatMult c = first_of (grind (arith, common_steps), search rules)

pub returns-in-Mod : goal.returns-in-Mod
returns-in-Mod c = first_of (grind (arith, common_steps), search rules)

pub returns-in-Mult : goal.returns-in-Mult
returns-in-Mult c = first_of (grind (arith, common_steps), search rules)

pub returns-in-Pow : goal.returns-in-Pow
returns-in-Pow c = first_of (grind (arith, common_steps), search rules)

pub returns-in-RShift : goal.returns-in-RShift
returns-in-RShift c = first_of (grind (arith, common_steps), search rules)

pub returns-in-Sub : goal.returns-in-Sub
returns-in-Sub c = first_of (grind (arith, common_steps), search rules)
