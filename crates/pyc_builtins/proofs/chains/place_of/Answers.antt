use Rattle.std.proofs.Common.{arith, rules}
use Rattle.std.proofs.lemmas.Grind.{common_steps}
use Rattle.pyc_builtins.proofs.chains.place_of.Goals as goal

pub returns-in-ArithmeticError : goal.returns-in-ArithmeticError
returns-in-ArithmeticError c = first_of (grind (arith, common_steps), search rules)

pub returns-in-AssertionError : goal.returns-in-AssertionError
returns-in-AssertionError c = first_of (grind (arith, common_steps), search rules)

pub returns-in-BaseException : goal.returns-in-BaseException
returns-in-BaseException c = first_of (grind (arith, common_steps), search rules)

pub returns-in-Bool : goal.returns-in-Bool
returns-in-Bool c = first_of (grind (arith, common_steps), search rules)

pub returns-in-Bytes : goal.returns-in-Bytes
returns-in-Bytes c = first_of (grind (arith, common_steps), search rules)

pub returns-in-Dict : goal.returns-in-Dict
returns-in-Dict c = first_of (grind (arith, common_steps), search rules)

pub returns-in-Exception : goal.returns-in-Exception
returns-in-Exception c = first_of (grind (arith, common_steps), search rules)

pub returns-in-Float : goal.returns-in-Float
returns-in-Float c = first_of (grind (arith, common_steps), search rules)

pub returns-in-IndexError : goal.returns-in-IndexError
returns-in-IndexError c = first_of (grind (arith, common_steps), search rules)

pub returns-in-Int : goal.returns-in-Int
returns-in-Int c = first_of (grind (arith, common_steps), search rules)

pub returns-in-KeyError : goal.returns-in-KeyError
returns-in-KeyError c = first_of (grind (arith, common_steps), search rules)

pub returns-in-List : goal.returns-in-List
returns-in-List c = first_of (grind (arith, common_steps), search rules)

pub returns-in-LookupError : goal.returns-in-LookupError
returns-in-LookupError c = first_of (grind (arith, common_steps), search rules)

pub returns-in-NotImplementedError : goal.returns-in-NotImplementedError
returns-in-NotImplementedError c = first_of (grind (arith, common_steps), search rules)

pub returns-in-Object : goal.returns-in-Object
returns-in-Object c = first_of (grind (arith, common_steps), search rules)

pub returns-in-OverflowError : goal.returns-in-OverflowError
returns-in-OverflowError c = first_of (grind (arith, common_steps), search rules)

pub returns-in-RecursionError : goal.returns-in-RecursionError
returns-in-RecursionError c = first_of (grind (arith, common_steps), search rules)

pub returns-in-RuntimeError : goal.returns-in-RuntimeError
returns-in-RuntimeError c = first_of (grind (arith, common_steps), search rules)

pub returns-in-Str : goal.returns-in-Str
returns-in-Str c = first_of (grind (arith, common_steps), search rules)

pub returns-in-Tuple : goal.returns-in-Tuple
returns-in-Tuple c = first_of (grind (arith, common_steps), search rules)

pub returns-in-TypeError : goal.returns-in-TypeError
returns-in-TypeError c = first_of (grind (arith, common_steps), search rules)

pub returns-in-ValueError : goal.returns-in-ValueError
returns-in-ValueError c = first_of (grind (arith, common_steps), search rules)

pub returns-in-ZeroDivisionError : goal.returns-in-ZeroDivisionError
returns-in-ZeroDivisionError c = first_of (grind (arith, common_steps), search rules)
