use Rattle.std.proofs.Common.{arith, rules}
use Rattle.pyc_tree.proofs.ViewLemmas.{views}
use Rattle.pyc_cursor.proofs.forms.precedence.Goals as goal

pub returns-in-Attribute : goal.returns-in-Attribute
returns-in-Attribute c = first_of (grind (arith, views), search rules)

pub returns-in-Attribute-2 : goal.returns-in-Attribute-2
returns-in-Attribute-2 c = first_of (grind (arith, views), search rules)

pub returns-in-Attribute-3 : goal.returns-in-Attribute-3
returns-in-Attribute-3 c = first_of (grind (arith, views), search rules)

pub returns-in-Await : goal.returns-in-Await
returns-in-Await c = first_of (grind (arith, views), search rules)

pub returns-in-Bare : goal.returns-in-Bare
returns-in-Bare c = first_of (grind (arith, views), search rules)

pub returns-in-Bare-10 : goal.returns-in-Bare-10
returns-in-Bare-10 c = first_of (grind (arith, views), search rules)

pub returns-in-Bare-11 : goal.returns-in-Bare-11
returns-in-Bare-11 c = first_of (grind (arith, views), search rules)

pub returns-in-Bare-12 : goal.returns-in-Bare-12
returns-in-Bare-12 c = first_of (grind (arith, views), search rules)

pub returns-in-Bare-13 : goal.returns-in-Bare-13
returns-in-Bare-13 c = first_of (grind (arith, views), search rules)

pub returns-in-Bare-14 : goal.returns-in-Bare-14
returns-in-Bare-14 c = first_of (grind (arith, views), search rules)

pub returns-in-Bare-15 : goal.returns-in-Bare-15
returns-in-Bare-15 c = first_of (grind (arith, views), search rules)

pub returns-in-Bare-16 : goal.returns-in-Bare-16
returns-in-Bare-16 c = first_of (grind (arith, views), search rules)

pub returns-in-Bare-17 : goal.returns-in-Bare-17
returns-in-Bare-17 c = first_of (grind (arith, views), search rules)

pub returns-in-Bare-2 : goal.returns-in-Bare-2
returns-in-Bare-2 c = first_of (grind (arith, views), search rules)

pub returns-in-Bare-3 : goal.returns-in-Bare-3
returns-in-Bare-3 c = first_of (grind (arith, views), search rules)

pub returns-in-Bare-4 : goal.returns-in-Bare-4
returns-in-Bare-4 c = first_of (grind (arith, views), search rules)

pub returns-in-Bare-5 : goal.returns-in-Bare-5
returns-in-Bare-5 c = first_of (grind (arith, views), search rules)

pub returns-in-Bare-6 : goal.returns-in-Bare-6
returns-in-Bare-6 c = first_of (grind (arith, views), search rules)

pub returns-in-Bare-7 : goal.returns-in-Bare-7
returns-in-Bare-7 c = first_of (grind (arith, views), search rules)

pub returns-in-Bare-8 : goal.returns-in-Bare-8
returns-in-Bare-8 c = first_of (grind (arith, views), search rules)

pub returns-in-Bare-9 : goal.returns-in-Bare-9
returns-in-Bare-9 c = first_of (grind (arith, views), search rules)

pub returns-in-Binary : goal.returns-in-Binary
returns-in-Binary c = first_of (grind (arith, views), search rules)

pub returns-in-Compare : goal.returns-in-Compare
returns-in-Compare c = first_of (grind (arith, views), search rules)

pub returns-in-Conditional : goal.returns-in-Conditional
returns-in-Conditional c = first_of (grind (arith, views), search rules)

pub returns-in-Conditional-2 : goal.returns-in-Conditional-2
returns-in-Conditional-2 c = first_of (grind (arith, views), search rules)

pub returns-in-Name : goal.returns-in-Name
returns-in-Name c = first_of (grind (arith, views), search rules)

pub returns-in-Name-2 : goal.returns-in-Name-2
returns-in-Name-2 c = first_of (grind (arith, views), search rules)

pub returns-in-Name-3 : goal.returns-in-Name-3
returns-in-Name-3 c = first_of (grind (arith, views), search rules)

pub returns-in-Name-4 : goal.returns-in-Name-4
returns-in-Name-4 c = first_of (grind (arith, views), search rules)

pub returns-in-Name-5 : goal.returns-in-Name-5
returns-in-Name-5 c = first_of (grind (arith, views), search rules)

pub returns-in-Name-6 : goal.returns-in-Name-6
returns-in-Name-6 c = first_of (grind (arith, views), search rules)

pub returns-in-Name-7 : goal.returns-in-Name-7
returns-in-Name-7 c = first_of (grind (arith, views), search rules)

pub returns-in-Unary : goal.returns-in-Unary
returns-in-Unary c = first_of (grind (arith, views), search rules)
