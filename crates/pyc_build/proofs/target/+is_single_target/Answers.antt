use Rattle.std.proofs.Common.{arith, rules}
use Rattle.pyc_tree.proofs.HeightLemmas.{heights}
use Rattle.pyc_tree.proofs.ViewLemmas.{views}
use Rattle.pyc_build.proofs.SingleTargets.{single_other}
use Rattle.pyc_build.proofs.target.+is_single_target.Goals as goal

pub returns-in_default : goal.returns-in_default
returns-in_default t c =
    single_other c.args.expr.now c.in_default.not-Name c.in_default.not-Parenthesized c.in_default.not-Attribute c.in_default.not-Subscript

pub returns-in-Name : goal.returns-in-Name
returns-in-Name t c = first_of (grind (arith, views, heights), search rules)

pub returns-in-Name-2 : goal.returns-in-Name-2
returns-in-Name-2 t c = first_of (grind (arith, views, heights), search rules)

pub returns-in-Name-3 : goal.returns-in-Name-3
returns-in-Name-3 t c = first_of (grind (arith, views, heights), search rules)

pub returns-in-Parenthesized : goal.returns-in-Parenthesized
returns-in-Parenthesized t c = first_of (grind (arith, views, heights), search rules)
