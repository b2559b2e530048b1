use Rattle.std.proofs.Common.{◌≡◌, ◌+◌, ap, arith}
use Rattle.pyc_tree.specs.Expressions.{expr}
use Rattle.pyc_tree.proofs.Turns.{deeper}
use Rattle.pyc_precedence.proofs.rules.+expr.Goals as goal

pub returns-then-depth-eq0 : goal.returns-then-depth-eq0
unfolding expr
returns-then-depth-eq0 t c = let none : c.args.depth ≡ 0 = omega arith in ap (λ n. expr n c.args.loosest c.args.tokens.now.rest.now) none

pub returns : goal.returns
unfolding expr
returns t c = rw (deeper (λ n. expr n c.args.loosest c.args.tokens.now.rest.now) c.args.depth (omega arith)) c.whole.ensures
