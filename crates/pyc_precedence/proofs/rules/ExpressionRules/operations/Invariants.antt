use Rattle.std.proofs.Common.{◌≡◌, ◌-◌}
use Rattle.pyc_tree.specs.Expressions.{expr, climb, operations}
use Rattle.pyc_tree.specs.View.{tree_of}
use Rattle.pyc_precedence.proofs.rules.ExpressionRules.operations.Given as goal

abbrev pub invariant-loop-turn : goal.invariant-loop-turn
invariant-loop-turn g l =
    climb (expr l.self.rules.depth) l.fn.loosest (l._turn-end - l._turn) (tree_of l.left.expr.value) l.tokens.rest.now
    ≡ operations (expr l.self.rules.depth) l.fn.loosest (tree_of l.fn.left.expr.value) l.fn.tokens.rest.now
