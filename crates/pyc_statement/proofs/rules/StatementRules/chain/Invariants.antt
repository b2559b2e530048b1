use Rattle.std.proofs.Common.{◌≡◌, ◌-◌, ◌≤◌, map, length}
use Rattle.pyc_tree.specs.Expressions.{expr}
use Rattle.pyc_tree.specs.SimpleStatements.{chain}
use Rattle.pyc_tree.specs.Statements.{targets_height}
use Rattle.pyc_tree.specs.StatementView.{assigned_of}
use Rattle.pyc_tree.specs.View.{tree_of}
use Rattle.pyc_statement.proofs.StatementSteps.{with_targets}
use Rattle.pyc_statement.proofs.rules.StatementRules.chain.Given as goal

abbrev pub invariant-loop-turn : goal.invariant-loop-turn
invariant-loop-turn g l = record {
  read : with_targets (map assigned_of l.targets.items) (chain (expr l.self.rules.depth) (l._turn-end - l._turn) (tree_of l.value.expr.value) l.tokens.rest.now)
      ≡ chain (expr l.self.rules.depth) (length l.fn.tokens.rest.now) (tree_of l.fn.first.expr.value) l.fn.tokens.rest.now;
  tall : l.height ≡ targets_height (map assigned_of l.targets.items);
  low : l.height ≤ 1000;
}
