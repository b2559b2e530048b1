use Rattle.std.proofs.Common.{◌≡◌, ◌-◌, ◌≤◌}
use Rattle.pyc_tree.specs.Expressions.{expr}
use Rattle.pyc_tree.specs.Lines.{statements_height}
use Rattle.pyc_tree.specs.SimpleStatements.{statements, all_statements}
use Rattle.pyc_tree.specs.Statements.{no_item}
use Rattle.pyc_tree.specs.StatementView.{statement_of, separated_before}
use Rattle.pyc_statement.proofs.NameSteps.{with_items}
use Rattle.pyc_statement.proofs.rules.StatementRules.statements.Given as goal

abbrev pub invariant-loop-turn : goal.invariant-loop-turn
invariant-loop-turn g l = record {
  read : with_items statement_of l.each.items (statements (expr l.self.rules.depth) (l._turn-end - l._turn) l.tokens.rest.now)
      ≡ all_statements (expr l.self.rules.depth) l.fn.tokens.rest.now;
  tall : l.height ≡ statements_height (separated_before statement_of l.each.items no_item);
  low : l.height ≤ 1001;
}
