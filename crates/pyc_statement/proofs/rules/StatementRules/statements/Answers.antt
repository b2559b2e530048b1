use Rattle.std.proofs.Common.{◌≡◌, ◌-◌, ◌≤◌, refl, sym, ap, ◌∙◌, length, arith, List, []}
use Rattle.pyc_build_line.specs.declared.built_statement.BuiltSimpleStatement.{BuiltSimpleStatement}
use Rattle.pyc_tree.specs.Expressions.{expr}
use Rattle.pyc_tree.specs.SimpleStatements.{all_statements, statements}
use Rattle.pyc_tree.specs.StatementView.{statement_of}
use Rattle.pyc_statement.proofs.NameSteps.{read_err}
use Rattle.pyc_statement.proofs.StatementSteps.{statements_tall-last, statements_tall-push, statements_start, statements_over, statements_refused, statements_end, statements_cut, statements_trail, statements_on}
use Rattle.pyc_statement.proofs.rules.StatementRules.statements.Goals as goal

pub loop-turn-init : goal.loop-turn-init
unfolding all_statements
loop-turn-init g c =
    rw c.new-each.ensures.items (record {
      read = statements_start (expr c.args.self.now.rules.depth) (length c.args.tokens.now.rest.now) c.args.tokens.now.rest.now;
      tall = refl;
      low = omega arith;
    })

pub returns-in_err-next : goal.returns-in_err-next
returns-in_err-next g c =
    read_err {X = BuiltSimpleStatement} (λ b. statement_of b.statement) _ _ _ _ _ c.from_residual.result _ c.from_residual.ensures.1 c.in_err-next.ensures
    (statements_refused _ _ _ _ _ _ c.loop-turn.invariant.read c.loop-turn-test.true)

pub invariant_of-result : goal.invariant_of-result
invariant_of-result g c = record {
  height_is =
      rw c.in_ok-last.ensures.same
      (statements_tall-last _ _ _ _ c.taller-height.ensures c.loop-turn.invariant.tall (statement_of c.in_ok-next.next.statement) c.in_ok-next.next.height_is);
  low = omega (arith, c.taller-height.ensures);
}

pub returns-then-at_end : goal.returns-then-at_end
returns-then-at_end g c =
    rw c.in_ok-last.ensures.same
    (statements_end _ _ _ _ _ _ c.loop-turn.invariant.read c.loop-turn-test.true c.in_ok-next.next.statement _ c.in_ok-next.ensures c.if-at_end.ensures)

pub returns-in_err-separator : goal.returns-in_err-separator
returns-in_err-separator g c =
    read_err (λ t. t) _ _ _ _ _ c.from_residual-in_err-separator.result _ c.from_residual-in_err-separator.ensures.1 c.in_err-separator.ensures
    (statements_cut _ _ _ _ _ _ c.loop-turn.invariant.read c.loop-turn-test.true c.in_ok-next.next.statement _ c.in_ok-next.ensures c.if-at_end.ensures)

pub invariant_of-result-then-at_end-2 : goal.invariant_of-result-then-at_end-2
invariant_of-result-then-at_end-2 g c = record {
  height_is =
      statements_tall-push _ _ _ _ c.taller-height.ensures c.loop-turn.invariant.tall
      (record { value = c.in_ok-next.next.statement; separator = c.in_ok-separator.separator })
      c.push.new.self.items c.in_ok-push.ensures.items c.in_ok-next.next.height_is;
  low = omega (arith, c.taller-height.ensures);
}

pub returns-then-at_end-2 : goal.returns-then-at_end-2
returns-then-at_end-2 g c =
    rw c.in_ok-push.ensures.items
    (statements_trail _ _ _ _ _ _ c.loop-turn.invariant.read c.loop-turn-test.true c.in_ok-next.next.statement _ c.in_ok-next.ensures c.if-at_end.ensures
    c.in_ok-separator.separator _ c.in_ok-separator.ensures c.if-at_end-2.ensures)

pub loop-turn-preserved : goal.loop-turn-preserved
loop-turn-preserved g c = record {
  read =
      rw c.in_ok-push.ensures.items
      (statements_on _ _ _ _ _ _ c.loop-turn.invariant.read c.loop-turn-test.true c.in_ok-next.next.statement _ c.in_ok-next.ensures c.if-at_end.ensures
      c.in_ok-separator.separator _ c.in_ok-separator.ensures c.if-at_end-2.ensures);
  tall =
      statements_tall-push _ _ _ _ c.taller-height.ensures c.loop-turn.invariant.tall
      (record { value = c.in_ok-next.next.statement; separator = c.in_ok-separator.separator })
      c.push.new.self.items c.in_ok-push.ensures.items c.in_ok-next.next.height_is;
  low = omega (arith, c.taller-height.ensures);
}

pub returns : goal.returns
returns g c = statements_over _ _ _ _ _ _ c.loop-turn.invariant.read (omega arith)
