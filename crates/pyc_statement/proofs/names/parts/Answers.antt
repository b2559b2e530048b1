use Rattle.std.proofs.Common.{◌≡◌, refl, sym, ap, ◌∙◌, length, map, arith}
use Rattle.pyc_tree.specs.SimpleStatements.{parts, all_parts}
use Rattle.pyc_tree.specs.StatementView.{part_of}
use Rattle.pyc_statement.proofs.NameSteps.{read_err, with_parts, parts_start, parts_over, parts_end, parts_cut, parts_refused, parts_on}
use Rattle.pyc_statement.proofs.names.parts.Goals as goal
use Rattle.pyc_statement.proofs.names.parts.Goals.{else-loop-turn-test, then-loop-turn-test+then-not-same_kind}

pub loop-turn-init : goal.loop-turn-init
unfolding all_parts
loop-turn-init c = rw c.new-found.ensures.items (parts_start (length c.args.tokens.now.rest.now) c.args.tokens.now.rest.now)

pub returns-in_err-dot : goal.returns-in_err-dot
returns-in_err-dot c =
    read_err (λ t. t) _ _ _ _ _ c.from_residual.result _ c.from_residual.ensures.1 c.in_err-dot.ensures
    (parts_cut _ _ _ _ _ c.loop-turn.invariant c.loop-turn-test.true (cc))

pub returns-in_err-name : goal.returns-in_err-name
returns-in_err-name c =
    read_err (λ t. t) _ _ _ _ _ c.from_residual-in_err-name.result _ c.from_residual-in_err-name.ensures.1 c.in_err-name.ensures
    (parts_refused _ _ _ _ _ c.loop-turn.invariant c.loop-turn-test.true (cc) c.in_ok-dot.dot _ c.in_ok-dot.ensures)

pub loop-turn-preserved : goal.loop-turn-preserved
loop-turn-preserved c =
    rw c.in_ok-push.ensures.items
    (parts_on _ _ _ _ _ c.loop-turn.invariant c.loop-turn-test.true (cc) c.in_ok-dot.dot _ c.in_ok-dot.ensures c.in_ok-name.name _ c.in_ok-name.ensures)

pub returns : goal.returns
returns c = elim c.loop-turn-test.branch [
  | else-loop-turn-test w ↦ parts_over _ _ _ _ _ c.loop-turn.invariant (omega arith)
  | then-loop-turn-test+then-not-same_kind w ↦ parts_end _ _ _ _ _ c.loop-turn.invariant w.loop-turn-test.true (cc)
]
