use Rattle.std.proofs.Common.{◌≡◌, ◌≤◌, refl, sym, ◌∙◌, length, arith}
use Rattle.pyc_build.specs.declared.built.Built.{Built}
use Rattle.pyc_tree.specs.View.{tree_of}
use Rattle.pyc_statement.proofs.NameSteps.{read_err}
use Rattle.pyc_statement.proofs.StatementSteps.{not_true, not_false, targets_height-push, chain_over, chain_end, chain_bad, chain_cut, chain_refused, chain_on}
use Rattle.pyc_statement.proofs.rules.StatementRules.chain.Goals as goal
use Rattle.pyc_statement.proofs.rules.StatementRules.chain.Goals.{else-loop-turn-test, then-loop-turn-test+then-not-same_kind}

pub returns-then-not-value : goal.returns-then-not-value
returns-then-not-value g c =
    chain_bad _ _ _ _ _ _ _ c.loop-turn.invariant.read c.loop-turn-test.true (cc) (sym c.loop-turn.value.target_is ∙ not_true _ c.if-not-value.true)

pub returns-in_err-equal : goal.returns-in_err-equal
returns-in_err-equal g c =
    read_err (λ t. t) _ _ _ _ _ c.from_residual.result _ c.from_residual.ensures.1 c.in_err-equal.ensures
    (chain_cut _ _ _ _ _ _ _ c.loop-turn.invariant.read c.loop-turn-test.true (cc) (sym c.loop-turn.value.target_is ∙ not_false _ c.if-not-value.false))

pub returns-in_err-next : goal.returns-in_err-next
returns-in_err-next g c =
    read_err {X = Built} (λ b. tree_of b.expr.value) _ _ _ _ _ c.from_residual-in_err-next.result _ c.from_residual-in_err-next.ensures.1 c.in_err-next.ensures
    (chain_refused _ _ _ _ _ _ _ c.loop-turn.invariant.read c.loop-turn-test.true (cc) (sym c.loop-turn.value.target_is ∙ not_false _ c.if-not-value.false)
    c.in_ok-equal.equal _ c.in_ok-equal.ensures)

pub loop-turn-preserved : goal.loop-turn-preserved
loop-turn-preserved g c =
    rw c.in_ok-append.ensures (record {
      read =
          chain_on _ _ _ _ _ _ _ c.loop-turn.invariant.read c.loop-turn-test.true (cc) (sym c.loop-turn.value.target_is ∙ not_false _ c.if-not-value.false)
          c.in_ok-equal.equal _ c.in_ok-equal.ensures (record { target = c.loop-turn.value.expr; equal = c.in_ok-equal.equal }) refl _ _ c.in_ok-next.ensures;
      tall = cc (targets_height-push c.loop-turn.targets.items (record { target = c.loop-turn.value.expr; equal = c.in_ok-equal.equal }));
      low = omega (arith, c.taller-height.ensures);
    })

pub returns : goal.returns
returns g c = elim c.loop-turn-test.branch [
  | else-loop-turn-test w ↦ chain_over _ _ _ _ _ _ _ c.loop-turn.invariant.read (omega arith)
  | then-loop-turn-test+then-not-same_kind w ↦ chain_end _ _ _ _ _ _ _ c.loop-turn.invariant.read w.loop-turn-test.true (cc)
]
