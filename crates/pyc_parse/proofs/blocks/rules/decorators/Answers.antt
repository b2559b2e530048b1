use Rattle.std.proofs.Common.{arith}
use Rattle.pyc_parse.specs.Blocks.{decorators, all_decorators}
use Rattle.pyc_tree.specs.BlockView.{decorator_of}
use Rattle.pyc_parse.specs.PlacedView.{lines_of}
use Rattle.pyc_parse.proofs.BlockSteps.{read_err, decorators_start, decorators_over, decorators_fault, decorators_end, decorators_on}
use Rattle.pyc_parse.proofs.blocks.rules.decorators.Goals as goal

pub loop-turn-init : goal.loop-turn-init
unfolding all_decorators
loop-turn-init c =
    rw c.new-found.ensures.items
    (decorators_start (λ n. decorators n c.args.indent (lines_of c.args.lines.now)) _ _ c.len-turn-end.ensures)

pub returns-then-not-is_decorator : goal.returns-then-not-is_decorator
returns-then-not-is_decorator c = decorators_end _ _ _ _ _ _ c.loop-turn.invariant c.loop-turn-test.true (cc)

pub returns-in_err-mark : goal.returns-in_err-mark
returns-in_err-mark c =
    read_err decorator_of _ _ _ _ _ c.from_residual.result _ c.from_residual.ensures.1 c.in_err-mark.ensures
    (decorators_fault _ _ _ _ _ _ c.loop-turn.invariant c.loop-turn-test.true (cc))

pub loop-turn-preserved : goal.loop-turn-preserved
loop-turn-preserved c =
    rw c.in_ok-push.ensures.items
    (decorators_on _ _ _ _ _ _ c.loop-turn.invariant c.loop-turn-test.true (cc) c.in_ok-mark.mark _ c.in_ok-mark.ensures)

pub returns : goal.returns
returns c = decorators_over _ _ _ _ _ _ c.loop-turn.invariant (omega arith)
