use Rattle.std.proofs.Common.{arith, Option}
use Rattle.pyc_tree.specs.declared.block.After.{After}
use Rattle.pyc_tree.specs.declared.block.CompoundClause.{CompoundClause}
use Rattle.pyc_parse.specs.Blocks.{block_at, clauses, all_clauses}
use Rattle.pyc_tree.specs.BlockView.{follower_of}
use Rattle.pyc_parse.specs.PlacedView.{lines_of}
use Rattle.pyc_parse.proofs.BlockSteps.{read_err, clauses_start, clauses_over, clauses_fault, clauses_end, clauses_on}
use Rattle.pyc_parse.proofs.blocks.rules.Rules.clauses.Goals as goal

pub loop-turn-init : goal.loop-turn-init
unfolding all_clauses
loop-turn-init g c =
    rw c.new-found.ensures.items
    (clauses_start (λ n. clauses (block_at c.args.self.now.depth) n c.args.indent c.args.after (lines_of c.args.lines.now)) _ _ c.len-turn-end.ensures)

pub returns-in_err-next : goal.returns-in_err-next
returns-in_err-next g c =
    read_err {X = Option (CompoundClause × After)} follower_of _ _ _ _ _ c.from_residual.result _ c.from_residual.ensures.1 c.in_err-next.ensures
    (clauses_fault _ _ _ _ _ _ _ _ c.loop-turn.invariant c.loop-turn-test.true)

pub returns-in-None : goal.returns-in-None
returns-in-None g c =
    clauses_end _ _ _ _ _ _ _ _ c.loop-turn.invariant c.loop-turn-test.true c.in_ok-next.next _ c.in_ok-next.ensures (cc)

pub loop-turn-preserved : goal.loop-turn-preserved
loop-turn-preserved g c =
    rw c.in_ok-append-in-Some.ensures
    (clauses_on _ _ _ _ _ _ _ _ c.loop-turn.invariant c.loop-turn-test.true c.in_ok-next.next _ c.in_ok-next.ensures c.in-Some.clause c.in-Some.later (cc))

pub returns : goal.returns
returns g c = clauses_over _ _ _ _ _ _ _ _ c.loop-turn.invariant (omega arith)
