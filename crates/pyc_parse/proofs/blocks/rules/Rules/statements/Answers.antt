use Rattle.std.proofs.Common.{arith, Option, option_map}
use Rattle.pyc_tree.specs.declared.block.Stmt.{Stmt}
use Rattle.pyc_parse.specs.Blocks.{block_at, statements, all_statements}
use Rattle.pyc_tree.specs.BlockView.{stmt_of}
use Rattle.pyc_parse.specs.PlacedView.{lines_of}
use Rattle.pyc_parse.proofs.BlockSteps.{read_err, statements_start, statements_over, statements_fault, statements_end, statements_on}
use Rattle.pyc_parse.proofs.blocks.rules.Rules.statements.Goals as goal

pub loop-turn-init : goal.loop-turn-init
unfolding all_statements
loop-turn-init g c =
    rw c.new-found.ensures.items
    (statements_start (λ n. statements (block_at c.args.self.now.depth) n c.args.indent (lines_of c.args.lines.now)) _ _ c.len-turn-end.ensures)

pub returns-in_err-next : goal.returns-in_err-next
returns-in_err-next g c =
    read_err {X = Option Stmt} (option_map stmt_of) _ _ _ _ _ c.from_residual.result _ c.from_residual.ensures.1 c.in_err-next.ensures
    (statements_fault _ _ _ _ _ _ _ c.loop-turn.invariant c.loop-turn-test.true)

pub returns-in-None : goal.returns-in-None
returns-in-None g c =
    statements_end _ _ _ _ _ _ _ c.loop-turn.invariant c.loop-turn-test.true c.in_ok-next.next _ c.in_ok-next.ensures (cc)

pub loop-turn-preserved : goal.loop-turn-preserved
loop-turn-preserved g c =
    rw c.in_ok-push-in-Some.ensures.items
    (statements_on _ _ _ _ _ _ _ c.loop-turn.invariant c.loop-turn-test.true c.in_ok-next.next _ c.in_ok-next.ensures c.in-Some.statement (cc))

pub returns : goal.returns
returns g c = statements_over _ _ _ _ _ _ _ c.loop-turn.invariant (omega arith)
