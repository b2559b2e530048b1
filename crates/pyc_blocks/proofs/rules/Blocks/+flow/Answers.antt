use Rattle.std.proofs.Common.{◌∙◌, ◌+◌, ◌*◌, ◌<◌, max, arith, rules}
use denote.Param.Weighed.{most}
use Rattle.pyc_ast.proofs.stmt.Block.TheLaws.{the_size}
use Rattle.pyc_ast.proofs.stmt.Handler.TheLaws.{the_size as handler_size}
use Rattle.pyc_ast.proofs.stmt.StmtForm.TheLaws.{the_size as form_size}
use Rattle.pyc_ast.specs.declared.stmt.Handler.{Handler}
use Rattle.pyc_places.specs.StateView.{state_of}
use Rattle.pyc_reading.proofs.RunLemmas.{grown_trans}
use Rattle.pyc_blocks.proofs.SizeLemmas.{try_falls}
use Rattle.pyc_blocks.proofs.Turns.{statement_turn, branch_turn, handler_turn}
use Rattle.pyc_blocks.specs.Views.{flow_in, handled_in, rules_of}
use Rattle.pyc_blocks.proofs.rules.Blocks.+flow.Goals as goal

pub read_block-loop-statement-preserved : goal.read_block-loop-statement-preserved
read_block-loop-statement-preserved g t c = record {
  same =
      statement_turn (rules_of g.P.PartReader.parts c.args.self.now) c.args.statements.now c.loop-statement.statement-index c.statement-item.result (flow_in c.loop-statement.flow) _ _ _ c.loop-statement-test.true c.statement-item.is c.in_ok-read_reached.ensures.done
      ∙ c.loop-statement.invariant.same;
  grown = grown_trans c.loop-statement.invariant.grown c.read_reached.ensures.grown;
}

pub read_branches-loop-branch-preserved : goal.read_branches-loop-branch-preserved
read_branches-loop-branch-preserved g t c = record {
  same =
      branch_turn (rules_of g.P.PartReader.parts c.args.self.now) c.args.row.now c.loop-branch.branch-index c.branch-item.result (handled_in c.loop-branch.flow c.loop-branch.ends) _ _ _ c.loop-branch-test.true c.branch-item.is c.in_ok-read_branch.ensures.done
      ∙ c.loop-branch.invariant.same;
  grown = grown_trans c.loop-branch.invariant.grown c.read_branch.ensures.grown;
}

pub read_handlers-loop-handler-preserved : goal.read_handlers-loop-handler-preserved
read_handlers-loop-handler-preserved g t c = record {
  same =
      handler_turn (rules_of g.P.PartReader.parts c.args.self.now) (state_of c.args.raised.now) c.args.row.now c.loop-handler.handler-index c.handler-item.result (handled_in c.loop-handler.flow c.loop-handler.ends) _ _ _ c.loop-handler-test.true c.handler-item.is c.in_ok-read_handler.ensures.done
      ∙ c.loop-handler.invariant.same;
  grown = grown_trans c.loop-handler.invariant.grown c.read_handler.ensures.grown;
}

-- the parts of a `try` stand less deep than itself
pub read_form-read_try-requires : goal.read_form-read_try-requires
read_form-read_try-requires g t c κs within =
    let h : 5 * max (max (the_size c.in-Try.body) (the_size c.in-Try.orelse)) (max (most (λ (x : Handler). handler_size x) c.deref-in-Try.result.now) (the_size c.in-Try.finally)) + 4 < 5 * form_size c.args.form.now = rw (c.in-Try.is, c.deref-in-Try.ensures.value) (try_falls c.in-Try.body c.in-Try.handlers c.in-Try.orelse c.in-Try.finally) in
    (omega (arith, h, c.decreases), search rules)
