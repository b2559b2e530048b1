use Rattle.std.proofs.Common.{◌∙◌}
use Rattle.pyc_blocks.proofs.FlowLemmas.{end_turn}
use Rattle.pyc_places.specs.StateView.{state_of}
use Rattle.pyc_blocks.proofs.flows.join_branch_ends.Goals as goal

pub loop-end-preserved : goal.loop-end-preserved
loop-end-preserved c =
    end_turn c.loop-end.ends.items c.pop.new.self.items c.in-Some.end (state_of c.loop-end.joined) (state_of c.in_ok-joined.joined) c.in-Some.ensures.items c.in_ok-joined.ensures
    ∙ c.loop-end.invariant
