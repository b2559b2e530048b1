use Rattle.std.proofs.Common.{◌≡◌, length, map}
use Rattle.pyc_blocks.specs.Flows.{join_branch_ends}
use Rattle.pyc_places.specs.StateView.{state_of}
use Rattle.pyc_blocks.proofs.flows.join_branch_ends.Given as goal

-- the ends that are left, with what is joined so far, are the whole
abbrev pub invariant-loop-end : goal.invariant-loop-end
invariant-loop-end l =
    join_branch_ends (map state_of l.ends.items) (state_of l.joined)
    ≡ join_branch_ends (map state_of l.fn.ends.items) (state_of l.fn.last)

abbrev pub decreases-loop-end : goal.decreases-loop-end
decreases-loop-end l = length l.ends.items
