use Rattle.std.proofs.Common.{◌≡◌, drop, map}
use Rattle.pyc_blocks.specs.Flows.{join_states}
use Rattle.pyc_places.specs.StateView.{state_of}
use Rattle.pyc_blocks.proofs.flows.join_states.Given as goal

-- what is joined so far, with the states that are left, is the whole
abbrev pub invariant-loop-other : goal.invariant-loop-other
invariant-loop-other l =
    join_states (state_of l.joined) (map state_of (drop l.other-index l.others))
    ≡ join_states (state_of l.state) (map state_of l.others)
