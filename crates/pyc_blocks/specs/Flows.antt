-- What is known as the statements of a body are checked in text order (Python reference 3.13, "Compound statements";
-- typing specification, "Type narrowing").
use Rattle.std.specs.Prelude.{List, [], ◌∷◌, ◌++◌}
use Rattle.pyc_locals.specs.AssignedPlaces.{drop_places}
use Rattle.pyc_locals.specs.FlowStates.{FlowState, in_state}
use Rattle.pyc_places.specs.Places.{Place}
use Rattle.pyc_places.specs.States.{State, unreachable, reachable, joined_states}

-- the point after what was checked, and the states in which the innermost loop was left by a `break`
pub record Flow : Type 0 where
  pub flow_state : FlowState
  pub left : List State

-- a flow that nothing has left yet
abbrev pub flow_at : FlowState → Flow
flow_at p = record { flow_state = p; left = [] }

abbrev pub at_flow_state : Flow → FlowState → Flow
at_flow_state f p = record { flow_state = p; left = f.left }

abbrev pub with_state : Flow → State → Flow
with_state f s = at_flow_state f (in_state f.flow_state s)

-- no run goes on
abbrev pub make_unreachable : Flow → Flow
make_unreachable f = with_state f unreachable

-- what is known where one of some states holds: the first, and those of a list in turn
abbrev pub join_states : State → List State → State
join_states s [] = s
join_states s (other ∷ rest) = join_states (joined_states s other) rest

-- ---- `if`

-- a flow, and the states in which blocks ended before it
pub record Handled : Type 0 where
  pub flow : Flow
  pub ends : List State

-- a block ended, and what follows begins in a state
abbrev pub block_ended : Handled → State → Flow → Handled
block_ended so_far next g = record { flow = with_state g next; ends = so_far.ends ++ (g.flow_state.state ∷ []) }

-- what is known where a block of an `if` ended: each `elif` is an `if` that stands in the `else`
abbrev pub join_branch_ends : List State → State → State
join_branch_ends [] s = s
join_branch_ends (end ∷ rest) s = joined_states end (join_branch_ends rest s)

-- ---- loops

-- the entry of a loop, where what its turns assign is not known
abbrev pub entered : List Place → Flow → Flow
entered places f = flow_at (in_state f.flow_state (drop_places places f.flow_state.state))

-- the innermost loop is left, past each `finally` that assigns these places
abbrev pub broken : List Place → Flow → Flow
broken on_the_way_out f =
    record {
      flow_state = in_state f.flow_state unreachable;
      left = f.left ++ (drop_places on_the_way_out f.flow_state.state ∷ []);
    }

-- the `else` of a loop begins in a state, inside the loop around it
abbrev pub exhausted : Flow → State → List State → Flow
exhausted g exit around = record { flow_state = in_state g.flow_state exit; left = around }

-- after a loop: where its `else` ends, or where the loop was left
abbrev pub after_loop : Flow → List State → Flow
after_loop f left = with_state f (join_states f.flow_state.state left)

-- ---- `try`

-- after `finally`: no run goes on where none comes to its end, and what it narrows is not carried on
abbrev pub after_finally : State → State → State
after_finally unreachable s = unreachable
after_finally (reachable narrowings) s = s
