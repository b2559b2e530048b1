-- The plain flows, rules and places that those of the code are.
use Rattle.std.specs.Prelude.{map}
use Rattle.std.specs.declared.alloc.Global.{Global}
use Rattle.std.specs.declared.vec.Vec.{Vec}
use Rattle.pyc_blocks.specs.Blocks.{Rules, Begun, TryPlaces}
use Rattle.pyc_blocks.specs.declared.flows.Flow.{Flow as FlowOf}
use Rattle.pyc_blocks.specs.declared.rules.Begun.{Begun as BegunOf}
use Rattle.pyc_blocks.specs.declared.rules.Blocks.{Blocks as BlocksOf}
use Rattle.pyc_blocks.specs.declared.trying.BegunTry.{BegunTry as BegunTryOf}
use Rattle.pyc_blocks.specs.Flows.{Flow, Handled}
use Rattle.pyc_blocks.specs.Parts.{PartReads}
use Rattle.pyc_locals.specs.Views.{flow_state_in}
use Rattle.pyc_places.specs.declared.states.State.{State as StateOf}
use Rattle.pyc_places.specs.StateView.{state_of}

abbrev pub flow_in : FlowOf → Flow
flow_in f = record { flow_state = flow_state_in f.flow_state; left = map state_of f.left.items }

-- a flow, and the states in which blocks ended before it
abbrev pub handled_in : FlowOf → Vec StateOf Global → Handled
handled_in f ends = record { flow = flow_in f; ends = map state_of ends.items }

abbrev pub begun_in : BegunOf → FlowOf → Begun
begun_in b f = record { flow = flow_in f; exit = state_of b.exit; around = map state_of b.around.items }

abbrev pub try_places_in : BegunTryOf → TryPlaces
try_places_in b = record { inside = b.inside.items; others = b.others.items; finally = b.finally.items }

abbrev pub rules_of : {N P : Type 0} → (P → PartReads) → BlocksOf N P → Rules
rules_of parts b = record { parts = parts b.parts.now; on_the_way_out = b.on_the_way_out.now }
