-- The plain state that one of the code is.
use Rattle.std.specs.Prelude.{List, map}
use Rattle.pyc_places.specs.declared.narrowings.Narrowings.{Narrowings}
use Rattle.pyc_places.specs.declared.states.State.{State as StateOf}
use Rattle.pyc_places.specs.declared.states.State.TheVariants as s
use Rattle.pyc_places.specs.NarrowingView.{narrowing_of}
use Rattle.pyc_places.specs.States.{Narrowing, State, unreachable, reachable}

abbrev pub narrowings_in : Narrowings → List Narrowing
narrowings_in narrowings = map (λ n. narrowing_of n.value) narrowings.items.items

abbrev pub state_of : StateOf → State
state_of s.Unreachable = unreachable
state_of (s.Reachable narrowings) = reachable (narrowings_in narrowings)
