-- The plain states after a condition that those of the code are.
use Rattle.pyc_narrowing.specs.declared.split_states.SplitStates.{SplitStates as StatesOf}
use Rattle.pyc_narrowing.specs.SplitStates.{SplitStates}
use Rattle.pyc_places.specs.StateView.{state_of}

abbrev pub states_of : StatesOf → SplitStates
states_of found = record { if_true = state_of found.if_true; if_false = state_of found.if_false }
