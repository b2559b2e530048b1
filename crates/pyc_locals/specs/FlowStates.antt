-- A point of a body, as its statements are read in text order (Python reference 3.13, "Execution model"; typing
-- specification, "Type narrowing").
use Rattle.std.specs.Prelude.{ℕ, List, [], ◌∷◌}
use Rattle.pyc_locals.specs.Locals.{LocalType, Locals, with_local}
use Rattle.pyc_places.specs.States.{State, drop_place}

-- what is known there of the locals of the function, and of places
pub record FlowState : Type 0 where
  pub locals : Locals
  pub state : State

-- a point with its locals in another state
abbrev pub in_state : FlowState → State → FlowState
in_state p s = record { locals = p.locals; state = s }

-- a point at which a local is declared so, unless it was before
abbrev pub with_declared : List ℕ → LocalType → FlowState → FlowState
with_declared x ty p = record { locals = with_local x ty p.locals; state = p.state }

-- a point at which a name is bound, as by an import, a function or a class: what was known of it and of all below it is
-- dropped
abbrev pub name_bound : List ℕ → LocalType → FlowState → FlowState
name_bound x ty p = with_declared x ty (in_state p (drop_place (x ∷ []) p.state))
