-- Deletions (Python reference 3.13, "The del statement"; typing specification, "Type narrowing").
use Rattle.std.specs.Prelude.{Option, None, Some}
use Rattle.pyc_ast.specs.Targets.{Target, target, TargetForm, unpacking, TargetElements, no_target, another_target}
use Rattle.pyc_ast.specs.Targets.{target_element}
use Rattle.pyc_body_context.specs.Bodies.{Body}
use Rattle.pyc_locals.specs.FlowStates.{FlowState, in_state}
use Rattle.pyc_places.specs.Places.{Place}
use Rattle.pyc_places.specs.States.{State, drop_place}
use Rattle.pyc_places.specs.TargetPlaces.{target_place}
use Rattle.pyc_reading.specs.Traces.{Step}
use Rattle.pyc_reading.specs.Readings.{Done, ◌>>=◌}
use Rattle.pyc_simple_statements.specs.TargetTypes.{target_type}

-- nothing is known any more of some place, nor of all below it
abbrev pub dropped_if : Option Place → State → State
dropped_if (Some place) s = drop_place place s
dropped_if None s = s

module _ (body : Body) where
  -- a target that is no tuple or list of targets is read
  unfoldable pub single_deleted : Target → FlowState → Step FlowState
  single_deleted to p = do
    ty ← target_type body p to
    Done (in_state p (dropped_if (target_place to) p.state))

  abbrev mutual
    pub deleted : Target → FlowState → Step FlowState
    deleted (target at inside form) p = form_deleted (target at inside form) form p

    -- the targets of a tuple or a list are deleted in turn
    pub form_deleted : Target → TargetForm → FlowState → Step FlowState
    form_deleted whole (unpacking elements) p = each_deleted elements p
    form_deleted whole form p = single_deleted whole p

    pub each_deleted : TargetElements → FlowState → Step FlowState
    each_deleted no_target p = Done p
    each_deleted (another_target (target_element is_starred to) rest) p = do
      q ← deleted to p
      each_deleted rest q
