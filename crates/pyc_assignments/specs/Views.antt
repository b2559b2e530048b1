-- The plain shares, obligations and what is met that those of the code are.
use Rattle.pyc_assignments.specs.declared.messages.RequiredAssignment.{RequiredAssignment}
use Rattle.pyc_assignments.specs.declared.reading.AssignmentOutcome.{AssignmentOutcome as OutcomeOf}
use Rattle.pyc_assignments.specs.declared.reading.AssignmentOutcome.TheVariants as m
use Rattle.pyc_assignments.specs.declared.unpacking.Shares.{Shares as SharesOf}
use Rattle.pyc_assignments.specs.declared.unpacking.Shares.TheVariants as s
use Rattle.pyc_assignments.specs.Reads.{AssignmentOutcome, target_type_outcome, new_local}
use Rattle.pyc_assignments.specs.Storing.{required_assignment}
use Rattle.pyc_assignments.specs.Unpacking.{Shares, each_gets, places_of}
use Rattle.pyc_reading.specs.Owing.{Obligation}
use Rattle.pyc_targets.specs.Views.{target_type_of}
use Rattle.pyc_type_forms.specs.TypeView.{ty_of}

abbrev pub outcome_in : OutcomeOf → AssignmentOutcome
outcome_in (m.TargetType found) = target_type_outcome (target_type_of found)
outcome_in (m.NewLocal name) = new_local name

abbrev pub shares_in : SharesOf → Shares
shares_in (s.Each ty) = each_gets (ty_of ty)
shares_in (s.Places ty) = places_of (ty_of ty)

-- a value that has to be of the type that its target takes
abbrev pub required_in : RequiredAssignment → Obligation
required_in o = required_assignment o.at o.is_item (ty_of o.got.now) (ty_of o.want.now)
