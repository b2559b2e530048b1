-- What the tests of one place keep.
use Rattle.std.proofs.Common.{◌≡◌, Bool, true, false, not, if◌then◌else◌, List, Option, None, Some, refl}
use Rattle.std.proofs.lemmas.Bool.{false≢true, not_from_false}
use Rattle.pyc_class_ids.specs.Mro.{MroTable}
use Rattle.pyc_narrowing.specs.SplitStates.{narrow_state, none_of, none_states}
use Rattle.pyc_narrowing_laws.specs.StateLaws.{Values, Meets}
use Rattle.pyc_narrowing_laws.specs.TestLaws.{MeetsWhere, TruthKeeps, ComparisonKeeps, InstanceTestKeeps}
use Rattle.pyc_narrowing_laws.specs.TypeLaws.{is_of_left}
use Rattle.pyc_narrowing_laws.specs.Values.{is_none_value, is_of}
use Rattle.pyc_narrowing_laws.proofs.InstanceLemmas.{narrow_to_keeps, narrow_away_keeps}
use Rattle.pyc_narrowing_laws.proofs.StateLemmas.{with_place-met}
use Rattle.pyc_narrowing_laws.proofs.UnionLemmas.{without_none_keeps, none_keeps}
use Rattle.pyc_places.specs.Places.{Place}
use Rattle.pyc_places.specs.States.{State, with_place}
use Rattle.pyc_type_forms.specs.Equality.{same_type}
use Rattle.pyc_type_forms.specs.Narrowing.{narrow_to, narrow_away, without_none}
use Rattle.pyc_type_forms.specs.Types.{Ty}

module _ (orders : MroTable) (values : Values) where
  -- what a test leaves of the type of a place
  narrowed-met : (s : State) (place : Place) (ty : Ty) (left : Option Ty) → Meets orders values s → is_of_left orders (values place) left ≡ true
      → Meets orders values (narrow_state s place ty left)
  narrowed-met s place ty None met here = absurd (false≢true here)
  narrowed-met s place ty (Some left) met here = by_same (same_type left ty)
    where
      by_same : (b : Bool) → Meets orders values (if b then s else with_place place left s)
      by_same true = met
      by_same false = with_place-met orders values place left s met here

  none-met : (b : Bool) (s : State) (place : Place) (ty : Ty) → Meets orders values s → is_of orders (values place) ty ≡ true
      → is_none_value (values place) ≡ b → MeetsWhere orders values b (none_states s place ty)
  none-met true s place ty met here is =
      narrowed-met s place ty (none_of ty) met (none_keeps orders (values place) ty here is)
  none-met false s place ty met here is =
      narrowed-met s place ty (without_none ty) met
      (without_none_keeps orders (values place) ty here (not_from_false (is_none_value (values place)) is))

pub truth_keeps : TruthKeeps
truth_keeps orders values true s place ty met is =
    narrowed-met orders values s place ty (without_none ty) met.0 (without_none_keeps orders (values place) ty met.1 (is refl))
truth_keeps orders values false s place ty met is = met.0

pub comparison_keeps : ComparisonKeeps
comparison_keeps orders values s place ty met =
    none-met orders values (is_none_value (values place)) s place ty met.0 met.1 refl

pub instance_test_keeps : InstanceTestKeeps
instance_test_keeps orders values true s place ty classes reported met test =
    narrowed-met orders values s place ty (narrow_to orders ty classes) met
    (narrow_to_keeps orders (values place) ty classes reported.1 test.1 test.0)
instance_test_keeps orders values false s place ty classes reported met test =
    narrowed-met orders values s place ty (narrow_away orders ty classes) met
    (narrow_away_keeps orders (values place) ty classes reported.0 reported.2 test.1 test.0)
