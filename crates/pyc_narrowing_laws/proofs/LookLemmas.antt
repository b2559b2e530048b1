-- What is looked up of places.
use Rattle.std.proofs.Common.{◌≡◌, Bool, true, Option, None, Some, unwrap_or, refl, sym, ap, ◌∙◌, subst}
use Rattle.pyc_ast.specs.Exprs.{Expr}
use Rattle.pyc_class_ids.specs.Mro.{MroTable}
use Rattle.pyc_narrowing.specs.Splitting.{look_quietly}
use Rattle.pyc_narrowing_laws.specs.Conditions.{found_at}
use Rattle.pyc_narrowing_laws.specs.ConditionLaws.{narrowed_or, NarrowedTypesAreRight}
use Rattle.pyc_narrowing_laws.specs.StateLaws.{Values, Meets}
use Rattle.pyc_narrowing_laws.specs.Values.{is_of}
use Rattle.pyc_narrowing_laws.proofs.StateLemmas.{found-met}
use Rattle.pyc_obligations.specs.Quiet.{quiet, quiet_after}
use Rattle.pyc_places.specs.Places.{Place, place_of}
use Rattle.pyc_places.specs.States.{State, unreachable, reachable, type_of, type_of_place, narrowed_at}
use Rattle.pyc_reading.specs.Answers.{Answer}
use Rattle.pyc_reading.specs.Keys.{Key}
use Rattle.pyc_reading.specs.Owing.{orders_by}
use Rattle.pyc_reading.specs.Readings.{and_then}
use Rattle.pyc_type_forms.specs.Types.{Ty}

look_quietly-type : (answers : Key → Answer) (declared : Expr → Ty) (s : State) (x : Expr)
    → (found_at answers (narrowed_or declared) s x).ty ≡ unwrap_or (narrowed_at s x) (declared x)
unfolding look_quietly quiet quiet_after and_then
look_quietly-type answers declared s x = refl

module _ (orders : MroTable) (values : Values) where
  narrowed-right : (s : State) (x : Expr) (place : Place) (ty : Ty) → Meets orders values s → place_of x ≡ Some place → is_of orders (values place) ty ≡ true
      → is_of orders (values place) (unwrap_or (narrowed_at s x) ty) ≡ true
  narrowed-right unreachable x place ty met is here = absurd met
  narrowed-right (reachable narrowings) x place ty met is here =
      ap (λ at. is_of orders (values place) (unwrap_or (type_of_place narrowings at) ty)) is ∙ by_type (type_of narrowings place) refl
    where
      by_type : (found : Option Ty) → type_of narrowings place ≡ found → is_of orders (values place) (unwrap_or found ty) ≡ true
      by_type None none_there = here
      by_type (Some narrowed) there = found-met orders values narrowings place narrowed met there

pub narrowed_types_are_right : NarrowedTypesAreRight
narrowed_types_are_right answers declared values right s x place met is =
    ap (is_of (orders_by answers) (values place)) (look_quietly-type answers declared s x)
    ∙ narrowed-right (orders_by answers) values s x place (declared x) met is (right x place is)
