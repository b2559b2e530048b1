-- What the targets of a tuple or a list of targets get (Python reference 3.13, "Assignment statements"; typing
-- specification, "Tuples").
use Rattle.std.specs.Prelude.{ℕ, suc, Bool, true, false, ◌||◌, nat_eq, nat_lt, if◌then◌else◌, Option}
use Rattle.std.specs.Prelude.{None, Some}
use Rattle.pyc_ast.specs.declared.position.Position.{Position}
use Rattle.pyc_ast.specs.Targets.{TargetElement, target_element, TargetElements, no_target, another_target}
use Rattle.pyc_subscripts.specs.Chosen.{row_length, ty_at}
use Rattle.pyc_subscripts.specs.Iteration.{infer_iteration}
use Rattle.pyc_messages.specs.Assignments as message
use Rattle.pyc_reading.specs.Traces.{Step}
use Rattle.pyc_reading.specs.Readings.{Done, Report, and_then}
use Rattle.pyc_type_forms.specs.Types.{Ty, any, tuple}

-- what targets get
pub data Shares : Type 0 where
  -- each the same type
  each_gets : Ty → Shares
  -- each its place of a tuple
  places_of : Ty → Shares

-- ---- what is reported

-- a tuple with fewer places than there are targets: each gets Any
unfoldable pub too_few : Position → (provided expected : ℕ) → Step Shares
too_few at provided expected = Report (message.too_few_values at provided expected) (Done (each_gets any))

-- a tuple with more places than there are targets
unfoldable pub too_many : Position → (provided expected : ℕ) → Step Shares
too_many at provided expected = Report (message.too_many_values at provided expected) (Done (each_gets any))

-- ---- the targets

abbrev pub is_starred : TargetElement → Bool
is_starred (target_element starred to) = starred

-- whether a target stands after `*`
abbrev pub has_starred : TargetElements → Bool
has_starred no_target = false
has_starred (another_target x rest) = is_starred x || has_starred rest

-- how many targets there are
abbrev pub target_count : TargetElements → ℕ
target_count no_target = 0
target_count (another_target x rest) = suc (target_count rest)

-- ---- shares

abbrev pub unequal_shares : Position → (provided expected : ℕ) → Step Shares
unequal_shares at provided expected =
    if nat_lt provided expected then too_few at provided expected else too_many at provided expected

-- the places of a tuple with so many, if there are as many targets
abbrev pub tuple_shares : Position → (provided expected : ℕ) → Ty → Step Shares
tuple_shares at provided expected ty =
    if nat_eq provided expected then Done (places_of ty) else unequal_shares at provided expected

unfoldable pub iterated_shares : Position → Ty → Step Shares
iterated_shares at ty = and_then (infer_iteration at ty) (λ item. Done (each_gets item))

abbrev pub shares_by_type : Position → ℕ → Ty → Step Shares
shares_by_type at expected (tuple items) = tuple_shares at (row_length items) expected (tuple items)
shares_by_type at expected ty = iterated_shares at ty

-- what so many targets get of a value of a type that begins at a position: Any where one stands after `*`
abbrev pub shares_of : Position → Bool → ℕ → Ty → Step Shares
shares_of at true expected ty = Done (each_gets any)
shares_of at false expected ty = shares_by_type at expected ty

-- ---- the share of a target

abbrev pub or_any : Option Ty → Ty
or_any (Some ty) = ty
or_any None = any

abbrev pub place_in : Ty → ℕ → Ty
place_in (tuple items) index = or_any (ty_at items index)
place_in _ index = any

-- what the target of a number gets
abbrev pub share_at : Shares → ℕ → Ty
share_at (each_gets ty) index = ty
share_at (places_of ty) index = place_in ty index
