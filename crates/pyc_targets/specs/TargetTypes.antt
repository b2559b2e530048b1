-- What an assignment to a target meets.
use Rattle.std.specs.Prelude.{Bool, true, false, Option, Some}
use Rattle.pyc_type_forms.specs.Types.{Ty}

-- the type that a target takes, none where nothing is required of it, and whether the target is an item of a subscript
pub record TargetType : Type 0 where
  pub want : Option Ty
  pub is_item : Bool

abbrev pub plain_target_type : Option Ty → TargetType
plain_target_type want = record { want = want; is_item = false }

abbrev pub item_target_type : Ty → TargetType
item_target_type ty = record { want = Some ty; is_item = true }
