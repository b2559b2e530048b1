-- What an item of a subscript takes when it is assigned to (Python reference 3.13, "Assignment statements"; "Emulating
-- container types", `__setitem__`): what a `__setitem__` takes is not looked at.
use Rattle.std.specs.Prelude.{Bool, true, false, codes, if◌then◌else◌, List, [], ◌∷◌, ◌++◌, Option, None, Some}
use Rattle.pyc_ast.specs.declared.position.Position.{Position}
use Rattle.pyc_ast.specs.Exprs.{Index}
use Rattle.pyc_class_ids.specs.Class.{Id, builtin, user}
use Rattle.pyc_subscripts.specs.Subscripts.{item_of}
use Rattle.pyc_messages.specs.Assignments as message
use Rattle.pyc_obligations.specs.Asking.{ask_member, is_unknown_class}
use Rattle.pyc_reading.specs.Answers.{MemberAnswer}
use Rattle.pyc_reading.specs.Traces.{Step}
use Rattle.pyc_reading.specs.Readings.{Done, Report, and_then}
use Rattle.pyc_targets.specs.TargetTypes.{TargetType, plain_target_type, item_target_type}
use Rattle.pyc_type_forms.specs.Text.{text_of}
use Rattle.pyc_type_forms.specs.Types.{Ty, any, instance, class_object, list, dict}
use Rattle.pyc_type_forms.specs.Unions.{items_of, union_of}

-- what an item of a value is as a target
pub data ItemTarget : Type 0 where
  -- it cannot be assigned to
  report_unsupported : ItemTarget
  -- it takes anything
  free : ItemTarget
  -- it takes a value of this type
  takes : Ty → ItemTarget

-- ---- what is reported

-- a value whose items cannot be assigned to: Any is assigned
unfoldable pub unsupported_reported : Position → Ty → Step TargetType
unsupported_reported at ty =
    Report (message.unsupported_target at (text_of ty)) (Done (plain_target_type (Some any)))

-- ---- one type

abbrev pub by_setitem : Option MemberAnswer → ItemTarget
by_setitem (Some found) = free
by_setitem None = report_unsupported

unfoldable pub ask_target : Id → Step ItemTarget
ask_target c = and_then (ask_member c (codes "__setitem__")) (λ found. Done (by_setitem found))

-- an instance of a class of a source, by whether the order of the class is not known
abbrev pub user_target : Id → Bool → Step ItemTarget
user_target c true = Done (takes any)
user_target c false = ask_target c

unfoldable pub source_target : Id → Step ItemTarget
source_target c = and_then (is_unknown_class c) (user_target c)

abbrev pub instance_target : Id → Step ItemTarget
instance_target (builtin c) = Done report_unsupported
instance_target (user m x) = source_target (user m x)

abbrev pub target_of_item : Option Ty → ItemTarget
target_of_item (Some ty) = takes ty
target_of_item None = report_unsupported

-- an item of a list or a dictionary, whose index is read as in a subscript
unfoldable pub indexed_target : Position → Index → Ty → Ty → Step ItemTarget
indexed_target at brackets got ty = and_then (item_of at brackets got ty) (λ found. Done (target_of_item found))

-- an item of a value of a type that is no union, by an index of a type
abbrev pub target_of_type : Position → Index → Ty → Ty → Step ItemTarget
target_of_type at brackets got any = Done (takes any)
target_of_type at brackets got (class_object c) = Done (takes any)
target_of_type at brackets got (instance c) = instance_target c
target_of_type at brackets got (list item) = indexed_target at brackets got (list item)
target_of_type at brackets got (dict key value) = indexed_target at brackets got (dict key value)
target_of_type at brackets got _ = Done report_unsupported

-- ---- the whole

-- the types that items take, whether one takes anything, and whether one cannot be assigned to
pub record ItemTargets : Type 0 where
  pub types : List Ty
  pub is_free : Bool
  pub is_unsupported : Bool

abbrev pub no_targets : ItemTargets
no_targets = record { types = []; is_free = false; is_unsupported = false }

abbrev pub with_target : ItemTargets → ItemTarget → ItemTargets
with_target found report_unsupported = record { types = found.types; is_free = found.is_free; is_unsupported = true }
with_target found free = record { types = found.types; is_free = true; is_unsupported = found.is_unsupported }
with_target found (takes ty) =
    record { types = found.types ++ (ty ∷ []); is_free = found.is_free; is_unsupported = found.is_unsupported }

-- these, and then those of types, in turn
unfoldable pub more_targets : Position → Index → Ty → ItemTargets → List Ty → Step ItemTargets
more_targets at brackets got found [] = Done found
more_targets at brackets got found (ty ∷ rest) =
    and_then (target_of_type at brackets got ty) (λ item. more_targets at brackets got (with_target found item) rest)

abbrev pub supported_target_type : ItemTargets → TargetType
supported_target_type found = if found.is_free then plain_target_type None else item_target_type (union_of found.types)

abbrev pub conclude : Position → Ty → ItemTargets → Step TargetType
conclude at ty found = if found.is_unsupported then unsupported_reported at ty else Done (supported_target_type found)

-- what an item of a value of a type takes, by an index of a type; the target begins at the first position, its
-- parentheses included
unfoldable pub item_target : (at inside : Position) → Index → Ty → Ty → Step TargetType
item_target at inside brackets got ty =
    and_then (more_targets inside brackets got no_targets (items_of ty)) (conclude at ty)
