-- The plain values that those of the code are.
use Rattle.std.specs.Prelude.{map, option_map}
use Rattle.pyc_targets.specs.AttributeTargets.{Wants}
use Rattle.pyc_targets.specs.declared.attribute_targets.Wants.{Wants as WantsOf}
use Rattle.pyc_targets.specs.declared.item_targets.ItemTarget.{ItemTarget as ItemTargetOf}
use Rattle.pyc_targets.specs.declared.item_targets.ItemTarget.TheVariants as t
use Rattle.pyc_targets.specs.declared.item_targets.ItemTargets.{ItemTargets as ItemTargetsOf}
use Rattle.pyc_targets.specs.declared.target_type.TargetType.{TargetType as TargetTypeOf}
use Rattle.pyc_targets.specs.ItemTargets.{ItemTarget, ItemTargets, report_unsupported, free, takes}
use Rattle.pyc_targets.specs.TargetTypes.{TargetType}
use Rattle.pyc_type_forms.specs.TypeView.{ty_of}

abbrev pub target_type_of : TargetTypeOf → TargetType
target_type_of target_type = record { want = option_map ty_of target_type.want; is_item = target_type.is_item }

abbrev pub wants_in : WantsOf → Wants
wants_in found = record { types = map ty_of found.types.items; is_free = found.is_free }

abbrev pub item_target_of : ItemTargetOf → ItemTarget
item_target_of t.Unsupported = report_unsupported
item_target_of t.Free = free
item_target_of (t.Takes ty) = takes (ty_of ty)

abbrev pub item_targets_in : ItemTargetsOf → ItemTargets
item_targets_in found =
    record {
      types = map ty_of found.types.items;
      is_free = found.is_free;
      is_unsupported = found.is_unsupported;
    }
