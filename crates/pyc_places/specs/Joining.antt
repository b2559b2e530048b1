-- Types whose union with themselves is known at once.
use Rattle.std.specs.Prelude.{Bool, true, false}
use Rattle.pyc_class_ids.specs.Class.{same_class}
use Rattle.pyc_type_forms.specs.Types.{Ty, any, none, instance}

-- whether two types are one that is its own union with itself: Any, None, or the instances of a class
abbrev pub are_one_item : Ty → Ty → Bool
are_one_item any any = true
are_one_item none none = true
are_one_item (instance c) (instance d) = same_class c d
are_one_item _ _ = false
