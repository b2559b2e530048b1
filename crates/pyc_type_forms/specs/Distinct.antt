-- The classes whose instances stand among some types.
use Rattle.std.specs.Prelude.{◌≡◌, List}
use Rattle.indexmap.specs.IndexSet.{IndexSet, contains_by}
use Rattle.pyc_class_ids.specs.Class.{Id, same_class}
use Rattle.pyc_type_forms.specs.Types.{Ty, instance}
use Rattle.pyc_type_forms.specs.Unions.{is_among}

-- a set has just the classes whose instances stand among some types
abbrev pub AreClasses : {S : Type 0} → IndexSet Id S → List Ty → Type 0
AreClasses classes tys = (c : Id) → contains_by (same_class c) classes ≡ is_among tys (instance c)
