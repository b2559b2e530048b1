-- What a test by `isinstance` asks (the library reference, `isinstance`; typing specification, "Type narrowing").
use Rattle.std.specs.Prelude.{◌≡◌, List, ◌++◌}
use Rattle.pyc_class_ids.specs.Class.{Id}
use Rattle.pyc_narrowing.specs.Splitting.{instance_test}
use Rattle.pyc_reading.specs.Owing.{written}
use Rattle.pyc_places.specs.Places.{Place}
use Rattle.pyc_places.specs.States.{State}
use Rattle.pyc_expression_laws.specs.Rows.{Answers, source_keys}
use Rattle.pyc_reading.specs.Readings.{asked}
use Rattle.pyc_type_forms.specs.Types.{Ty}

-- the law of tests by `isinstance`: the classes of sources that are written in the type of the place, and then those of
-- the test
abbrev pub InstanceTestReads : Type 0
InstanceTestReads =
    (answers : Answers) (state : State) (place : Place) (ty : Ty) (classes : List Id)
    → asked answers (instance_test state place ty classes) ≡ source_keys (written ty ++ classes)
