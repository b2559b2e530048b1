-- What holds of what files answer, and of the orders of the classes that they declare ("The Python 2.3 method
-- resolution order").
use Rattle.std.specs.Prelude.{◌≡◌, List, map}
use Rattle.pyc_class_table.specs.MroLaws.{HoldsItself, HoldsMros, HasBuiltins}
use Rattle.pyc_iface.specs.Answers.{answer_of, class_orders}
use Rattle.pyc_names.specs.Interfaces.{interface_of}
use Rattle.pyc_names.specs.SourceFiles.{SourceFile}
use Rattle.pyc_reading.specs.Keys.{Key}

-- the orders of classes meet what the laws of assignability ask of orders, whatever the files
abbrev pub MrosAreOrderly : Type 0
MrosAreOrderly =
    (files : List SourceFile)
    → HoldsItself (class_orders files) × (HoldsMros (class_orders files) × HasBuiltins (class_orders files))

-- files with the same interfaces give the same answers
abbrev pub InterfacesAnswer : Type 0
InterfacesAnswer =
    (files others : List SourceFile) → map interface_of files ≡ map interface_of others
    → (key : Key) → answer_of files key ≡ answer_of others key
