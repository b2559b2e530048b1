-- What holds of what interfaces answer.
use Rattle.std.specs.Prelude.{◌≡◌, List, map}
use Rattle.pyc_iface.specs.Answers.{answer_by, answer_of}
use Rattle.pyc_interfaces.specs.BareInterfaces.{bare_interface}
use Rattle.pyc_names.specs.Interfaces.{Interface, interface_of}
use Rattle.pyc_names.specs.SourceFiles.{SourceFile}
use Rattle.pyc_reading.specs.Keys.{Key}

-- positions change no answer
abbrev pub PositionsChangeNoAnswer : Type 0
PositionsChangeNoAnswer =
    (interfaces : List Interface) (key : Key) → answer_by (map bare_interface interfaces) key ≡ answer_by interfaces key

-- files whose interfaces are the same but for positions give the same answers
abbrev pub AlikeFilesAnswerAlike : Type 0
AlikeFilesAnswerAlike =
    (files others : List SourceFile)
    → map (λ file. bare_interface (interface_of file)) files ≡ map (λ file. bare_interface (interface_of file)) others
    → (key : Key) → answer_of files key ≡ answer_of others key
