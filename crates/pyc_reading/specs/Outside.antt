-- What a name of a module is as other files see it, through a dot behind the module (typing specification, "Stub
-- files"): what the name stands for, unless the module hides it; then the submodule of that name, or nothing.
use Rattle.std.specs.Prelude.{Bool, true, false, if◌then◌else◌}
use Rattle.pyc_names.specs.Following.{QualifiedName, submodule}
use Rattle.pyc_reading.specs.declared.answer.Export.{Export}
use Rattle.pyc_reading.specs.declared.answer.Export.TheVariants as passed
use Rattle.pyc_reading.specs.Answers.{Answer, NameAnswer, NameKind, name_is, export_is}
use Rattle.pyc_reading.specs.Answers as kind
use Rattle.pyc_reading.specs.Keys as key
use Rattle.pyc_reading.specs.Readings.{Done, Ask, and_then}
use Rattle.pyc_reading.specs.Traces.{Step}
use Rattle.pyc_type_forms.specs.Types.{any, module_type}

-- what a name stands for, as an answer says it
abbrev pub name_in : Answer → NameAnswer
name_in (name_is found) = found
name_in _ = record { kind = kind.unknown; ty = any }

-- what a name of a module stands for, as its own file sees it
abbrev pub ask_name : QualifiedName → Step NameAnswer
ask_name q = Ask (key.name q) (λ answer. Done (name_in answer))

-- whether a module passes a name on, as an answer says it
abbrev pub export_in : Answer → Export
export_in (export_is found) = found
export_in _ = passed.Open

abbrev pub ask_export : QualifiedName → Step Export
ask_export q = Ask (key.export q) (λ answer. Done (export_in answer))

-- whether it is asked if a module passes a name on that is of this kind: not where the name is absent, nor where
-- nothing is known of any name of the module
abbrev pub may_be_hidden : NameKind → Bool
may_be_hidden kind.no_module = false
may_be_hidden kind.no_name = false
may_be_hidden kind.no_target = false
may_be_hidden kind.cycle = false
may_be_hidden kind.opaque = false
may_be_hidden _ = true

-- the submodule of a name
abbrev pub submodule_answer : QualifiedName → NameAnswer
submodule_answer q = record { kind = kind.module_name (submodule q); ty = module_type (submodule q) }

-- a name that its module does not have
abbrev pub absent_answer : NameAnswer
absent_answer = record { kind = kind.no_name; ty = any }

-- a name that stands for this, by whether its module passes it on
abbrev pub exported : QualifiedName → NameAnswer → Export → NameAnswer
exported q found passed.Open = found
exported q found passed.Submodule = submodule_answer q
exported q found passed.Hidden = absent_answer

abbrev pub outside_found : QualifiedName → NameAnswer → Step NameAnswer
outside_found q found =
    if may_be_hidden found.kind then and_then (ask_export q) (λ passed_on. Done (exported q found passed_on))
    else Done found

-- what a name of a module is as other files see it
abbrev pub ask_outside : QualifiedName → Step NameAnswer
ask_outside q = and_then (ask_name q) (outside_found q)
