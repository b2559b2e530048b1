-- The plain values that what names lead to in the code is.
use Rattle.std.specs.Prelude.{List}
use Rattle.pyc_bindings.specs.BindingView.{binding_form_of}
use Rattle.pyc_declarations.specs.declared.declarations.Declarations.{Declarations}
use Rattle.pyc_declarations.specs.declared.kinds.Found.{Found as FoundOf}
use Rattle.pyc_declarations.specs.declared.kinds.Found.TheVariants as f
use Rattle.pyc_declarations.specs.declared.kinds.Kinds.{Kinds}
use Rattle.pyc_declarations.specs.Kinds.{Found, declared_in, answered}
use Rattle.pyc_names.specs.Interfaces.{Interface}
use Rattle.pyc_names.specs.InterfaceView.{interface_in}
use Rattle.pyc_names.specs.TableView.{table_in}
use Rattle.pyc_reading.specs.AnswerView.{name_answer_of}

-- the interfaces of the files whose kinds these are
abbrev pub kinds_in : Kinds → List Interface
kinds_in kinds = table_in kinds.table.now

-- the interfaces of the files whose declarations these are
abbrev pub declarations_in : Declarations → List Interface
declarations_in found = kinds_in found.kinds

-- what a name leads to
abbrev pub found_in : FoundOf → Found
found_in (f.Declared file form) = declared_in (interface_in file.now) (binding_form_of form.now)
found_in (f.Answered found) = answered (name_answer_of found)
