-- What is declared under names, with the types of declarations. They are read by the kinds of things alone, so that no
-- reading comes back to itself (typing specification, "Type annotations").
use Rattle.std.specs.Prelude.{List, None}
use Rattle.pyc_annotations.specs.Annotations.{read_type}
use Rattle.pyc_ast.specs.Exprs.{Expr}
use Rattle.pyc_ast.specs.Statements.{FunctionDefinition}
use Rattle.pyc_bindings.specs.Bindings.{BindingForm, function, annotated}
use Rattle.pyc_class_table.specs.ClassMros.{undeclared}
use Rattle.pyc_declarations.specs.Exports.{name_export}
use Rattle.pyc_declarations.specs.Kinds.{Found, declared_in, answered, answer_with, found_name, is_alias}
use Rattle.pyc_declarations.specs.Kinds.{variable_kind, form_kind, kind_answer}
use Rattle.pyc_declarations.specs.Presences.{module_presence, name_presence}
use Rattle.pyc_names.specs.Following.{QualifiedName}
use Rattle.pyc_names.specs.Interfaces.{Interface}
use Rattle.pyc_reading.specs.Answers.{Answer, NameAnswer, presence_of, name_is, order_is, member_is, export_is}
use Rattle.pyc_reading.specs.Answers as kind
use Rattle.pyc_reading.specs.Keys.{Key, has_module, has_name, name}
use Rattle.pyc_reading.specs.Keys as key
use Rattle.pyc_reading.specs.Readings.{result_of}
use Rattle.pyc_signatures.specs.Signatures.{function_type}
use Rattle.pyc_type_exprs.specs.TypeExprs.{type_expr}
use Rattle.pyc_type_forms.specs.Types.{Ty, any}

-- ---- the types of declarations

-- the type of a variable with this annotation, which stands in a file
unfoldable pub annotated_type : List Interface → Interface → Expr → Ty
annotated_type files file annotation = (result_of (kind_answer files) (read_type file (type_expr annotation))).ty

-- the type of a function that stands in a file, where what it is called on has a type
unfoldable pub declared_function : List Interface → Interface → Ty → FunctionDefinition → Ty
declared_function files file receiver head = result_of (kind_answer files) (function_type file receiver head)

-- ---- names

-- what a declaration of this form declares in a file, with its type
abbrev pub form_answer : List Interface → Interface → BindingForm → NameAnswer
form_answer files file (function head) = answer_with kind.function_name (declared_function files file any head)
form_answer files file (annotated found) =
    answer_with (variable_kind (is_alias files file found.annotation)) (annotated_type files file found.annotation)
form_answer files file form = form_kind files file form

abbrev pub found_answer : List Interface → Found → NameAnswer
found_answer files (declared_in file form) = form_answer files file form
found_answer files (answered found) = found

-- what a name stands for, with its type
abbrev pub name_answer : List Interface → QualifiedName → NameAnswer
name_answer files q = found_answer files (found_name files q)

-- ---- answers to keys

-- the answers that are read of names: no class has an order that is known, or a member
abbrev pub declared_answer : List Interface → Key → Answer
declared_answer files (has_module m) = presence_of (module_presence files m)
declared_answer files (has_name q) = presence_of (name_presence files q)
declared_answer files (name q) = name_is (name_answer files q)
declared_answer files (key.class c) = order_is undeclared
declared_answer files (key.member c) = member_is None
declared_answer files (key.export q) = export_is (name_export files q)
