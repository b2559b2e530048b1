-- What names stand for before annotations are read: each thing has its kind, and of types a class has its own and a
-- variable without annotation that of the literal that initialises it. Annotations are read by these kinds alone
-- (typing specification, "Type annotations", "Type aliases").
use Rattle.std.specs.Prelude.{ℕ, Bool, true, false, ◌&&◌, is_some, if◌then◌else◌, List, [], ◌∷◌}
use Rattle.std.specs.Prelude.{Option, None, Some}
use Rattle.pyc_ast.specs.Exprs.{Expr}
use Rattle.pyc_bindings.specs.Bindings.{Binding, BindingForm, function, class, annotated, assigned}
use Rattle.pyc_bindings.specs.Redefinitions.{declaration, is_decorated}
use Rattle.pyc_builtins.specs.Members.{is_dunder}
use Rattle.pyc_class_ids.specs.Class.{user}
use Rattle.pyc_class_table.specs.ClassMros.{undeclared}
use Rattle.pyc_declarations.specs.DeclaredTypes.{initialiser_type}
use Rattle.pyc_declarations.specs.Exports.{name_export}
use Rattle.pyc_declarations.specs.Presences.{module_presence, name_presence}
use Rattle.pyc_names.specs.declared.fixed.FixedModule.{FixedModule}
use Rattle.pyc_names.specs.declared.fixed.FixedName.{FixedName}
use Rattle.pyc_names.specs.FixedModules.{fixed_module, fixed_name}
use Rattle.pyc_names.specs.Following as names
use Rattle.pyc_names.specs.Following.{QualifiedName, Referent, follow, is_hidden_name, unbound_referent}
use Rattle.pyc_names.specs.Interfaces.{Interface, file_of}
use Rattle.pyc_reading.specs.Answers.{Answer, NameAnswer, NameKind, presence_of, name_is, order_is}
use Rattle.pyc_reading.specs.Answers.{member_is, export_is}
use Rattle.pyc_reading.specs.Answers as kind
use Rattle.pyc_reading.specs.Keys.{Key, has_module, has_name, name}
use Rattle.pyc_reading.specs.Keys as key
use Rattle.pyc_type_exprs.specs.TypeExprs.{TypeExpr, name_written, type_expr}
use Rattle.pyc_type_forms.specs.Types.{Ty, any, class_object, module_type}

-- ---- what a name leads to

-- what a name leads to: a declaration of some form in a file, or something that no file declares
pub data Found : Type 0 where
  declared_in : Interface → BindingForm → Found
  answered : NameAnswer → Found

abbrev pub answer_with : NameKind → Ty → NameAnswer
answer_with kind ty = record { kind = kind; ty = ty }

-- a thing of this kind, of which no type is known
abbrev pub of_kind : NameKind → NameAnswer
of_kind kind = answer_with kind any

-- a module: its type tells which one it is
abbrev pub module_answer : List (List ℕ) → NameAnswer
module_answer m = answer_with (kind.module_name m) (module_type m)

-- a declaration: nothing is known of what stands under an unknown decorator
abbrev pub found_binding : Interface → Option Binding → Found
found_binding file (Some b) = if is_decorated b.form then answered (of_kind kind.unknown) else declared_in file b.form
found_binding file None = answered (of_kind kind.unknown)

abbrev pub found_in_file : QualifiedName → Option Interface → Found
found_in_file q (Some file) = found_binding file (declaration file.bindings q.name)
found_in_file q None = answered (of_kind kind.unknown)

-- a name of a fixed module
abbrev pub fixed_found : Option FixedName → Found
fixed_found (Some found) = answered (of_kind (kind.fixed found))
fixed_found None = answered (of_kind kind.unknown)

-- what is declared under a name
abbrev pub found_declared : List Interface → QualifiedName → Option FixedModule → Found
found_declared files q (Some found) = fixed_found (fixed_name found q.name)
found_declared files q None = found_in_file q (file_of files q.module_path)

-- a name that leads to none: its module does not have it, or an import binds it there
abbrev pub absent_name : Option Interface → List ℕ → NameKind
absent_name (Some file) x = if is_some (declaration file.bindings x) then kind.no_target else kind.no_name
absent_name None x = kind.no_name

-- a name that leads into a file with a fault, which may be the file of its own module
abbrev pub faulty_name : Option Interface → NameKind
faulty_name (Some file) = if file.has_fault then kind.opaque else kind.unknown
faulty_name None = kind.unknown

-- what following a name came to
abbrev pub found_referent : List Interface → QualifiedName → Referent → Found
found_referent files q (names.declared r) = found_declared files r (fixed_module r.module_path)
found_referent files q (names.module_itself m) = answered (module_answer m)
found_referent files q names.opaque = answered (of_kind (faulty_name (file_of files q.module_path)))
found_referent files q names.fixed_any = answered (of_kind kind.unknown)
found_referent files q names.no_module = answered (of_kind kind.no_module)
found_referent files q names.no_name = answered (of_kind (absent_name (file_of files q.module_path) q.name))
found_referent files q names.cycle = answered (of_kind kind.cycle)

unfoldable pub found_name : List Interface → QualifiedName → Found
found_name files q = found_referent files q (follow files q)

-- ---- aliases

-- whether a name of a module is looked up: one with two underscores at both ends is so in a fixed module alone
abbrev pub is_looked_up : List (List ℕ) → List ℕ → Bool
is_looked_up m n = if is_dunder n then is_some (fixed_module m) else true

-- whether a name that stands for this may be hidden: not where it is absent
abbrev pub may_be_hidden : Referent → Bool
may_be_hidden names.no_module = false
may_be_hidden names.no_name = false
may_be_hidden names.cycle = false
may_be_hidden _ = true

-- what a name that stands for this is to other files: one that its module hides stands for its submodule alone
abbrev pub seen_referent : List Interface → QualifiedName → Referent → Referent
seen_referent files q found =
    if may_be_hidden found && is_hidden_name files q then unbound_referent files q else found

-- what a name of a module is to other files
abbrev pub outside_referent : List Interface → QualifiedName → Referent
outside_referent files q = seen_referent files q (follow files q)

-- an attribute of a module
abbrev pub module_attribute : List Interface → List (List ℕ) → List ℕ → Referent
module_attribute files m n =
    if is_looked_up m n then outside_referent files (record { module_path = m; name = n }) else names.no_name

-- an attribute of what a name stands for: a module alone has one
abbrev pub attribute_referent : List Interface → Referent → List ℕ → Referent
attribute_referent files (names.module_itself m) n = module_attribute files m n
attribute_referent files _ n = names.no_name

-- attributes one behind another
abbrev pub attributes_referent : List Interface → Referent → List (List ℕ) → Referent
attributes_referent files found [] = found
attributes_referent files found (n ∷ rest) = attributes_referent files (attribute_referent files found n) rest

-- a name that stands in a file, where the file binds it
abbrev pub own_referent : List Interface → Interface → List ℕ → Referent
own_referent files file x =
    if is_some (declaration file.bindings x) then follow files (record { module_path = file.name; name = x })
    else names.no_name

-- names joined by dots that stand in a file
abbrev pub dotted_referent : List Interface → Interface → List (List ℕ) → Referent
dotted_referent files file [] = names.no_name
dotted_referent files file (x ∷ rest) = attributes_referent files (own_referent files file x) rest

abbrev pub is_fixed_any : Referent → Bool
is_fixed_any names.fixed_any = true
is_fixed_any _ = false

-- whether an annotation is a name of a fixed module that is Any there
abbrev pub is_alias_type : List Interface → Interface → TypeExpr → Bool
is_alias_type files file (name_written at found) = is_fixed_any (dotted_referent files file found.names)
is_alias_type files file _ = false

-- whether a variable with this annotation is a type alias, as one annotated with `TypeAlias` is
unfoldable pub is_alias : List Interface → Interface → Expr → Bool
is_alias files file annotation = is_alias_type files file (type_expr annotation)

-- the kind of a variable with an annotation, by whether it is an alias
abbrev pub variable_kind : Bool → NameKind
variable_kind true = kind.alias
variable_kind false = kind.annotated_variable

-- ---- kinds

-- a class of a module
abbrev pub class_kind : List (List ℕ) → List ℕ → NameAnswer
class_kind m x = answer_with kind.class_name (class_object (user m x))

-- what a declaration of this form is in a file
abbrev pub form_kind : List Interface → Interface → BindingForm → NameAnswer
form_kind files file (function head) = of_kind kind.function_name
form_kind files file (class head) = class_kind file.name head.name
form_kind files file (annotated found) = of_kind (variable_kind (is_alias files file found.annotation))
form_kind files file (assigned value) = answer_with kind.variable (initialiser_type value)
form_kind files file _ = of_kind kind.variable

abbrev pub found_kind : List Interface → Found → NameAnswer
found_kind files (declared_in file form) = form_kind files file form
found_kind files (answered found) = found

-- what a name stands for
abbrev pub name_kind : List Interface → QualifiedName → NameAnswer
name_kind files q = found_kind files (found_name files q)

-- the answers by kinds alone: no class has an order that is known, or a member
abbrev pub kind_answer : List Interface → Key → Answer
kind_answer files (has_module m) = presence_of (module_presence files m)
kind_answer files (has_name q) = presence_of (name_presence files q)
kind_answer files (name q) = name_is (name_kind files q)
kind_answer files (key.class c) = order_is undeclared
kind_answer files (key.member c) = member_is None
kind_answer files (key.export q) = export_is (name_export files q)
