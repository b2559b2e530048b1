-- What is looked at where it is told whether things are there, what names stand for and which types declarations have.
use Rattle.std.specs.Prelude.{ℕ, Bool, true, false, is_some, if◌then◌else◌, List, [], ◌∷◌, ◌++◌, flat_map}
use Rattle.std.specs.Prelude.{Option, None, Some}
use Rattle.pyc_annotations.specs.Annotations.{read_type}
use Rattle.pyc_annotations.specs.Bases.{bases}
use Rattle.pyc_ast.specs.Exprs.{Expr, Argument}
use Rattle.pyc_ast.specs.Statements.{FunctionDefinition}
use Rattle.pyc_bindings.specs.Bindings.{Binding, BindingForm, function, annotated}
use Rattle.pyc_bindings.specs.Redefinitions.{declaration}
use Rattle.pyc_declarations.specs.Declarations.{declared_answer}
use Rattle.pyc_declarations.specs.Kinds.{Found, declared_in, answered, found_name, kind_answer}
use Rattle.pyc_declarations.specs.Kinds.{is_looked_up, attribute_referent, own_referent}
use Rattle.pyc_names.specs.declared.fixed.FixedModule.{FixedModule}
use Rattle.pyc_names.specs.FixedModules.{fixed_module}
use Rattle.pyc_names.specs.Following as names
use Rattle.pyc_names.specs.Following.{QualifiedName, Referent, follow}
use Rattle.pyc_names.specs.Interfaces.{Interface, file_of}
use Rattle.pyc_names.specs.Looks.{Look, of_name, of_module, unbound_looks, seen_looks, follow_looks, on_ring_looks}
use Rattle.pyc_members.specs.DeclaredClasses.{DeclaredClass}
use Rattle.pyc_reading.specs.Keys.{Key, has_module, has_name, name}
use Rattle.pyc_reading.specs.Keys as key
use Rattle.pyc_reading.specs.Readings.{asked}
use Rattle.pyc_reading.specs.Traces.{Step}
use Rattle.pyc_signatures.specs.Signatures.{function_type}
use Rattle.pyc_type_exprs.specs.TypeExprs.{TypeExpr, name_written, type_expr}
use Rattle.pyc_type_forms.specs.Types.{Ty, any}

-- ---- whether things are there

-- a name that its module binds, and one that it does not
abbrev pub binding_looks : List Interface → QualifiedName → Option Binding → List Look
binding_looks files q (Some b) = on_ring_looks files q
binding_looks files q None = unbound_looks q

abbrev pub source_looks : List Interface → QualifiedName → Interface → Bool → List Look
source_looks files q file false = binding_looks files q (declaration file.bindings q.name)
source_looks files q file true = of_module q.module_path ∷ []

abbrev pub file_looks : List Interface → QualifiedName → Option Interface → List Look
file_looks files q (Some file) = source_looks files q file file.has_fault
file_looks files q None = unbound_looks q

abbrev pub module_looks : List Interface → QualifiedName → Option FixedModule → List Look
module_looks files q (Some fixed) = []
module_looks files q None = file_looks files q (file_of files q.module_path)

-- what is looked at to tell whether a module has a name
unfoldable pub presence_looks : List Interface → QualifiedName → List Look
presence_looks files q =
    of_name q ∷ (if names.has_module files q.module_path then module_looks files q (fixed_module q.module_path)
    else of_module q.module_path ∷ [])

-- ---- aliases

-- what is looked at for what a name of a module is to other files
abbrev pub outside_looks : List Interface → QualifiedName → List Look
outside_looks files q = follow_looks files q ++ seen_looks files q

abbrev pub module_attribute_looks : List Interface → List (List ℕ) → List ℕ → List Look
module_attribute_looks files m n =
    if is_looked_up m n then outside_looks files (record { module_path = m; name = n }) else []

abbrev pub attribute_looks : List Interface → Referent → List ℕ → List Look
attribute_looks files (names.module_itself m) n = module_attribute_looks files m n
attribute_looks files _ n = []

abbrev pub attributes_looks : List Interface → Referent → List (List ℕ) → List Look
attributes_looks files found [] = []
attributes_looks files found (n ∷ rest) =
    attribute_looks files found n ++ attributes_looks files (attribute_referent files found n) rest

-- a name that stands in a file is looked at also where the file does not bind it
abbrev pub own_name_looks : List Interface → Interface → List ℕ → List Look
own_name_looks files file x =
    if is_some (declaration file.bindings x) then follow_looks files (record { module_path = file.name; name = x })
    else of_name (record { module_path = file.name; name = x }) ∷ []

abbrev pub dotted_looks : List Interface → Interface → List (List ℕ) → List Look
dotted_looks files file [] = []
dotted_looks files file (x ∷ rest) =
    own_name_looks files file x ++ attributes_looks files (own_referent files file x) rest

abbrev pub alias_type_looks : List Interface → Interface → TypeExpr → List Look
alias_type_looks files file (name_written at found) = dotted_looks files file found.names
alias_type_looks files file _ = []

-- what is looked at to tell whether a variable is a type alias
unfoldable pub alias_looks : List Interface → Interface → Expr → List Look
alias_looks files file annotation = alias_type_looks files file (type_expr annotation)

-- ---- kinds

-- a name that leads into a file with a fault: whether that is the file of its own module
abbrev pub referent_looks : QualifiedName → Referent → List Look
referent_looks q names.opaque = of_module q.module_path ∷ []
referent_looks q _ = []

-- what is looked at for what is found under a name
abbrev pub found_name_looks : List Interface → QualifiedName → List Look
found_name_looks files q = follow_looks files q ++ referent_looks q (follow files q)

abbrev pub form_kind_looks : List Interface → Interface → BindingForm → List Look
form_kind_looks files file (annotated found) = alias_looks files file found.annotation
form_kind_looks files file _ = []

abbrev pub found_kind_looks : List Interface → Found → List Look
found_kind_looks files (declared_in file form) = form_kind_looks files file form
found_kind_looks files (answered found) = []

-- what is looked at for the kind of what a name stands for
abbrev pub name_kind_looks : List Interface → QualifiedName → List Look
name_kind_looks files q = found_name_looks files q ++ found_kind_looks files (found_name files q)

-- what is looked at for an answer by kinds alone
abbrev pub kind_looks : List Interface → Key → List Look
kind_looks files (has_module m) = of_module m ∷ []
kind_looks files (has_name q) = presence_looks files q
kind_looks files (name q) = name_kind_looks files q
kind_looks files (key.class c) = []
kind_looks files (key.member c) = []
kind_looks files (key.export q) = seen_looks files q

-- ---- declared types

-- what a reading looks at by the kinds of things: what is looked at for the keys that it asks
abbrev pub reading_looks : {A : Type 0} → List Interface → Step A → List Look
reading_looks files r = flat_map (kind_looks files) (asked (kind_answer files) r)

-- what is looked at for the type of a variable with this annotation, which stands in a file
unfoldable pub annotated_looks : List Interface → Interface → Expr → List Look
annotated_looks files file annotation = reading_looks files (read_type file (type_expr annotation))

-- what is looked at for the type of a function that stands in a file
unfoldable pub function_looks : List Interface → Interface → Ty → FunctionDefinition → List Look
function_looks files file receiver head = reading_looks files (function_type file receiver head)

abbrev pub form_looks : List Interface → Interface → BindingForm → List Look
form_looks files file (function head) = function_looks files file any head
form_looks files file (annotated found) =
    alias_looks files file found.annotation ++ annotated_looks files file found.annotation
form_looks files file form = []

abbrev pub found_looks : List Interface → Found → List Look
found_looks files (declared_in file form) = form_looks files file form
found_looks files (answered found) = []

-- what is looked at for what a name stands for, with its type
abbrev pub name_looks : List Interface → QualifiedName → List Look
name_looks files q = found_name_looks files q ++ found_looks files (found_name files q)

-- what is looked at for an answer that is read of names
abbrev pub declared_looks : List Interface → Key → List Look
declared_looks files (has_module m) = of_module m ∷ []
declared_looks files (has_name q) = presence_looks files q
declared_looks files (name q) = name_looks files q
declared_looks files (key.class c) = []
declared_looks files (key.member c) = []
declared_looks files (key.export q) = seen_looks files q

-- ---- classes

-- of a file that is named as a fixed module names are asked by no key: the module is looked at
abbrev pub fixed_looks : List (List ℕ) → Option FixedModule → List Look
fixed_looks m (Some fixed) = of_module m ∷ []
fixed_looks m None = []

-- what is looked at for the bases of a class that stands in a file and has these arguments
unfoldable pub bases_looks : List Interface → Interface → List Argument → List Look
bases_looks files file arguments =
    fixed_looks file.name (fixed_module file.name)
    ++ flat_map (declared_looks files) (asked (declared_answer files) (bases file arguments))

abbrev pub class_looks : List Interface → Interface → DeclaredClass → List Look
class_looks files file c = bases_looks files file c.head.arguments

-- what is looked at for the classes that files declare
unfoldable pub entries_looks : List Interface → List Look
entries_looks files = flat_map (λ file. flat_map (class_looks files file) file.classes) files
