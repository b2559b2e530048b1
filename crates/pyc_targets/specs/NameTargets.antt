-- What a name of a module takes when it is assigned to (Python reference 3.13, "Assignment statements" and "Resolution
-- of names"; typing specification, "Type annotations").
use Rattle.std.specs.Prelude.{ℕ, Bool, true, false, ◌&&◌, List, Option, None, Some, if◌then◌else◌, is_some, nat_eq}
use Rattle.pyc_ast.specs.declared.position.Position.{Position}
use Rattle.pyc_bindings.specs.Bindings.{Binding, BindingForm, import, import_from, function, class, annotated}
use Rattle.pyc_bindings.specs.Redefinitions.{declaration}
use Rattle.pyc_names.specs.declared.fixed.FixedModule.{FixedModule}
use Rattle.pyc_names.specs.FixedModules.{fixed_module}
use Rattle.pyc_names.specs.SourceFiles.{SourceFile}
use Rattle.pyc_reading.specs.Outside.{ask_name}
use Rattle.pyc_reading.specs.Answers.{NameAnswer}
use Rattle.pyc_reading.specs.Traces.{Step}
use Rattle.pyc_reading.specs.Readings.{Done, and_then}
use Rattle.pyc_type_forms.specs.Types.{Ty, any}

-- whether an import, a function or a class is what binds a name
abbrev pub is_definition : BindingForm → Bool
is_definition (import path) = true
is_definition (import_from dots path n) = true
is_definition (function head) = true
is_definition (class head) = true
is_definition _ = false

-- what is required of a name of this type: nothing where the file does not bind it
abbrev pub type_if_bound : Bool → NameAnswer → Option Ty
type_if_bound true found = Some found.ty
type_if_bound false found = None

-- what a name of a fixed module takes
abbrev pub any_if_bound : Bool → Option Ty
any_if_bound is_bound = if is_bound then Some any else None

-- the type of a name of a module, of a fixed one or by its key
abbrev pub own_type : SourceFile → List ℕ → Bool → Option FixedModule → Step (Option Ty)
own_type file x is_bound (Some found) = Done (any_if_bound is_bound)
own_type file x is_bound None =
    and_then (ask_name (record { module_path = file.name; name = x })) (λ found. Done (type_if_bound is_bound found))

-- what a name takes, by its declaration: nothing is required of one that an import, a function or a class declares
abbrev pub variable_type : SourceFile → List ℕ → Bool → Step (Option Ty)
variable_type file x true = Done None
variable_type file x false = own_type file x true (fixed_module file.name)

abbrev pub by_declaration : SourceFile → List ℕ → Option Binding → Step (Option Ty)
by_declaration file x (Some found) = variable_type file x (is_definition found.form)
by_declaration file x None = own_type file x false (fixed_module file.name)

-- what a name of a file's top level takes
unfoldable pub declared_type : SourceFile → List ℕ → Step (Option Ty)
declared_type file x = by_declaration file x (declaration file.bindings x)

-- ---- annotated assignments

-- whether two positions are one
abbrev pub same_position : Position → Position → Bool
same_position a b = nat_eq a.line b.line && nat_eq a.column b.column

abbrev pub is_annotated : BindingForm → Bool
is_annotated (annotated found) = true
is_annotated _ = false

-- whether the declaration of a name is the annotated assignment that begins at a position
abbrev pub is_annotated_at : Position → Option Binding → Bool
is_annotated_at at (Some found) = is_annotated found.form && same_position found.place.at at
is_annotated_at at None = false

-- whether the annotated assignment that begins at a position declares a name of a file: in a fixed module's file none
-- does
unfoldable pub declares_at : SourceFile → Position → List ℕ → Bool
declares_at file at x =
    if is_some (fixed_module file.name) then false else is_annotated_at at (declaration file.bindings x)
