-- Which keys the parts of units ask: files alone, whatever is answered (Python reference 3.13, "Class definitions",
-- "Function definitions", "Assignment statements", "The import system").
use Rattle.std.specs.Prelude.{◌≡◌, ℕ, Bool, true, List, Option, None, Some}
use Rattle.pyc_annotations.specs.Annotations.{read_type}
use Rattle.pyc_ast.specs.declared.position.Position.{Position}
use Rattle.pyc_ast.specs.Exprs.{Index}
use Rattle.pyc_ast.specs.Statements.{ClassDefinition, FunctionDefinition, StmtForm, Stmts}
use Rattle.pyc_body_context.specs.Bodies.{Body, class_around}
use Rattle.pyc_body_context.specs.BodyNames.{body_name}
use Rattle.pyc_body_context.specs.BodyTargets.{name_outcome}
use Rattle.pyc_class_ids.specs.Class.{Id}
use Rattle.pyc_expression_laws.specs.FileKeys.{AsksFiles, is_source}
use Rattle.pyc_functions.specs.Functions.{head_read}
use Rattle.pyc_iface.specs.declared.options.Options.{Options}
use Rattle.pyc_imports.specs.ImportReadings.{import_reading}
use Rattle.pyc_imports.specs.LocalImports.{class_import_read, local_import_read}
use Rattle.pyc_locals.specs.Locals.{Locals}
use Rattle.pyc_locals.specs.FlowStates.{FlowState}
use Rattle.pyc_names.specs.Interfaces.{Interface}
use Rattle.pyc_names.specs.SourceFiles.{SourceFile}
use Rattle.pyc_obligations.specs.Values.{Value}
use Rattle.pyc_targets.specs.AttributeTargets.{attribute_want}
use Rattle.pyc_targets.specs.ItemTargets.{item_target}
use Rattle.pyc_targets.specs.NameTargets.{declared_type}
use Rattle.pyc_type_exprs.specs.TypeExprs.{TypeExpr}
use Rattle.pyc_type_forms.specs.Types.{Ty}
use Rattle.pyc_units.specs.DefinitionReadings.{class_reading, subclass_reading}
use Rattle.pyc_units.specs.Header.{header_reading}

-- whether the class around a body, if there is one, is of a source; what class statements declare is
abbrev pub is_source_around : Option Id → Bool
is_source_around (Some c) = is_source c
is_source_around None = true

-- ---- heads

-- the header of a file asks files alone
abbrev pub HeaderAsksFiles : Type 0
HeaderAsksFiles = (options : Options) (file : SourceFile) → AsksFiles (header_reading options file)

-- so does the head of a class statement
abbrev pub ClassAsksFiles : Type 0
ClassAsksFiles = (file : SourceFile) (at : Position) (head : ClassDefinition) → AsksFiles (class_reading file at head)

-- and what is asked of its members
abbrev pub SubclassAsksFiles : Type 0
SubclassAsksFiles =
    (file : SourceFile) (name : List ℕ) (body : Stmts) (order : Option (List Id))
    → AsksFiles (subclass_reading file name body order)

-- so does an annotation
abbrev pub AnnotationAsksFiles : Type 0
AnnotationAsksFiles = (file : Interface) (written : TypeExpr) → AsksFiles (read_type file written)

-- so does the head of a function
abbrev pub HeadAsksFiles : Type 0
HeadAsksFiles =
    (outside : Body) (head : FunctionDefinition)
    → is_source_around (class_around outside.kind) ≡ true → AsksFiles (head_read outside head)

-- ---- targets

abbrev pub SubscriptTargetAsksFiles : Type 0
SubscriptTargetAsksFiles =
    (at inside : Position) (brackets : Index) (got ty : Ty) → AsksFiles (item_target at inside brackets got ty)

abbrev pub AttributeTargetAsksFiles : Type 0
AttributeTargetAsksFiles =
    (at inside : Position) (owner : Value) (n : List ℕ) → AsksFiles (attribute_want at inside owner n)

abbrev pub NameTargetAsksFiles : Type 0
NameTargetAsksFiles = (file : SourceFile) (x : List ℕ) → AsksFiles (declared_type file x)

-- ---- in bodies

-- imports ask files alone, wherever they stand
abbrev pub ImportAsksFiles : Type 0
ImportAsksFiles =
    (options : Options) (file : Interface) (at : Position) (form : StmtForm)
    → AsksFiles (import_reading options file at form)

abbrev pub ClassImportAsksFiles : Type 0
ClassImportAsksFiles =
    (options : Options) (file : Interface) (at : Position) (form : StmtForm) (p : FlowState)
    → AsksFiles (class_import_read options file at form p)

abbrev pub LocalImportAsksFiles : Type 0
LocalImportAsksFiles =
    (options : Options) (file : Interface) (at : Position) (form : StmtForm) (p : FlowState)
    → AsksFiles (local_import_read options file at form p)

-- so do names, where they are read and where they are assigned to
abbrev pub BodyNameAsksFiles : Type 0
BodyNameAsksFiles =
    (body : Body) (locals : Locals) (at : Position) (x : List ℕ)
    → is_source_around (class_around body.kind) ≡ true → AsksFiles (body_name body locals at x)

abbrev pub BodyTargetAsksFiles : Type 0
BodyTargetAsksFiles =
    (body : Body) (p : FlowState) (x : List ℕ)
    → is_source_around (class_around body.kind) ≡ true → AsksFiles (name_outcome body p x)
