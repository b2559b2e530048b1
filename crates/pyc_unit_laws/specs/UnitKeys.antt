-- Which keys whole units ask: files alone, and nothing above the root (Python reference 3.13, "Execution model",
-- "Package Relative Imports").
use Rattle.std.specs.Prelude.{◌≡◌, ◌<◌, ◌↔◌, ℕ, suc, true, if◌then◌else◌, length, Option, None}
use Rattle.pyc_ast.specs.declared.position.Position.{Position}
use Rattle.pyc_ast.specs.Exprs.{Expr}
use Rattle.pyc_ast.specs.Statements.{ImportFrom, StmtForm, Stmts, import_from}
use Rattle.pyc_blocks.specs.Blocks.{statements_read}
use Rattle.pyc_body_context.specs.Bodies.{Body, class_around}
use Rattle.pyc_body_context.specs.BodyNames.{body_context}
use Rattle.pyc_unit_laws.specs.FileKeys.{is_source_around}
use Rattle.pyc_expr.specs.Values.{infer_type}
use Rattle.pyc_expression_laws.specs.FileKeys.{AsksFiles, AsksNothing}
use Rattle.pyc_iface.specs.declared.options.Options.{Options}
use Rattle.pyc_imports.specs.ImportReadings.{import_reading}
use Rattle.pyc_imports.specs.LocalImports.{class_import_read, local_import_read}
use Rattle.pyc_locals.specs.Locals.{Locals}
use Rattle.pyc_locals.specs.FlowStates.{FlowState}
use Rattle.pyc_names.specs.Interfaces.{Interface}
use Rattle.pyc_names.specs.SourceFiles.{SourceFile}
use Rattle.pyc_places.specs.States.{State}
use Rattle.pyc_simple_statements.specs.BodyParts.{body_parts, simple_read}
use Rattle.pyc_unit_laws.specs.ImportRows.{module_path_of}
use Rattle.pyc_type_forms.specs.Types.{Ty}
use Rattle.pyc_units.specs.UnitReadings.{unit_reading}
use Rattle.pyc_units.specs.Units as units

-- ---- bodies

-- the expressions of a body ask files alone, where the class around it, if there is one, is of a source
abbrev pub BodyExpressionAsksFiles : Type 0
BodyExpressionAsksFiles =
    (body : Body) (locals : Locals) (s : State) (x : Expr) (want : Option Ty)
    → is_source_around (class_around body.kind) ≡ true → AsksFiles (infer_type (body_context body locals) s x want)

-- so do its simple statements
abbrev pub SimpleStatementAsksFiles : Type 0
SimpleStatementAsksFiles =
    (body : Body) (at : Position) (form : StmtForm) (p : FlowState)
    → is_source_around (class_around body.kind) ≡ true → AsksFiles (simple_read body at form p)

-- and blocks of statements
abbrev pub BlockAsksFiles : Type 0
BlockAsksFiles =
    (body : Body) (statements : Stmts) (p : FlowState)
    → is_source_around (class_around body.kind) ≡ true
    → AsksFiles (statements_read (body_parts body) statements p)

-- ---- units

-- each unit of a file asks files alone
abbrev pub UnitAsksFiles : Type 0
UnitAsksFiles = (options : Options) (file : SourceFile) (unit : units.Unit) → AsksFiles (unit_reading options file unit)

-- ---- above the root

-- how many dots an import of a file may have without climbing above the root: one for each part of the name of its
-- module, and one more in the file of a package
abbrev pub dots_to_root : Interface → ℕ
dots_to_root file = if file.is_package then suc (length file.name) else length file.name

-- an import of a file climbs above the root
abbrev pub ClimbsAboveRoot : Interface → ImportFrom → Type 0
ClimbsAboveRoot file from = dots_to_root file < from.dots

-- these imports, and no others, name no module: a key names its module by its parts from the root on, so no key is of a
-- module above the root
abbrev pub ClimbingImportNamesNone : Type 0
ClimbingImportNamesNone =
    (file : Interface) (from : ImportFrom) → (module_path_of file from ≡ None) ↔ ClimbsAboveRoot file from

-- an import that climbs above the root asks nothing, wherever it stands
abbrev pub ClimbingImportAsksNothing : Type 0
ClimbingImportAsksNothing =
    (options : Options) (file : Interface) (at : Position) (from : ImportFrom) (p : FlowState)
    → ClimbsAboveRoot file from
    → AsksNothing (import_reading options file at (import_from from))
    × AsksNothing (class_import_read options file at (import_from from) p)
    × AsksNothing (local_import_read options file at (import_from from) p)
