-- The end of a function (Python reference 3.13, "The return statement").
use Rattle.std.specs.Prelude.{Bool, true, false, ◌&&◌, if◌then◌else◌, []}
use Rattle.pyc_ast.specs.declared.constant.Constant.TheVariants as constant
use Rattle.pyc_ast.specs.declared.position.Position.{Position}
use Rattle.pyc_ast.specs.Exprs.{Expr, expr, Form}
use Rattle.pyc_ast.specs.Exprs as form
use Rattle.pyc_ast.specs.Statements.{Stmt, stmt, StmtForm, Stmts, no_stmt, another_stmt}
use Rattle.pyc_ast.specs.Statements as plain
use Rattle.pyc_messages.specs.Functions as message
use Rattle.pyc_reading.specs.Traces.{Step, required}
use Rattle.pyc_reading.specs.Owing.{Obligation}
use Rattle.pyc_reading.specs.Readings.{Done}
use Rattle.pyc_report.specs.declared.message.ObligationKind.TheVariants as obligation_kind
use Rattle.pyc_type_forms.specs.Types.{Ty, none}

-- ---- bodies that do nothing

-- whether an expression does nothing as a statement: `...`, or a string at the beginning
abbrev pub is_idle_form : Bool → Form → Bool
is_idle_form is_first (form.constant constant.Ellipsis) = true
is_idle_form is_first (form.constant constant.Str) = is_first
is_idle_form is_first (form.string_annotation x) = is_first
is_idle_form is_first _ = false

abbrev pub is_idle_expression : Bool → Expr → Bool
is_idle_expression is_first (expr at inside found) = is_idle_form is_first found

-- whether a statement does nothing: `pass`, `...`, or a string at the beginning
abbrev pub is_idle : Bool → StmtForm → Bool
is_idle is_first plain.pass = true
is_idle is_first (plain.expression x) = is_idle_expression is_first x
is_idle is_first _ = false

abbrev pub all_idle : Bool → Stmts → Bool
all_idle is_first no_stmt = true
all_idle is_first (another_stmt (stmt at found) rest) = is_idle is_first found && all_idle false rest

-- whether a body is only a docstring, `pass` or `...`
abbrev pub is_idle_body : Stmts → Bool
is_idle_body statements = all_idle true statements

-- ---- what the end requires

-- what a function gives at its end has to be of the type that it gives, which is reported where its `def` begins
abbrev pub required_end : Position → (got want : Ty) → Obligation
required_end at got want =
    record {
      obligation_kind = obligation_kind.MissingReturn;
      at = at;
      got = got;
      want = want;
      details = [];
      text = message.missing_return_text;
    }

-- where the end of a function is reached, it gives None
unfoldable pub end_read : Position → Ty → Bool → Step (Unit {0})
end_read at result is_reached = if is_reached then required (required_end at none result) else Done tt
