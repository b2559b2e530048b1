-- What is reported where there is no such operation (Python language reference 3.13, "Binary arithmetic operations",
-- "Comparisons", "Unary arithmetic and bitwise operations").
use Rattle.pyc_ast.specs.declared.position.Position.{Position}
use Rattle.pyc_messages.specs.Expressions as message
use Rattle.pyc_operators.specs.declared.operation.Operation.{Operation}
use Rattle.pyc_operators.specs.declared.operation.UnaryOperation.{UnaryOperation}
use Rattle.pyc_operators.specs.Operations.{symbol, unary_symbol}
use Rattle.pyc_reading.specs.Traces.{Step}
use Rattle.pyc_reading.specs.Readings.{Done, Report}
use Rattle.pyc_report.specs.Message.{Diagnostic}
use Rattle.pyc_type_forms.specs.Text.{text_of}
use Rattle.pyc_type_forms.specs.Types.{Ty, any}

-- an operation of which this is reported is Any
abbrev pub report_unsupported_operation : Diagnostic → Step Ty
report_unsupported_operation reported = Report reported (Done any)

-- an operation does not take these operands
unfoldable pub wrong_operands : Position → Operation → Ty → Ty → Step Ty
wrong_operands at operation left right =
    report_unsupported_operation
    (message.wrong_operands at (symbol operation) (text_of left) (text_of right))

-- a unary operation does not take this operand
unfoldable pub wrong_operand : Position → UnaryOperation → Ty → Step Ty
wrong_operand at operation operand =
    report_unsupported_operation (message.wrong_operand at (unary_symbol operation) (text_of operand))
