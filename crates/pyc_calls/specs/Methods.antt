-- The methods of users' classes that operations call (Python reference 3.13, "Emulating numeric types").
use Rattle.std.specs.Prelude.{Bool, true, false, List, map, Option, None, Some}
use Rattle.pyc_arguments.specs.Arguments.{Arg, read_before}
use Rattle.pyc_arguments.specs.Reporting.{Call, shown_nameless}
use Rattle.pyc_ast.specs.declared.expr.ArgumentKind.TheVariants as kind
use Rattle.pyc_ast.specs.declared.position.Position.{Position}
use Rattle.pyc_attributes.specs.Binding.{through_instance}
use Rattle.pyc_calls.specs.Called.{call_result}
use Rattle.pyc_obligations.specs.Quiet.{quiet}
use Rattle.pyc_reading.specs.Answers.{MemberAnswer}
use Rattle.pyc_reading.specs.Traces.{Step}
use Rattle.pyc_reading.specs.Readings.{Done, and_then}
use Rattle.pyc_type_forms.specs.Types.{Ty}

-- nothing is reported of the call of a method, so that it needs no position and no name
abbrev pub nowhere : Position
nowhere = record { line = 1; column = 1 }

abbrev pub method_call : Call
method_call = record { at = nowhere; shown = shown_nameless }

-- an argument by place of this type
abbrev pub placed_argument : Ty → Arg
placed_argument ty = read_before nowhere kind.Positional ty

-- arguments by place of these types
abbrev pub arguments_by_place : List Ty → List Arg
arguments_by_place types = map placed_argument types

-- what a call came to, by whether something was reported of it
abbrev pub unless_reported : Bool → Ty → Option Ty
unless_reported true ty = None
unless_reported false ty = Some ty

-- what is given by a call of which nothing is reported, where nothing would be reported
unfoldable pub infer_call_quietly : List Arg → Ty → Step (Option Ty)
infer_call_quietly args callee =
    and_then (quiet (call_result method_call args callee)) (λ heard. Done
    (unless_reported heard.is_reported heard.result))

-- what a member gives that is called through an instance with arguments by place of these types; none where something
-- would be reported of the call
abbrev pub infer_method_call : MemberAnswer → List Ty → Step (Option Ty)
infer_method_call found types = infer_call_quietly (arguments_by_place types) (through_instance found)
