-- The plain values that those of the code are.
use Rattle.std.specs.Prelude.{Bool, List, map}
use Rattle.std.specs.List.{list_any}
use Rattle.pyc_arguments.specs.Arguments.{Arg, Reads, is_unpacked, read_before, unread}
use Rattle.pyc_arguments.specs.declared.arguments.Arguments.{Arguments}
use Rattle.pyc_arguments.specs.declared.arguments.Arguments.TheVariants as a
use Rattle.pyc_arguments.specs.declared.arguments.ReadArgument.{ReadArgument}
use Rattle.pyc_arguments.specs.declared.filling.Filling.{Filling as FillingOf}
use Rattle.pyc_arguments.specs.declared.required_argument.RequiredArgument.{RequiredArgument}
use Rattle.pyc_arguments.specs.declared.reporting.Call.{Call as CallOf}
use Rattle.pyc_arguments.specs.declared.reporting.CalleeName.{CalleeName as ShownOf}
use Rattle.pyc_arguments.specs.declared.reporting.CalleeName.TheVariants as s
use Rattle.pyc_arguments.specs.Matched.{Filling}
use Rattle.pyc_arguments.specs.Reporting.{Call, CalleeName, required_argument, shown_name, shown_member, shown_nameless}
use Rattle.pyc_ast.specs.declared.expr.Argument.{Argument}
use Rattle.pyc_ast.specs.ExprView.{argument_of}
use Rattle.pyc_matching.specs.Views.{fill_of, given_in}
use Rattle.pyc_reading.specs.Owing.{Obligation}
use Rattle.pyc_type_forms.specs.TypeView.{ty_of}

-- what is called, as messages show it
abbrev pub shown_in : ShownOf → CalleeName
shown_in (s.Name n) = shown_name n.now
shown_in (s.Member n owner) = shown_member n.now owner.now
shown_in s.Nameless = shown_nameless

-- a call
abbrev pub call_in : CallOf → Call
call_in call = record { at = call.at; shown = shown_in call.shown }

-- an argument that was read
abbrev pub read_in : ReadArgument → Arg
read_in x = read_before x.at x.kind (ty_of x.ty)

-- arguments that are to be read
abbrev pub unread_in : Reads → List Argument → List Arg
unread_in read arguments = map (λ x. unread read (argument_of x)) arguments

-- whether some arguments stand after `*` or `**`
abbrev pub has_unpacked_in : Arguments → Bool
has_unpacked_in (a.Unread arguments) = list_any (λ x. is_unpacked x.kind) arguments.now
has_unpacked_in (a.Read arguments) = list_any (λ x. is_unpacked x.kind) arguments.now

-- arguments, by how those are read that are to be read
abbrev pub args_in : Reads → Arguments → List Arg
args_in read (a.Unread arguments) = unread_in read arguments.now
args_in read (a.Read arguments) = map read_in arguments.now

-- what arguments have filled
abbrev pub filling_in : FillingOf → Filling
filling_in filling = record { fill = fill_of filling.fill; has_too_many = filling.has_too_many }

-- an argument that has to be of the type that is wanted of it
abbrev pub required_in : RequiredArgument → Obligation
required_in o = required_argument (call_in o.call.now) o.at (given_in o.given) o.number (ty_of o.got.now)
    (ty_of o.want.now)
