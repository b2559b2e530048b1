-- What is reported of the arguments of calls (Python reference 3.13, "Calls").
use Rattle.std.specs.Prelude.{ℕ, List, [], ◌++◌, codes, Option, None, Some}
use Rattle.std.specs.Fmt.{decimal}
use Rattle.pyc_ast.specs.declared.position.Position.{Position}
use Rattle.pyc_class_ids.specs.BuiltinClasses.{builtin_name}
use Rattle.pyc_class_ids.specs.Class.{name_of}
use Rattle.pyc_class_ids.specs.declared.builtin_class.BuiltinClass.TheVariants as class
use Rattle.pyc_matching.specs.Matching.{Given, by_place, by_name}
use Rattle.pyc_matching.specs.Missing.{MissingArgument, missing_place, missing_name}
use Rattle.pyc_messages.specs.Calls as message
use Rattle.pyc_reading.specs.Owing.{Obligation}
use Rattle.pyc_report.specs.declared.message.ObligationKind.TheVariants as obligation_kind
use Rattle.pyc_report.specs.Message.{Diagnostic}
use Rattle.pyc_type_forms.specs.Text.{text_of}
use Rattle.pyc_type_forms.specs.Types.{Ty, instance, class_object, list, dict, tuple, tuple_of}

-- ---- the call that is reported of

-- what is called, as messages show it
pub data CalleeName : Type 0 where
  -- a name, or an attribute of a module
  shown_name : List ℕ → CalleeName
  -- an attribute of an instance or a class object, with the name of the class
  shown_member : (name owner : List ℕ) → CalleeName
  -- anything else
  shown_nameless : CalleeName

-- a call: where it begins, and what is called
pub record Call : Type 0 where
  pub at : Position
  pub shown : CalleeName

-- what is called, in a message
unfoldable pub callee_text : CalleeName → List ℕ
callee_text (shown_name n) = codes "\"" ++ (n ++ codes "\"")
callee_text (shown_member n owner) = codes "\"" ++ (n ++ (codes "\" of \"" ++ (owner ++ codes "\"")))
callee_text shown_nameless = codes "\"function\""

-- the name of the class of which a type is an instance or the class object
abbrev pub owner_name : Ty → Option (List ℕ)
owner_name (instance c) = Some (name_of c)
owner_name (class_object c) = Some (name_of c)
owner_name (list item) = Some (builtin_name class.List)
owner_name (dict key value) = Some (builtin_name class.Dict)
owner_name (tuple items) = Some (builtin_name class.Tuple)
owner_name (tuple_of item) = Some (builtin_name class.Tuple)
owner_name _ = None

-- ---- arguments

-- the text on an argument of another type than is wanted
abbrev pub argument_text : Given → ℕ → (shown got want : List ℕ) → List ℕ
argument_text by_place number shown got want = message.placed_argument_text number shown got want
argument_text (by_name name) number shown got want = message.named_argument_text name shown got want

-- the text on an argument of a call, by its type and the type that is wanted
unfoldable pub required_argument_text : Call → Given → ℕ → (got want : Ty) → List ℕ
required_argument_text call given number got want =
    argument_text given number (callee_text call.shown) (text_of got) (text_of want)

-- an argument has to be of the type that is wanted of it, which is reported at the argument
abbrev pub required_argument : Call → Position → Given → ℕ → (got want : Ty) → Obligation
required_argument call at given number got want =
    record {
      obligation_kind = obligation_kind.Argument;
      at = at;
      got = got;
      want = want;
      details = [];
      text = required_argument_text call given number got want;
    }

-- the message on an argument by the name of a parameter that is filled already
unfoldable pub repeated_message : Call → List ℕ → Diagnostic
repeated_message call name = message.repeated_argument call.at name (callee_text call.shown)

-- the message on an argument by the name of no parameter
unfoldable pub unexpected_message : Call → List ℕ → Diagnostic
unexpected_message call name = message.unexpected_argument call.at name (callee_text call.shown)

-- ---- after all arguments

-- the message on arguments for whose places no parameter is left
unfoldable pub too_many_message : Call → Diagnostic
too_many_message call = message.too_many_arguments call.at (callee_text call.shown)

-- how a missing plain parameter is named in a message: by its name, else by its number
abbrev pub place_text : Option (List ℕ) → ℕ → List ℕ
place_text (Some name) number = name
place_text None number = decimal number

-- how a missing parameter is named in a message
abbrev pub missing_text : MissingArgument → List ℕ
missing_text (missing_place name number) = place_text name number
missing_text (missing_name name) = name

-- the text on a parameter that no argument fills, where it is so named
abbrev pub missing_argument_text : MissingArgument → (name shown : List ℕ) → List ℕ
missing_argument_text (missing_place own number) name shown = message.missing_place_text name shown
missing_argument_text (missing_name own) name shown = message.missing_name_text name shown

-- the message on a parameter that no argument fills
unfoldable pub missing_message : Call → MissingArgument → Diagnostic
missing_message call missing =
    message.missing_argument call.at (missing_argument_text missing (missing_text missing) (callee_text call.shown))
