-- The methods of users' classes that operations call (Python language reference 3.13, "Emulating numeric types").
use Rattle.std.specs.Prelude.{ℕ, List, Option, None}
use Rattle.pyc_class_ids.specs.Class.{Id, builtin, user}
use Rattle.pyc_obligations.specs.Asking.{ask_member}
use Rattle.pyc_reading.specs.Answers.{MemberAnswer}
use Rattle.pyc_reading.specs.Traces.{Step}
use Rattle.pyc_reading.specs.Readings.{Done}
use Rattle.pyc_type_forms.specs.Types.{Ty, instance}

-- what a member gives that is called through an instance with plain arguments of these types; none where the call fails
abbrev pub Caller : Type 0
Caller = MemberAnswer → List Ty → Step (Option Ty)

-- the method of a name that a user's class has
abbrev pub class_method : Id → List ℕ → Step (Option MemberAnswer)
class_method (builtin c) name = Done None
class_method (user m x) name = ask_member (user m x) name

-- the method of a name that an operand has by its class, if that is a user's class
abbrev pub method_of : Ty → List ℕ → Step (Option MemberAnswer)
method_of (instance c) name = class_method c name
method_of _ name = Done None
