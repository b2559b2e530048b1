-- What the ancestors of a class declare under a name (Python reference 3.13, "Class definitions"; the library
-- reference, "Built-in Types").
use Rattle.std.specs.Prelude.{ℕ, if◌then◌else◌, List, Option, None, Some, option_map}
use Rattle.pyc_attributes.specs.Binding.{through_instance}
use Rattle.pyc_builtins.specs.declared.members.Member.{Member}
use Rattle.pyc_builtins.specs.declared.members.Member.TheVariants as member
use Rattle.pyc_builtins.specs.Members.{own_member}
use Rattle.pyc_builtins.specs.MemberTypes.{member_type}
use Rattle.pyc_class_ids.specs.declared.builtin_class.BuiltinClass.{BuiltinClass}
use Rattle.pyc_class_ids.specs.Class.{Id, builtin, user, same_class}
use Rattle.pyc_obligations.specs.Asking.{ask_member}
use Rattle.pyc_reading.specs.Answers.{MemberAnswer}
use Rattle.pyc_reading.specs.declared.answer.MemberKind.{MemberKind}
use Rattle.pyc_reading.specs.declared.answer.MemberKind.TheVariants as kind
use Rattle.pyc_reading.specs.Traces.{Step}
use Rattle.pyc_reading.specs.Readings.{Done, ◌>>=◌}
use Rattle.pyc_type_forms.specs.Types.{instance}

-- ---- members

-- a member with its type as it is through an instance
abbrev pub bind_to_instance : MemberAnswer → MemberAnswer
bind_to_instance found = record { class = found.class; kind = found.kind; ty = through_instance found }

-- what a class has under a name, where the class itself declares it
abbrev pub declared_only_by : Id → MemberAnswer → Option MemberAnswer
declared_only_by c found = if same_class found.class c then Some found else None

abbrev pub own_declaration : Id → Option MemberAnswer → Option MemberAnswer
own_declaration c None = None
own_declaration c (Some found) = declared_only_by c found

-- a member of a builtin class
abbrev pub builtin_kind : Member → MemberKind
builtin_kind member.Attribute = kind.Variable
builtin_kind (member.Method result) = kind.Method
builtin_kind member.Append = kind.Method

abbrev pub builtin_answer : BuiltinClass → Member → MemberAnswer
builtin_answer c found =
    record { class = builtin c; kind = builtin_kind found; ty = member_type (instance (builtin c)) found }

-- what a class of a source itself declares under a name
abbrev pub user_member : Id → List ℕ → Step (Option MemberAnswer)
user_member c n = do
  found ← ask_member c n
  Done (own_declaration c found)

-- what an ancestor itself declares under a name: no file is asked of a builtin class
abbrev pub ancestor_member : Id → List ℕ → Step (Option MemberAnswer)
ancestor_member (builtin c) n = Done (option_map (builtin_answer c) (own_member c n))
ancestor_member (user m x) n = user_member (user m x) n
