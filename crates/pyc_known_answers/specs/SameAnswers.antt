-- When two answers are one: where they are equal, so that a reading that is given the one cannot tell it from the
-- other.
use Rattle.std.specs.Prelude.{ℕ, ◌≡◌, ◌==◌, ◌&&◌, Bool, true, false, Decides, List, Option, None, Some, bytes_eq}
use Rattle.std.specs.Bool.{beq}
use Rattle.std.specs.Cmp.Lexicographic.{pointwise}
use Rattle.pyc_class_ids.specs.Class.{Id, same_class}
use Rattle.pyc_class_ids.specs.declared.order.UnknownMro.{UnknownMro}
use Rattle.pyc_class_ids.specs.declared.order.UnknownMro.TheVariants as reason
use Rattle.pyc_class_ids.specs.Mro.{Mro}
use Rattle.pyc_names.specs.declared.fixed.FixedName.{FixedName}
use Rattle.pyc_names.specs.declared.fixed.FixedName.TheVariants as name
use Rattle.pyc_reading.specs.Answers.{Answer, MemberAnswer, NameAnswer, NameKind, presence_of, name_is, order_is}
use Rattle.pyc_reading.specs.Answers.{member_is, export_is, annotated_variable, variable, alias, function_name}
use Rattle.pyc_reading.specs.Answers.{class_name, module_name, fixed, unknown, opaque, no_module, no_name, no_target}
use Rattle.pyc_reading.specs.Answers.{cycle}
use Rattle.pyc_reading.specs.declared.answer.Export.{Export}
use Rattle.pyc_reading.specs.declared.answer.Export.TheVariants as passed
use Rattle.pyc_reading.specs.declared.answer.MemberKind.{MemberKind}
use Rattle.pyc_reading.specs.declared.answer.MemberKind.TheVariants as member
use Rattle.pyc_reading.specs.declared.answer.Presence.{Presence}
use Rattle.pyc_reading.specs.declared.answer.Presence.TheVariants as there
use Rattle.pyc_type_forms.specs.Equality.{same_type}
use Rattle.pyc_type_forms.specs.Types.{Ty}

-- ---- whether a thing is there

abbrev pub same_presence : Presence → Presence → Bool
same_presence there.NoModule there.NoModule = true
same_presence there.Opaque there.Opaque = true
same_presence there.NoName there.NoName = true
same_presence there.Cycle there.Cycle = true
same_presence there.There there.There = true
same_presence _ _ = false

-- ---- names

-- the number of a name of a fixed module
abbrev pub fixed_number : FixedName → ℕ
fixed_number name.Any = 0
fixed_number name.Optional = 1
fixed_number name.Union = 2
fixed_number name.List = 3
fixed_number name.Dict = 4
fixed_number name.Tuple = 5
fixed_number name.Callable = 6
fixed_number name.Cast = 7
fixed_number name.RevealType = 8
fixed_number name.TypeChecking = 9

abbrev pub same_kind : NameKind → NameKind → Bool
same_kind annotated_variable annotated_variable = true
same_kind variable variable = true
same_kind alias alias = true
same_kind function_name function_name = true
same_kind class_name class_name = true
same_kind (module_name m) (module_name n) = pointwise bytes_eq m n
same_kind (fixed a) (fixed b) = fixed_number a == fixed_number b
same_kind unknown unknown = true
same_kind opaque opaque = true
same_kind no_module no_module = true
same_kind no_name no_name = true
same_kind no_target no_target = true
same_kind cycle cycle = true
same_kind _ _ = false

-- whether two names stand for one kind of thing, of one type
abbrev pub same_name : NameAnswer → NameAnswer → Bool
same_name a b = same_kind a.kind b.kind && same_type a.ty b.ty

-- ---- orders

abbrev pub same_classes : List Id → List Id → Bool
same_classes cs ds = pointwise same_class cs ds

-- whether both orders are known, or neither for one reason
abbrev pub same_reason : Option UnknownMro → Option UnknownMro → Bool
same_reason None None = true
same_reason (Some reason.Base) (Some reason.Base) = true
same_reason (Some reason.Cycle) (Some reason.Cycle) = true
same_reason (Some reason.Merge) (Some reason.Merge) = true
same_reason _ _ = false

abbrev pub same_order : Mro → Mro → Bool
same_order a b =
    same_classes a.classes b.classes && (same_reason a.unknown b.unknown && beq a.has_call b.has_call)

-- ---- members

abbrev pub same_member_kind : MemberKind → MemberKind → Bool
same_member_kind member.Variable member.Variable = true
same_member_kind member.Method member.Method = true
same_member_kind member.StaticMethod member.StaticMethod = true
same_member_kind member.ClassMethod member.ClassMethod = true
same_member_kind member.Property member.Property = true
same_member_kind member.SettableProperty member.SettableProperty = true
same_member_kind _ _ = false

-- whether two members are of one class, one kind and one type
abbrev pub same_found : MemberAnswer → MemberAnswer → Bool
same_found a b = same_class a.class b.class && (same_member_kind a.kind b.kind && same_type a.ty b.ty)

abbrev pub same_member : Option MemberAnswer → Option MemberAnswer → Bool
same_member (Some a) (Some b) = same_found a b
same_member None None = true
same_member _ _ = false

-- ---- whether a name is passed on

abbrev pub same_export : Export → Export → Bool
same_export passed.Open passed.Open = true
same_export passed.Submodule passed.Submodule = true
same_export passed.Hidden passed.Hidden = true
same_export _ _ = false

-- ---- the whole

abbrev pub same_answer : Answer → Answer → Bool
same_answer (presence_of a) (presence_of b) = same_presence a b
same_answer (name_is a) (name_is b) = same_name a b
same_answer (order_is a) (order_is b) = same_order a b
same_answer (member_is a) (member_is b) = same_member a b
same_answer (export_is a) (export_is b) = same_export a b
same_answer _ _ = false

-- ---- what holds of it

-- two types are of one form with the same parts in the same order just where they are equal
abbrev pub SameTypesAreEqual : Type 0
SameTypesAreEqual = (x y : Ty) → Decides (same_type x y) (x ≡ y)

-- two answers are one just where they are equal
abbrev pub SameAnswersAreEqual : Type 0
SameAnswersAreEqual = (a b : Answer) → Decides (same_answer a b) (a ≡ b)
