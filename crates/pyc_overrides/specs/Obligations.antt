-- What is required of a member to that of an ancestor: its type has to be assignable to the ancestor's. Of two methods
-- that is looked at more closely, first their results and then the parameters, so that the message says what fails
-- (typing specification, "Class type assignability" and "Assignability rules for callables").
use Rattle.std.specs.Prelude.{ℕ, Bool, true, false, List, [], ◌∷◌}
use Rattle.pyc_ast.specs.declared.position.Position.{Position}
use Rattle.pyc_class_ids.specs.Class.{name_of}
use Rattle.pyc_overrides.specs.Messages.{
  Override,
  required_result_text,
  required_signature_text,
  required_variable_text,
}
use Rattle.pyc_overrides.specs.Parameters.{rows_details}
use Rattle.pyc_reading.specs.Answers.{MemberAnswer}
use Rattle.pyc_reading.specs.declared.answer.MemberKind.{MemberKind}
use Rattle.pyc_reading.specs.declared.answer.MemberKind.TheVariants as kind
use Rattle.pyc_reading.specs.Owing.{Detail, Obligation}
use Rattle.pyc_report.specs.declared.message.ObligationKind.{ObligationKind}
use Rattle.pyc_report.specs.declared.message.ObligationKind.TheVariants as obligation_kind
use Rattle.pyc_type_forms.specs.Types.{Ty, Params, callable}

-- ---- two methods

-- the one result has to be assignable to the other
abbrev pub result_detail : Override → (got want : Ty) → Detail
result_detail reported got want = record { got = got; want = want; text = required_result_text reported got want }

abbrev pub callables_details : Override → Params → Ty → Params → Ty → List Detail
callables_details reported params got wanted want = result_detail reported got want ∷ rows_details reported params
    wanted

-- a callable, and the type of another method, which may be no callable
abbrev pub callable_details : Override → Params → Ty → Ty → List Detail
callable_details reported params got (callable wanted want) = callables_details reported params got wanted want
callable_details reported params got _ = []

abbrev pub methods_details : Override → Ty → Ty → List Detail
methods_details reported (callable params got) want = callable_details reported params got want
methods_details reported _ want = []

-- ---- two members

-- whether a member of this kind is a method: of an instance, of the class or of neither
abbrev pub is_method : MemberKind → Bool
is_method kind.Method = true
is_method kind.StaticMethod = true
is_method kind.ClassMethod = true
is_method _ = false

-- two members, by whether each is a method: what is looked at more closely, the text where nothing of that fails, and
-- the kind of the obligation
abbrev pub details_by : Bool → Bool → Override → Ty → Ty → List Detail
details_by true true reported got want = methods_details reported got want
details_by _ _ reported got want = []

abbrev pub text_of_whole : Bool → Bool → Override → Ty → Ty → List ℕ
text_of_whole false false reported got want = required_variable_text reported got want
text_of_whole _ _ reported got want = required_signature_text reported

abbrev pub obligation_kind_by : Bool → Bool → ObligationKind
obligation_kind_by false false = obligation_kind.VariableOverride
obligation_kind_by _ _ = obligation_kind.Override

-- a member of this name, and that of an ancestor
abbrev pub override_by : List ℕ → MemberAnswer → MemberAnswer → Override
override_by n got want =
    record {
      name = n;
      base = name_of want.class;
      got_is_method = is_method got.kind;
      want_is_method = is_method want.kind;
    }

abbrev pub override_details : Override → Ty → Ty → List Detail
override_details reported got want = details_by reported.got_is_method reported.want_is_method reported got want

abbrev pub override_text : Override → Ty → Ty → List ℕ
override_text reported got want = text_of_whole reported.got_is_method reported.want_is_method reported got want

abbrev pub override_obligation_kind : Override → ObligationKind
override_obligation_kind reported = obligation_kind_by reported.got_is_method reported.want_is_method

-- a member of this name has to be of the type of that of an ancestor, which is reported where the class declares it
abbrev pub required_override : Position → List ℕ → MemberAnswer → MemberAnswer → Obligation
required_override at n got want =
    record {
      obligation_kind = override_obligation_kind (override_by n got want);
      at = at;
      got = got.ty;
      want = want.ty;
      details = override_details (override_by n got want) got.ty want.ty;
      text = override_text (override_by n got want) got.ty want.ty;
    }
