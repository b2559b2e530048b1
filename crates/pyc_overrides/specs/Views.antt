-- The plain values that those of the code are.
use Rattle.std.specs.Prelude.{map}
use Rattle.pyc_bindings.specs.ScopeView.{part_of}
use Rattle.pyc_members.specs.ClassBodyView.{class_body_of}
use Rattle.pyc_overrides.specs.declared.subclass.Subclass.{Subclass as SubclassOf}
use Rattle.pyc_overrides.specs.declared.messages.Override.{Override as OverrideOf}
use Rattle.pyc_overrides.specs.declared.signatures.RequiredOverride.{RequiredOverride}
use Rattle.pyc_overrides.specs.Messages.{Override}
use Rattle.pyc_overrides.specs.Obligations.{required_override}
use Rattle.pyc_overrides.specs.Overrides.{Subclass}
use Rattle.pyc_reading.specs.AnswerView.{member_answer_of}
use Rattle.pyc_reading.specs.Owing.{Obligation}

-- a name that overrides what an ancestor declares
abbrev pub override_of : OverrideOf → Override
override_of reported =
    record {
      name = reported.name.now;
      base = reported.base.now;
      got_is_method = reported.got_is_method;
      want_is_method = reported.want_is_method;
    }

-- a member that has to be of the type of that of an ancestor
abbrev pub required_in : RequiredOverride → Obligation
required_in o = required_override o.at o.name.now (member_answer_of o.got.now) (member_answer_of o.want)

-- a class
abbrev pub subclass_of : SubclassOf → Subclass
subclass_of subclass =
    record {
      class = subclass.class.now;
      body = class_body_of subclass.body.now;
      parts = map part_of subclass.parts.now;
      ancestors = subclass.ancestors.now;
    }
