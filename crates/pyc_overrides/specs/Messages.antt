-- What is reported of a name that overrides another (typing specification, "Class type assignability"; mypy's
-- documentation, "Class basics", "Overriding statically typed methods", and "Error codes enabled by default").
use Rattle.std.specs.Prelude.{ℕ, Bool, List}
use Rattle.pyc_messages.specs.Overrides as message
use Rattle.pyc_type_forms.specs.Text.{text_of}
use Rattle.pyc_type_forms.specs.Types.{Ty}

-- a name that overrides what an ancestor declares: the name, that of the ancestor, and whether each is a method
pub record Override : Type 0 where
  pub name : List ℕ
  pub base : List ℕ
  pub got_is_method : Bool
  pub want_is_method : Bool

-- a parameter of this number, of which the ancestor wants a type
unfoldable pub required_argument_text : Override → ℕ → Ty → List ℕ
required_argument_text reported number want =
    message.argument_override_text number reported.name reported.base (text_of want)

-- a method that gives a type, where the ancestor's gives another
unfoldable pub required_result_text : Override → (got want : Ty) → List ℕ
required_result_text reported got want =
    message.result_override_text reported.name reported.base (text_of got) (text_of want)

-- a method whose signature is another in any other way, and a method that stands against something else
unfoldable pub required_signature_text : Override → List ℕ
required_signature_text reported = message.signature_override_text reported.name reported.base

-- what is no method, and of another type
unfoldable pub required_variable_text : Override → (got want : Ty) → List ℕ
required_variable_text reported got want =
    message.variable_override_text reported.base (text_of got) (text_of want)
