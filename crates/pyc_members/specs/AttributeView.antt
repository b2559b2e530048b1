-- The plain attribute that one of the code is.
use Rattle.pyc_ast.specs.ExprView.{expr_of}
use Rattle.pyc_ast.specs.StatementView.{annotated_of, function_of}
use Rattle.pyc_members.specs.declared.attribute.AttributeForm.{AttributeForm as AttributeFormOf}
use Rattle.pyc_members.specs.declared.attribute.AttributeForm.TheVariants as a
use Rattle.pyc_members.specs.declared.attribute.SelfAttribute.{SelfAttribute as SelfAttributeOf}
use Rattle.pyc_members.specs.declared.attributes.Receiver.{Receiver as ReceiverOf}
use Rattle.pyc_members.specs.Attributes.{SelfAttribute, AttributeForm, Receiver, annotated, assigned, other}

abbrev pub attribute_form_of : AttributeFormOf → AttributeForm
attribute_form_of (a.Annotated found) = annotated (annotated_of found.value)
attribute_form_of (a.Assigned value) = assigned (expr_of value.value)
attribute_form_of a.Other = other

-- the plain attribute that one of the code is
abbrev pub attribute_of : SelfAttributeOf → SelfAttribute
attribute_of found =
    record {
      name = found.name;
      at = found.at;
      form = attribute_form_of found.form;
      method = function_of found.method.value;
    }

-- the plain method, and the name of its instance, that one of the code is
abbrev pub receiver_of : ReceiverOf → Receiver
receiver_of me = record { method = function_of me.method.now.value; name = me.name.now }
