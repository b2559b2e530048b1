-- Interfaces without positions, and without what no answer looks at: defaults of parameters but for whether they are
-- there, targets and values beside annotations, and values that are no literals and no names.
use Rattle.std.specs.Prelude.{false, [], map, None, option_map}
use Rattle.pyc_ast.specs.Statements.{AnnotatedAssignment, ClassDefinition, FunctionDefinition, Parameter}
use Rattle.pyc_ast.specs.Targets.{Target, target}
use Rattle.pyc_ast.specs.Targets as to
use Rattle.pyc_bindings.specs.Bindings.{Binding, BindingForm, import, import_from, function, class, annotated, assigned}
use Rattle.pyc_bindings.specs.Bindings.{other}
use Rattle.pyc_bindings.specs.Scopes.{placed}
use Rattle.pyc_interfaces.specs.BareExpressions.{nowhere, other_expr, bare, bare_argument, bare_value}
use Rattle.pyc_members.specs.Attributes.{AttributeForm, SelfAttribute}
use Rattle.pyc_members.specs.Attributes as attribute
use Rattle.pyc_members.specs.ClassBodies.{ClassBody}
use Rattle.pyc_members.specs.DeclaredClasses.{DeclaredClass}
use Rattle.pyc_names.specs.Interfaces.{Interface}

-- ---- heads

abbrev pub bare_parameter : Parameter → Parameter
bare_parameter p =
    record {
      at = nowhere;
      kind = p.kind;
      name = p.name;
      annotation = option_map bare p.annotation;
      default = option_map (λ x. other_expr) p.default;
    }

abbrev pub bare_function : FunctionDefinition → FunctionDefinition
bare_function head =
    record {
      decorators = map bare head.decorators;
      is_async = head.is_async;
      name = head.name;
      parameters = map bare_parameter head.parameters;
      returns = option_map bare head.returns;
      suspends = false;
    }

abbrev pub bare_class : ClassDefinition → ClassDefinition
bare_class head =
    record {
      decorators = map bare head.decorators;
      name = head.name;
      arguments = map bare_argument head.arguments;
      suspends = false;
    }

-- an annotated assignment: its annotation alone
abbrev pub bare_annotated : AnnotatedAssignment → AnnotatedAssignment
bare_annotated found =
    record { target = target nowhere nowhere (to.name []); annotation = bare found.annotation; value = None }

-- ---- bindings

abbrev pub bare_form : BindingForm → BindingForm
bare_form (import path) = import path
bare_form (import_from dots path name) = import_from dots path name
bare_form (function head) = function (bare_function head)
bare_form (class head) = class (bare_class head)
bare_form (annotated found) = annotated (bare_annotated found)
bare_form (assigned value) = assigned (bare_value value)
bare_form other = other

abbrev pub bare_binding : Binding → Binding
bare_binding b =
    record { name = b.name; place = placed nowhere false; is_passed_on = b.is_passed_on; form = bare_form b.form }

-- ---- classes

abbrev pub bare_attribute_form : AttributeForm → AttributeForm
bare_attribute_form (attribute.annotated found) = attribute.annotated (bare_annotated found)
bare_attribute_form (attribute.assigned value) = attribute.assigned (bare_value value)
bare_attribute_form attribute.other = attribute.other

abbrev pub bare_attribute : SelfAttribute → SelfAttribute
bare_attribute a =
    record { name = a.name; at = nowhere; form = bare_attribute_form a.form; method = bare_function a.method }

abbrev pub bare_body : ClassBody → ClassBody
bare_body body = record { bindings = map bare_binding body.bindings; attributes = map bare_attribute body.attributes }

abbrev pub bare_declared : DeclaredClass → DeclaredClass
bare_declared c = record { name = c.name; at = nowhere; head = bare_class c.head; body = bare_body c.body }

-- ---- interfaces

abbrev pub bare_interface : Interface → Interface
bare_interface i =
    record {
      name = i.name;
      is_package = i.is_package;
      is_stub = i.is_stub;
      has_fault = i.has_fault;
      bindings = map bare_binding i.bindings;
      classes = map bare_declared i.classes;
    }
