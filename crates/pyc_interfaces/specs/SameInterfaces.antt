-- When two interfaces are one without positions, and without what no answer looks at.
use Rattle.std.specs.Prelude.{Bool, true, false, ◌&&◌, ◌==◌, bytes_eq, is_some}
use Rattle.std.specs.Bool.{beq}
use Rattle.std.specs.Cmp.Lexicographic.{pointwise}
use Rattle.pyc_ast.specs.declared.parameter.ParameterKind.{ParameterKind}
use Rattle.pyc_ast.specs.declared.parameter.ParameterKind.TheVariants as parameter
use Rattle.pyc_ast.specs.Statements.{ClassDefinition, FunctionDefinition, Parameter}
use Rattle.pyc_bindings.specs.Bindings.{Binding, BindingForm, import, import_from, function, class, annotated, assigned}
use Rattle.pyc_bindings.specs.Bindings.{other}
use Rattle.pyc_interfaces.specs.SameExpressions.{same_expr, same_optional, same_argument, same_value}
use Rattle.pyc_members.specs.Attributes.{AttributeForm, SelfAttribute}
use Rattle.pyc_members.specs.Attributes as attribute
use Rattle.pyc_members.specs.ClassBodies.{ClassBody}
use Rattle.pyc_members.specs.DeclaredClasses.{DeclaredClass}
use Rattle.pyc_names.specs.Interfaces.{Interface}
use Rattle.pyc_names.specs.ModuleName.{same_module}

-- ---- heads

abbrev pub same_kind : ParameterKind → ParameterKind → Bool
same_kind parameter.Plain parameter.Plain = true
same_kind parameter.Star parameter.Star = true
same_kind parameter.KeywordOnly parameter.KeywordOnly = true
same_kind parameter.DoubleStar parameter.DoubleStar = true
same_kind _ _ = false

-- of defaults it counts whether they are there
abbrev pub same_parameter : Parameter → Parameter → Bool
same_parameter p q =
    ((same_kind p.kind q.kind && bytes_eq p.name q.name) && same_optional p.annotation q.annotation)
    && beq (is_some p.default) (is_some q.default)

abbrev pub same_function : FunctionDefinition → FunctionDefinition → Bool
same_function f g =
    (((pointwise same_expr f.decorators g.decorators && beq f.is_async g.is_async) && bytes_eq f.name g.name)
    && pointwise same_parameter f.parameters g.parameters) && same_optional f.returns g.returns

abbrev pub same_class : ClassDefinition → ClassDefinition → Bool
same_class c d =
    (pointwise same_expr c.decorators d.decorators && bytes_eq c.name d.name)
    && pointwise same_argument c.arguments d.arguments

-- ---- bindings

abbrev pub same_form : BindingForm → BindingForm → Bool
same_form (import path) (import other_path) = pointwise bytes_eq other_path path
same_form (import_from dots path n) (import_from others other_path m) =
    (dots == others && pointwise bytes_eq path other_path) && bytes_eq n m
same_form (function f) (function g) = same_function f g
same_form (class c) (class d) = same_class c d
same_form (annotated found) (annotated more) = same_expr found.annotation more.annotation
same_form (assigned x) (assigned y) = same_value x y
same_form other other = true
same_form _ _ = false

abbrev pub same_binding : Binding → Binding → Bool
same_binding b c = (bytes_eq b.name c.name && beq b.is_passed_on c.is_passed_on) && same_form b.form c.form

-- ---- classes

abbrev pub same_attribute_form : AttributeForm → AttributeForm → Bool
same_attribute_form (attribute.annotated found) (attribute.annotated more) = same_expr found.annotation more.annotation
same_attribute_form (attribute.assigned x) (attribute.assigned y) = same_value x y
same_attribute_form attribute.other attribute.other = true
same_attribute_form _ _ = false

abbrev pub same_attribute : SelfAttribute → SelfAttribute → Bool
same_attribute a b =
    (bytes_eq a.name b.name && same_attribute_form a.form b.form) && same_function a.method b.method

abbrev pub same_body : ClassBody → ClassBody → Bool
same_body b c = pointwise same_binding b.bindings c.bindings && pointwise same_attribute b.attributes c.attributes

abbrev pub same_declared : DeclaredClass → DeclaredClass → Bool
same_declared c d = (bytes_eq c.name d.name && same_class c.head d.head) && same_body c.body d.body

-- ---- interfaces

-- whether two interfaces are one without positions
unfoldable pub same_interface : Interface → Interface → Bool
same_interface i j =
    ((((same_module i.name j.name && beq i.is_package j.is_package) && beq i.is_stub j.is_stub)
    && beq i.has_fault j.has_fault) && pointwise same_binding i.bindings j.bindings)
    && pointwise same_declared i.classes j.classes
