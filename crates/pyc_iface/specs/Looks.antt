-- What is looked at for what files answer: along the order of a class, which is looked at as a whole, what each class
-- has of its own.
use Rattle.std.specs.Prelude.{ℕ, if◌then◌else◌, List, [], ◌∷◌, ◌++◌, Option, None, Some}
use Rattle.pyc_ast.specs.declared.parameter.ParameterKind.{ParameterKind}
use Rattle.pyc_ast.specs.declared.parameter.ParameterKind.TheVariants as parameter
use Rattle.pyc_ast.specs.Exprs.{Expr}
use Rattle.pyc_ast.specs.Statements.{FunctionDefinition, Parameter}
use Rattle.pyc_bindings.specs.Bindings.{Binding, BindingForm, function, annotated}
use Rattle.pyc_bindings.specs.Decorators.{has_setter}
use Rattle.pyc_bindings.specs.Redefinitions.{is_decorated}
use Rattle.pyc_class_ids.specs.declared.builtin_class.BuiltinClass.{BuiltinClass}
use Rattle.pyc_class_ids.specs.Class.{Id, builtin, user, builtin_of, module_of, name_of}
use Rattle.pyc_class_ids.specs.Mro.{MroTable}
use Rattle.pyc_declarations.specs.Looks.{annotated_looks, function_looks, fixed_looks, declared_looks}
use Rattle.pyc_iface.specs.Answers.{orders_by}
use Rattle.pyc_iface.specs.Members.{Declared, declared_of, declared_in, assigned_in, first_declared, parameter_named}
use Rattle.pyc_iface.specs.Members.{name_written}
use Rattle.pyc_members.specs.declared.method.MethodKind.{MethodKind}
use Rattle.pyc_members.specs.declared.method.MethodKind.TheVariants as method
use Rattle.pyc_members.specs.Attributes.{SelfAttribute, AttributeForm}
use Rattle.pyc_members.specs.Attributes as attribute
use Rattle.pyc_members.specs.ClassBodies.{OwnMember, in_body_or_annotated, assigned_through_self}
use Rattle.pyc_members.specs.ClassBodies as own
use Rattle.pyc_members.specs.Methods.{method_kind}
use Rattle.pyc_names.specs.FixedModules.{fixed_module}
use Rattle.pyc_names.specs.Following.{QualifiedName}
use Rattle.pyc_names.specs.Interfaces.{Interface}
use Rattle.pyc_names.specs.Looks.{Look, of_member, of_order}
use Rattle.pyc_reading.specs.Answers.{MemberAnswer}
use Rattle.pyc_reading.specs.Keys.{Key, class, member, MemberName}
use Rattle.pyc_type_forms.specs.Types.{any, class_object, instance}

-- the name of a class of a source in its module
abbrev pub class_name : Id → QualifiedName
class_name c = record { module_path = module_of c; name = name_of c }

-- ---- methods

abbrev pub method_type_looks : List Interface → Declared → FunctionDefinition → List Look
method_type_looks files c head = function_looks files c.file (instance c.id) head

abbrev pub property_looks : List Interface → Declared → FunctionDefinition → List Look
property_looks files c head = if has_setter head.decorators then [] else method_type_looks files c head

abbrev pub method_looks : List Interface → Declared → FunctionDefinition → MethodKind → List Look
method_looks files c head method.Property = property_looks files c head
method_looks files c head method.Static = function_looks files c.file any head
method_looks files c head method.Class = function_looks files c.file (class_object c.id) head
method_looks files c head method.Plain = method_type_looks files c head

-- ---- what a class binds

abbrev pub form_member_looks : List Interface → Declared → BindingForm → List Look
form_member_looks files c (function head) = method_looks files c head (method_kind head.decorators)
form_member_looks files c (annotated found) = annotated_looks files c.file found.annotation
form_member_looks files c _ = []

abbrev pub bound_member_looks : List Interface → Declared → Binding → List Look
bound_member_looks files c b = if is_decorated b.form then [] else form_member_looks files c b.form

-- ---- what a class binds through the instance

abbrev pub plain_looks : List Interface → Interface → ParameterKind → Option Expr → List Look
plain_looks files file parameter.Plain (Some annotation) = annotated_looks files file annotation
plain_looks files file _ _ = []

abbrev pub parameter_looks : List Interface → Interface → Option Parameter → List Look
parameter_looks files file (Some p) = plain_looks files file p.kind p.annotation
parameter_looks files file None = []

abbrev pub value_by_name_looks : List Interface → Interface → List Parameter → Option (List ℕ) → List Look
value_by_name_looks files file params (Some n) = parameter_looks files file (parameter_named params n)
value_by_name_looks files file params None = []

abbrev pub value_looks : List Interface → Interface → List Parameter → Expr → List Look
value_looks files file params value = value_by_name_looks files file params (name_written value)

abbrev pub attribute_type_looks : List Interface → Interface → FunctionDefinition → AttributeForm → List Look
attribute_type_looks files file head (attribute.annotated found) = annotated_looks files file found.annotation
attribute_type_looks files file head (attribute.assigned value) = value_looks files file head.parameters value
attribute_type_looks files file head attribute.other = []

abbrev pub attribute_member_looks : List Interface → Declared → SelfAttribute → List Look
attribute_member_looks files c a = attribute_type_looks files c.file a.method a.form

-- ---- members

abbrev pub own_looks : List Interface → Declared → OwnMember → List Look
own_looks files c (own.bound b) = bound_member_looks files c b
own_looks files c (own.annotated a) = attribute_member_looks files c a
own_looks files c (own.assigned a) = attribute_member_looks files c a

-- what decides of a name in a class, if something does
abbrev pub deciding_looks : List Interface → Declared → Option OwnMember → List Look
deciding_looks files c (Some found) = own_looks files c found
deciding_looks files c None = []

abbrev pub declared_in_user_looks : List Interface → List ℕ → Option Declared → List Look
declared_in_user_looks files x (Some c) = deciding_looks files c (in_body_or_annotated c.body x)
declared_in_user_looks files x None = []

abbrev pub assigned_in_user_looks : List Interface → List ℕ → Option Declared → List Look
assigned_in_user_looks files x (Some c) = deciding_looks files c (assigned_through_self c.body x)
assigned_in_user_looks files x None = []

-- a class of a source; where its file is named as a fixed module, the module is looked at too
abbrev pub class_looks : Id → List ℕ → List Look
class_looks c x = of_member (class_name c) x ∷ fixed_looks (module_of c) (fixed_module (module_of c))

abbrev pub declared_by_kind_looks : List Interface → Id → List ℕ → Option BuiltinClass → List Look
declared_by_kind_looks files c x (Some b) = []
declared_by_kind_looks files c x None = class_looks c x ++ declared_in_user_looks files x (declared_of files c)

-- what is looked at for what a class declares under a name
abbrev pub declared_in_looks : List Interface → Id → List ℕ → List Look
declared_in_looks files c x = declared_by_kind_looks files c x (builtin_of c)

abbrev pub assigned_by_kind_looks : List Interface → Id → List ℕ → Option BuiltinClass → List Look
assigned_by_kind_looks files c x (Some b) = []
assigned_by_kind_looks files c x None = class_looks c x ++ assigned_in_user_looks files x (declared_of files c)

-- what is looked at for what a class assigns under a name through the instance
abbrev pub assigned_in_looks : List Interface → Id → List ℕ → List Look
assigned_in_looks files c x = assigned_by_kind_looks files c x (builtin_of c)

-- where something is found, no more is looked at
abbrev pub unless_found : Option MemberAnswer → List Look → List Look
unless_found (Some found) more = []
unless_found None more = more

abbrev pub first_declared_looks : List Interface → List Id → List ℕ → List Look
first_declared_looks files [] x = []
first_declared_looks files (c ∷ rest) x =
    declared_in_looks files c x ++ unless_found (declared_in files c x) (first_declared_looks files rest x)

abbrev pub first_assigned_looks : List Interface → List Id → List ℕ → List Look
first_assigned_looks files [] x = []
first_assigned_looks files (c ∷ rest) x =
    assigned_in_looks files c x ++ unless_found (assigned_in files c x) (first_assigned_looks files rest x)

-- what is looked at of the order of a class: those of builtin classes stay
abbrev pub order_looks : Id → List Look
order_looks (builtin b) = []
order_looks (user m n) = of_order (record { module_path = m; name = n }) ∷ []

-- what is looked at for what a class has under a name
abbrev pub member_looks : List Interface → MroTable → MemberName → List Look
member_looks files orders name =
    order_looks name.class
    ++ (first_declared_looks files (orders name.class).classes name.name
    ++ unless_found (first_declared files (orders name.class).classes name.name)
    (first_assigned_looks files (orders name.class).classes name.name))

-- ---- answers

-- what is looked at for what files answer
abbrev pub answer_looks : List Interface → Key → List Look
answer_looks files (class c) = order_looks c
answer_looks files (member name) = member_looks files (orders_by files) name
answer_looks files key = declared_looks files key
