-- What classes have under names, of their own or from their ancestors, with its type as it is declared (Python
-- reference 3.13, "The standard type hierarchy", classes and instance methods; typing specification, "Type
-- annotations"; the library reference, "Built-in Functions": property, staticmethod and classmethod).
use Rattle.std.specs.Prelude.{ℕ, Bool, bytes_eq, if◌then◌else◌, List, [], ◌∷◌, Option, None, Some, option_map}
use Rattle.std.specs.List.{find}
use Rattle.pyc_ast.specs.declared.parameter.ParameterKind.{ParameterKind}
use Rattle.pyc_ast.specs.declared.parameter.ParameterKind.TheVariants as parameter
use Rattle.pyc_ast.specs.Exprs.{Expr, expr}
use Rattle.pyc_ast.specs.Exprs as form
use Rattle.pyc_ast.specs.Statements.{FunctionDefinition, Parameter}
use Rattle.pyc_bindings.specs.Bindings.{Binding, BindingForm, function, annotated, assigned}
use Rattle.pyc_bindings.specs.Decorators.{has_setter}
use Rattle.pyc_bindings.specs.Redefinitions.{is_decorated}
use Rattle.pyc_builtins.specs.declared.members.Member.{Member}
use Rattle.pyc_builtins.specs.declared.members.Member.TheVariants as builtin_member
use Rattle.pyc_builtins.specs.Members as builtins
use Rattle.pyc_builtins.specs.MemberTypes as builtin_types
use Rattle.pyc_class_ids.specs.declared.builtin_class.BuiltinClass.{BuiltinClass}
use Rattle.pyc_class_ids.specs.Class.{Id, builtin, builtin_of, module_of, name_of}
use Rattle.pyc_class_ids.specs.Mro.{MroTable}
use Rattle.pyc_declarations.specs.Declarations.{annotated_type, declared_function}
use Rattle.pyc_declarations.specs.DeclaredTypes.{initialiser_type}
use Rattle.pyc_members.specs.declared.method.MethodKind.{MethodKind}
use Rattle.pyc_members.specs.declared.method.MethodKind.TheVariants as method
use Rattle.pyc_members.specs.Attributes.{SelfAttribute, AttributeForm}
use Rattle.pyc_members.specs.Attributes as attribute
use Rattle.pyc_members.specs.ClassBodies.{ClassBody, OwnMember, in_body_or_annotated, assigned_through_self}
use Rattle.pyc_members.specs.ClassBodies.{is_settable}
use Rattle.pyc_members.specs.ClassBodies as own
use Rattle.pyc_members.specs.DeclaredClasses.{DeclaredClass}
use Rattle.pyc_members.specs.Methods.{method_kind}
use Rattle.pyc_names.specs.Interfaces.{Interface, file_of}
use Rattle.pyc_reading.specs.Answers.{MemberAnswer}
use Rattle.pyc_reading.specs.declared.answer.MemberKind.{MemberKind}
use Rattle.pyc_reading.specs.declared.answer.MemberKind.TheVariants as kind
use Rattle.pyc_reading.specs.Keys.{MemberName}
use Rattle.pyc_type_forms.specs.Types.{Ty, any, callable, class_object, instance}

-- ---- the classes of files

-- a class where it is declared
pub record Declared : Type 0 where
  pub id : Id
  pub file : Interface
  pub body : ClassBody

-- a class of this name among those that a file declares
abbrev pub class_named : List DeclaredClass → List ℕ → Option DeclaredClass
class_named classes x = find (λ c. bytes_eq c.name x) classes

abbrev pub declared_class : Id → Interface → Option DeclaredClass → Option Declared
declared_class id file (Some c) = Some (record { id = id; file = file; body = c.body })
declared_class id file None = None

abbrev pub class_in_file : Id → Option Interface → Option Declared
class_in_file id (Some file) = declared_class id file (class_named file.classes (name_of id))
class_in_file id None = None

-- the class of a source, where its module's file declares it
abbrev pub declared_of : List Interface → Id → Option Declared
declared_of files id = class_in_file id (file_of files (module_of id))

-- ---- methods

-- a member of a class of this kind and type
abbrev pub member_of : Declared → MemberKind → Ty → MemberAnswer
member_of c kind ty = record { class = c.id; kind = kind; ty = ty }

abbrev pub variable : Declared → Ty → MemberAnswer
variable c ty = member_of c kind.Variable ty

-- what a call of something of this type gives, where its signature is known
abbrev pub result_of_callable : Ty → Ty
result_of_callable (callable params result) = result
result_of_callable _ = any

-- a property is settable where the class has a setter of its name
abbrev pub property_kind : Bool → MemberKind
property_kind is_settable = if is_settable then kind.SettableProperty else kind.Property

-- the type of a method that is given the instance
abbrev pub method_type : List Interface → Declared → FunctionDefinition → Ty
method_type files c head = declared_function files c.file (instance c.id) head

-- the type of a property; of one that its setter declares none is known
abbrev pub property_type : List Interface → Declared → FunctionDefinition → Ty
property_type files c head =
    if has_setter head.decorators then any else result_of_callable (method_type files c head)

-- a method of this name: its first parameter, without annotation, is the instance, or the class
abbrev pub method_member : List Interface → Declared → List ℕ → FunctionDefinition → MethodKind → MemberAnswer
method_member files c x head method.Property =
    member_of c (property_kind (is_settable c.body x)) (property_type files c head)
method_member files c x head method.Static = member_of c kind.StaticMethod (declared_function files c.file any head)
method_member files c x head method.Class =
    member_of c kind.ClassMethod (declared_function files c.file (class_object c.id) head)
method_member files c x head method.Plain = member_of c kind.Method (method_type files c head)

-- ---- what a class binds

-- what the declaration of a name in the body gives, where no unknown decorator stands before it: an import, a class and
-- what is bound otherwise is a variable of which no type is known
abbrev pub form_member : List Interface → Declared → List ℕ → BindingForm → MemberAnswer
form_member files c x (function head) = method_member files c x head (method_kind head.decorators)
form_member files c x (annotated found) = variable c (annotated_type files c.file found.annotation)
form_member files c x (assigned value) = variable c (initialiser_type value)
form_member files c x _ = variable c any

abbrev pub bound_member : List Interface → Declared → List ℕ → Binding → MemberAnswer
bound_member files c x b = if is_decorated b.form then variable c any else form_member files c x b.form

-- ---- what a class binds through the instance

-- the type of a parameter that an argument at its place fills, where it has an annotation
abbrev pub plain_type : List Interface → Interface → ParameterKind → Option Expr → Ty
plain_type files file parameter.Plain (Some annotation) = annotated_type files file annotation
plain_type files file _ _ = any

-- the type of the parameter of this name, the first of them
abbrev pub parameter_type : List Interface → Interface → Option Parameter → Ty
parameter_type files file (Some p) = plain_type files file p.kind p.annotation
parameter_type files file None = any

-- the first of these parameters that has this name
abbrev pub parameter_named : List Parameter → List ℕ → Option Parameter
parameter_named params n = find (λ p. bytes_eq p.name n) params

-- the name that an expression is, in parentheses too
abbrev pub name_written : Expr → Option (List ℕ)
name_written (expr at inside (form.name n)) = Some n
name_written _ = None

-- the type of a value that an attribute is assigned: that of a literal, or of a parameter of the method
abbrev pub value_by_name : List Interface → Interface → List Parameter → Expr → Option (List ℕ) → Ty
value_by_name files file params value (Some n) = parameter_type files file (parameter_named params n)
value_by_name files file params value None = initialiser_type value

abbrev pub value_type : List Interface → Interface → List Parameter → Expr → Ty
value_type files file params value = value_by_name files file params value (name_written value)

abbrev pub attribute_type : List Interface → Interface → FunctionDefinition → AttributeForm → Ty
attribute_type files file head (attribute.annotated found) = annotated_type files file found.annotation
attribute_type files file head (attribute.assigned value) = value_type files file head.parameters value
attribute_type files file head attribute.other = any

abbrev pub attribute_member : List Interface → Declared → SelfAttribute → MemberAnswer
attribute_member files c a = variable c (attribute_type files c.file a.method a.form)

-- ---- members

-- what decides of a name in a class, as a member of it
abbrev pub own_answer : List Interface → Declared → List ℕ → OwnMember → MemberAnswer
own_answer files c x (own.bound b) = bound_member files c x b
own_answer files c x (own.annotated a) = attribute_member files c a
own_answer files c x (own.assigned a) = attribute_member files c a

-- a member of a builtin class
abbrev pub builtin_kind : Member → MemberKind
builtin_kind builtin_member.Attribute = kind.Variable
builtin_kind (builtin_member.Method result) = kind.Method
builtin_kind builtin_member.Append = kind.Method

abbrev pub builtin_answer : BuiltinClass → Member → MemberAnswer
builtin_answer class found =
    record {
      class = builtin class;
      kind = builtin_kind found;
      ty = builtin_types.member_type (instance (builtin class)) found;
    }

abbrev pub own_builtin_answer : BuiltinClass → List ℕ → Option MemberAnswer
own_builtin_answer class x = option_map (builtin_answer class) (builtins.own_member class x)

-- what a class has of its own under a name that decides before what others assign through the instance: a binding of
-- its body, or an annotation through the instance
abbrev pub declared_in_user : List Interface → List ℕ → Option Declared → Option MemberAnswer
declared_in_user files x (Some c) = option_map (own_answer files c x) (in_body_or_annotated c.body x)
declared_in_user files x None = None

abbrev pub declared_by_kind : List Interface → Id → List ℕ → Option BuiltinClass → Option MemberAnswer
declared_by_kind files c x (Some class) = own_builtin_answer class x
declared_by_kind files c x None = declared_in_user files x (declared_of files c)

abbrev pub declared_in : List Interface → Id → List ℕ → Option MemberAnswer
declared_in files c x = declared_by_kind files c x (builtin_of c)

-- what a class assigns under a name through the instance
abbrev pub assigned_in_user : List Interface → List ℕ → Option Declared → Option MemberAnswer
assigned_in_user files x (Some c) = option_map (own_answer files c x) (assigned_through_self c.body x)
assigned_in_user files x None = None

abbrev pub assigned_by_kind : List Interface → Id → List ℕ → Option BuiltinClass → Option MemberAnswer
assigned_by_kind files c x (Some class) = None
assigned_by_kind files c x None = assigned_in_user files x (declared_of files c)

abbrev pub assigned_in : List Interface → Id → List ℕ → Option MemberAnswer
assigned_in files c x = assigned_by_kind files c x (builtin_of c)

-- the first of two that is there
abbrev pub or_else : Option MemberAnswer → Option MemberAnswer → Option MemberAnswer
or_else (Some found) next = Some found
or_else None next = next

-- the first of these classes that declares a name, and the first that assigns it
abbrev pub first_declared : List Interface → List Id → List ℕ → Option MemberAnswer
first_declared files [] x = None
first_declared files (c ∷ rest) x = or_else (declared_in files c x) (first_declared files rest x)

abbrev pub first_assigned : List Interface → List Id → List ℕ → Option MemberAnswer
first_assigned files [] x = None
first_assigned files (c ∷ rest) x = or_else (assigned_in files c x) (first_assigned files rest x)

-- what a class has under a name: what the first class of its order declares, else what the first assigns
abbrev pub member_answer : List Interface → MroTable → MemberName → Option MemberAnswer
member_answer files orders name =
    or_else (first_declared files (orders name.class).classes name.name)
    (first_assigned files (orders name.class).classes name.name)
