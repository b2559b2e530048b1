-- What a class statement binds, and what decides of a name in it (Python reference 3.13, "Class definitions" and
-- "Binding of names"; mypy's documentation, "Instance and class attributes"; the library reference, "Built-in
-- Functions": property).
use Rattle.std.specs.Prelude.{ℕ, Bool, true, false, not, ◌&&◌, bytes_eq, List, Option, None, Some, option_map}
use Rattle.std.specs.List.{find, list_any}
use Rattle.pyc_ast.specs.Statements.{Stmts}
use Rattle.pyc_bindings.specs.Bindings.{Binding, BindingForm, bindings_of}
use Rattle.pyc_bindings.specs.Bindings as binding
use Rattle.pyc_bindings.specs.Decorators.{has_setter}
use Rattle.pyc_bindings.specs.Redefinitions.{declaration}
use Rattle.pyc_members.specs.Attributes.{SelfAttribute, AttributeForm, attributes_of}
use Rattle.pyc_members.specs.Attributes as attribute

-- what a class statement binds: the bindings of its body, and the attributes that its methods give its instances
pub record ClassBody : Type 0 where
  pub bindings : List Binding
  pub attributes : List SelfAttribute

-- what a class statement with this body binds
unfoldable pub class_body : Stmts → ClassBody
class_body body = record { bindings = bindings_of body; attributes = attributes_of body }

-- ---- which decides

-- what decides of a name in one class
pub data OwnMember : Type 0 where
  -- the declaration of the name in the body
  bound : Binding → OwnMember
  -- the first annotation of the name through the instance
  annotated : SelfAttribute → OwnMember
  -- the first that assigns the name through the instance
  assigned : SelfAttribute → OwnMember

abbrev pub is_annotated : AttributeForm → Bool
is_annotated (attribute.annotated found) = true
is_annotated _ = false

-- the first of these attributes with this name that is annotated
abbrev pub first_annotated : List SelfAttribute → List ℕ → Option SelfAttribute
first_annotated attributes name = find (λ a. bytes_eq a.name name && is_annotated a.form) attributes

-- the first of these attributes with this name that is not annotated
abbrev pub first_assigned : List SelfAttribute → List ℕ → Option SelfAttribute
first_assigned attributes name = find (λ a. bytes_eq a.name name && not (is_annotated a.form)) attributes

abbrev pub annotated_through_self : ClassBody → List ℕ → Option OwnMember
annotated_through_self body name = option_map annotated (first_annotated body.attributes name)

abbrev pub assigned_through_self : ClassBody → List ℕ → Option OwnMember
assigned_through_self body name = option_map assigned (first_assigned body.attributes name)

-- the first of two that is there
abbrev pub or_else : Option OwnMember → Option OwnMember → Option OwnMember
or_else (Some found) next = Some found
or_else None next = next

-- the declaration of a name in the body, else its first annotation through the instance: along the order of a class
-- both decide before what a class assigns
abbrev pub in_body_or_annotated : ClassBody → List ℕ → Option OwnMember
in_body_or_annotated body name =
    or_else (option_map bound (declaration body.bindings name)) (annotated_through_self body name)

-- what decides of a name in one class: the declaration in the body, else the first annotation through the instance,
-- else the first that assigns through it
abbrev pub own_member : ClassBody → List ℕ → Option OwnMember
own_member body name = or_else (in_body_or_annotated body name) (assigned_through_self body name)

-- ---- properties

-- whether a binding is a function under the decorator of a setter
abbrev pub is_setter : BindingForm → Bool
is_setter (binding.function head) = has_setter head.decorators
is_setter _ = false

-- whether one of these bindings is the setter of the property with this name
abbrev pub has_setter_of : List Binding → List ℕ → Bool
has_setter_of bindings name = list_any (λ b. bytes_eq b.name name && is_setter b.form) bindings

-- whether a property of this name is settable
abbrev pub is_settable : ClassBody → List ℕ → Bool
is_settable body name = has_setter_of body.bindings name
