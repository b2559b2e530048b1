-- The plain class body that one of the code is.
use Rattle.std.specs.Prelude.{map}
use Rattle.pyc_bindings.specs.BindingView.{binding_of}
use Rattle.pyc_members.specs.declared.class_body.ClassBody.{ClassBody as ClassBodyOf}
use Rattle.pyc_members.specs.declared.class_body.OwnMember.{OwnMember as OwnMemberOf}
use Rattle.pyc_members.specs.declared.class_body.OwnMember.TheVariants as o
use Rattle.pyc_members.specs.AttributeView.{attribute_of}
use Rattle.pyc_members.specs.ClassBodies.{ClassBody, OwnMember, bound, annotated, assigned}

-- the plain class body that one of the code is
abbrev pub class_body_of : ClassBodyOf → ClassBody
class_body_of body =
    record { bindings = map binding_of body.bindings.items; attributes = map attribute_of body.attributes.items }

-- the plain member that one of the code is
abbrev pub own_member_of : OwnMemberOf → OwnMember
own_member_of (o.Bound found) = bound (binding_of found.now)
own_member_of (o.Annotated found) = annotated (attribute_of found.now)
own_member_of (o.Assigned found) = assigned (attribute_of found.now)
