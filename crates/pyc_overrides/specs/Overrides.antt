-- What is required where a class declares a name that an ancestor declares as well: its type has to be assignable to
-- the ancestor's (typing specification, "Class type assignability"; mypy's documentation, "Class basics",
-- "Overriding statically typed methods").
use Rattle.std.specs.Prelude.{ℕ, if◌then◌else◌, List, [], ◌∷◌, ◌++◌, Option, None, Some}
use Rattle.pyc_ast.specs.declared.position.Position.{Position}
use Rattle.pyc_ast.specs.Statements.{Stmts}
use Rattle.pyc_bindings.specs.Scopes.{Part}
use Rattle.pyc_class_ids.specs.Class.{Id, user}
use Rattle.pyc_members.specs.ClassBodies.{ClassBody, OwnMember, class_body, own_member}
use Rattle.pyc_names.specs.SourceFiles.{SourceFile}
use Rattle.pyc_obligations.specs.Asking.{ask_member}
use Rattle.pyc_overrides.specs.Ancestors.{bind_to_instance, own_declaration, ancestor_member}
use Rattle.pyc_overrides.specs.Names.{is_exempt, bound_names}
use Rattle.pyc_overrides.specs.Obligations.{required_override}
use Rattle.pyc_overrides.specs.Places.{own_place, body_parts}
use Rattle.pyc_reading.specs.Answers.{MemberAnswer}
use Rattle.pyc_reading.specs.Traces.{Step, owing}
use Rattle.pyc_reading.specs.Owing.{Obligation}
use Rattle.pyc_reading.specs.Readings.{Done, each, ◌>>=◌}

-- ---- the members of ancestors

-- some obligations, and that of a member to what an ancestor declares, if it declares something
abbrev pub with_required : Position → List ℕ → MemberAnswer → List Obligation → Option MemberAnswer → List Obligation
with_required at n got row None = row
with_required at n got row (Some found) = row ++ (required_override at n got (bind_to_instance found) ∷ [])

-- some obligations, and those of a member to what these ancestors declare, in turn
unfoldable pub more_required : Position → List ℕ → MemberAnswer → List Obligation → List Id → Step (List Obligation)
more_required at n got row [] = Done row
more_required at n got row (c ∷ rest) = do
  found ← ancestor_member c n
  more_required at n got (with_required at n got row found) rest

-- a member has to be of the type of that of each ancestor, and the first of which it is not is reported
unfoldable pub overrides_required : Position → List ℕ → MemberAnswer → List Id → Step (Unit {0})
overrides_required at n got ancestors = do
  row ← more_required at n got [] ancestors
  owing row

-- ---- one name

-- a class: its body, the parts of that, the class itself and its ancestors
pub record Subclass : Type 0 where
  pub class : Id
  pub body : ClassBody
  pub parts : List Part
  pub ancestors : List Id

-- a member of the class, by what decides of its name there: a name that the class does not bind requires nothing
abbrev pub own_read : Subclass → List ℕ → MemberAnswer → Option OwnMember → Step (Unit {0})
own_read subclass n got None = Done tt
own_read subclass n got (Some own) = overrides_required (own_place subclass.parts own) n got subclass.ancestors

-- a member of the class, with its type as it is through an instance
abbrev pub seen_read : Subclass → List ℕ → MemberAnswer → Step (Unit {0})
seen_read subclass n got = own_read subclass n got (own_member subclass.body n)

-- what the class itself declares under a name, if anything
abbrev pub declared_read : Subclass → List ℕ → Option MemberAnswer → Step (Unit {0})
declared_read subclass n None = Done tt
declared_read subclass n (Some found) = seen_read subclass n (bind_to_instance found)

unfoldable pub member_read : Subclass → List ℕ → Step (Unit {0})
member_read subclass n = do
  found ← ask_member subclass.class n
  declared_read subclass n (own_declaration subclass.class found)

abbrev pub name_read : Subclass → List ℕ → Step (Unit {0})
name_read subclass n = if is_exempt n then Done tt else member_read subclass n

-- ---- all names

-- the ancestors in the order of a class, which has the class itself first
abbrev pub ancestors_in : List Id → List Id
ancestors_in [] = []
ancestors_in (c ∷ rest) = rest

abbrev pub subclass_read : Subclass → Step (Unit {0})
subclass_read subclass = each (name_read subclass) (bound_names subclass.body)

-- a class whose statements bind this, and that has this order
abbrev pub body_read : Id → ClassBody → Stmts → List Id → Step (Unit {0})
body_read c body statements order =
    subclass_read (record { class = c; body = body; parts = body_parts statements; ancestors = ancestors_in order })

abbrev pub class_read : Id → Stmts → List Id → Step (Unit {0})
class_read c statements order = body_read c (class_body statements) statements order

-- the class of this name of a file: each name that it binds, in turn
unfoldable pub overrides_read : SourceFile → List ℕ → Stmts → List Id → Step (Unit {0})
overrides_read file name statements order = class_read (user file.name name) statements order
