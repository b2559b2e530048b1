-- The classes that a file declares (Python reference 3.13, "Class definitions" and "Binding of names").
use Rattle.std.specs.Prelude.{ℕ, Bool, false, ◌&&◌, ◌==◌, List, [], ◌∷◌, flat_map, Option, None, Some, option_map}
use Rattle.std.specs.Prelude.{if◌then◌else◌}
use Rattle.pyc_ast.specs.declared.position.Position.{Position}
use Rattle.pyc_ast.specs.Statements.{StmtForm, Stmts, ClassDefinition}
use Rattle.pyc_ast.specs.Statements as plain
use Rattle.pyc_bindings.specs.Bindings.{Binding, form_of}
use Rattle.pyc_bindings.specs.Redefinitions.{declaration}
use Rattle.pyc_bindings.specs.Scopes.{Part, PartForm, parts_of}
use Rattle.pyc_bindings.specs.Scopes as part
use Rattle.pyc_members.specs.ClassBodies.{ClassBody, class_body}

-- a class that is the declaration of its name: the name, where the statement begins, its head, and what it binds
pub record DeclaredClass : Type 0 where
  pub name : List ℕ
  pub at : Position
  pub head : ClassDefinition
  pub body : ClassBody

-- the class of a class statement at a position
unfoldable pub declared_class : Position → ClassDefinition → Stmts → DeclaredClass
declared_class at head body = record { name = head.name; at = at; head = head; body = class_body body }

-- the position of a name's declaration, its first binding
abbrev pub first_place : List Binding → List ℕ → Option Position
first_place bindings n = option_map (λ b. b.place.at) (declaration bindings n)

-- whether a position is there, and is this one
abbrev pub stands_at : Option Position → Position → Bool
stands_at None at = false
stands_at (Some place) at = place.line == at.line && place.column == at.column

-- the class that a statement declares, where each name is bound first at such a position: a class statement that is the
-- declaration of its name
abbrev pub statement_classes : (List ℕ → Option Position) → Position → StmtForm → List DeclaredClass
statement_classes place_of at (plain.class head body) =
    if stands_at (place_of head.name) at then declared_class at head body ∷ [] else []
statement_classes place_of at _ = []

-- the class that a part of a scope declares
abbrev pub part_classes : (List ℕ → Option Position) → Position → PartForm → List DeclaredClass
part_classes place_of at (part.statement found) = statement_classes place_of at (form_of found)
part_classes place_of at _ = []

abbrev pub classes_of_part : (List ℕ → Option Position) → Part → List DeclaredClass
classes_of_part place_of found = part_classes place_of found.place.at found.form

-- the classes among these statements that are the declarations of their names among these bindings, in text order
unfoldable pub declared_classes : List Binding → Stmts → List DeclaredClass
declared_classes bindings statements = flat_map (classes_of_part (first_place bindings)) (parts_of statements false)
