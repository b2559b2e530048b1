-- The attributes that a class's methods give its instances, in text order: each target `self.x`, where `self` stands
-- for the name by which the method has its instance (Python reference 3.13, "The standard type hierarchy", instance
-- methods, and "Assignment statements"). An augmented assignment and a `del` give none.
use Rattle.std.specs.Prelude.{ℕ, Bool, false, bytes_eq, List, [], ◌∷◌, ◌++◌, flat_map, Option, None, Some}
use Rattle.std.specs.Prelude.{if◌then◌else◌}
use Rattle.pyc_ast.specs.declared.position.Position.{Position}
use Rattle.pyc_ast.specs.Exprs.{Expr, expr}
use Rattle.pyc_ast.specs.Exprs as form
use Rattle.pyc_ast.specs.Statements.{StmtForm, Stmts, FunctionDefinition, AnnotatedAssignment}
use Rattle.pyc_ast.specs.Statements as plain
use Rattle.pyc_ast.specs.Targets.{Target, target, TargetForm, attribute, unpacking, target_element}
use Rattle.pyc_ast.specs.Targets.{TargetElements, no_target, another_target}
use Rattle.pyc_bindings.specs.Bindings.{form_of}
use Rattle.pyc_bindings.specs.Scopes.{Part, PartForm, parts_of}
use Rattle.pyc_bindings.specs.Scopes as part
use Rattle.pyc_members.specs.Methods.{Method, methods_of, self_name}

-- what gives an attribute its type
pub data AttributeForm : Type 0 where
  annotated : AnnotatedAssignment → AttributeForm
  -- the value of an assignment, of which the attribute is a target by itself
  assigned : Expr → AttributeForm
  -- an item of a value, or what a `for` or a `with` assigns
  other : AttributeForm

-- an attribute: its name, where its target begins, its parentheses included, what gives it its type, and the head of
-- the method
pub record SelfAttribute : Type 0 where
  pub name : List ℕ
  pub at : Position
  pub form : AttributeForm
  pub method : FunctionDefinition

-- a method, and the name by which it has its instance
pub record Receiver : Type 0 where
  pub method : FunctionDefinition
  pub name : List ℕ

-- ---- targets

-- whether an expression is this name
abbrev pub is_name : List ℕ → Expr → Bool
is_name n (expr at inside (form.name written)) = bytes_eq written n
is_name n _ = false

-- the attribute of a value as a target, where the value is the instance
abbrev pub self_attribute : Receiver → Position → Expr → List ℕ → AttributeForm → List SelfAttribute
self_attribute me at value n form =
    if is_name me.name value then record { name = n; at = at; form = form; method = me.method } ∷ [] else []

abbrev mutual
  -- the attributes in a target, of which no value is known
  pub target_attributes : Target → Receiver → List SelfAttribute
  target_attributes (target at inside form) me = form_attributes form at me

  pub form_attributes : TargetForm → Position → Receiver → List SelfAttribute
  form_attributes (attribute value n) at me = self_attribute me at value n other
  form_attributes (unpacking elements) at me = elements_attributes elements me
  form_attributes _ at me = []

  pub elements_attributes : TargetElements → Receiver → List SelfAttribute
  elements_attributes no_target me = []
  elements_attributes (another_target (target_element is_starred to) rest) me =
      target_attributes to me ++ elements_attributes rest me

-- the attributes in a target by the form that an attribute by itself has
abbrev pub single_attributes : Receiver → AttributeForm → Target → List SelfAttribute
single_attributes me form (target at inside (attribute value n)) = self_attribute me at value n form
single_attributes me form to = target_attributes to me

-- ---- statements

-- the attributes that a simple statement or a definition gives: an assignment's and an annotated assignment's
abbrev pub statement_attributes : Receiver → StmtForm → List SelfAttribute
statement_attributes me (plain.assign targets value) = flat_map (single_attributes me (assigned value)) targets
statement_attributes me (plain.annotate found) = single_attributes me (annotated found) found.target
statement_attributes me _ = []

-- the attributes that a part of a method's body gives
abbrev pub part_attributes : Receiver → PartForm → List SelfAttribute
part_attributes me (part.statement found) = statement_attributes me (form_of found)
part_attributes me (part.target to) = target_attributes to me
part_attributes me (part.caught n) = []

abbrev pub attributes_of_part : Receiver → Part → List SelfAttribute
attributes_of_part me found = part_attributes me found.form

-- the attributes that a method with these statements gives its instance; nested functions and classes are not opened
abbrev pub scope_attributes : Receiver → Stmts → List SelfAttribute
scope_attributes me statements = flat_map (attributes_of_part me) (parts_of statements false)

-- ---- methods

-- the attributes that a method gives, that has its instance by this name, if it is given one
abbrev pub named_attributes : Option (List ℕ) → Method → List SelfAttribute
named_attributes None found = []
named_attributes (Some n) found = scope_attributes (record { method = found.head; name = n }) found.body

unfoldable pub method_attributes : Method → List SelfAttribute
method_attributes found = named_attributes (self_name found.head) found

-- the attributes that the methods of a class with this body give its instances
unfoldable pub attributes_of : Stmts → List SelfAttribute
attributes_of body = flat_map method_attributes (methods_of body)
