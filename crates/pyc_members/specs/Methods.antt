-- The methods of a class, and the name by which each has its instance (Python reference 3.13, "The standard type
-- hierarchy", instance methods; the library reference, "Built-in Functions": property, staticmethod and classmethod).
use Rattle.std.specs.Prelude.{ℕ, Bool, true, false, List, [], ◌∷◌, flat_map, Option, None, Some, if◌then◌else◌}
use Rattle.std.specs.List.{list_any}
use Rattle.pyc_ast.specs.declared.parameter.ParameterKind.{ParameterKind}
use Rattle.pyc_ast.specs.declared.parameter.ParameterKind.TheVariants as parameter
use Rattle.pyc_ast.specs.declared.position.Position.{Position}
use Rattle.pyc_ast.specs.Exprs.{Expr}
use Rattle.pyc_ast.specs.Statements.{FunctionDefinition, Parameter, Stmt, stmt, Stmts}
use Rattle.pyc_ast.specs.Statements as plain
use Rattle.pyc_bindings.specs.declared.decorators.Decorator.{Decorator}
use Rattle.pyc_bindings.specs.declared.decorators.Decorator.TheVariants as decorator
use Rattle.pyc_bindings.specs.Decorators.{decorator_of}
use Rattle.pyc_bindings.specs.Scopes.{Part, PartForm, parts_of}
use Rattle.pyc_bindings.specs.Scopes as part
use Rattle.pyc_members.specs.declared.method.MethodKind.{MethodKind}
use Rattle.pyc_members.specs.declared.method.MethodKind.TheVariants as kind

-- ---- kinds

-- a property is made by `@property`, and by the decorator of its setter
abbrev pub is_property : Decorator → Bool
is_property decorator.Property = true
is_property decorator.Setter = true
is_property _ = false

abbrev pub is_static : Decorator → Bool
is_static decorator.StaticMethod = true
is_static _ = false

abbrev pub is_class : Decorator → Bool
is_class decorator.ClassMethod = true
is_class _ = false

-- whether one of these decorators makes a property
abbrev pub has_property : List Expr → Bool
has_property decorators = list_any (λ x. is_property (decorator_of x)) decorators

-- whether one of these decorators makes a static method
abbrev pub has_static : List Expr → Bool
has_static decorators = list_any (λ x. is_static (decorator_of x)) decorators

-- whether one of these decorators makes a class method
abbrev pub has_class : List Expr → Bool
has_class decorators = list_any (λ x. is_class (decorator_of x)) decorators

-- the kind of a method under these decorators: property decides before static, and static before class
unfoldable pub method_kind : List Expr → MethodKind
method_kind decorators =
    if has_property decorators then kind.Property
    else if has_static decorators then kind.Static
    else if has_class decorators then kind.Class
    else kind.Plain

-- ---- the instance

-- whether a method of this kind is given an instance
abbrev pub has_self : MethodKind → Bool
has_self kind.Property = true
has_self kind.Plain = true
has_self kind.Static = false
has_self kind.Class = false

-- the name of a parameter that an argument at its place fills
abbrev pub name_by_kind : ParameterKind → List ℕ → Option (List ℕ)
name_by_kind parameter.Plain n = Some n
name_by_kind _ n = None

abbrev pub plain_name : Parameter → Option (List ℕ)
plain_name p = name_by_kind p.kind p.name

-- the name of the first of these parameters, where an argument at its place fills it
abbrev pub first_name : List Parameter → Option (List ℕ)
first_name [] = None
first_name (p ∷ rest) = plain_name p

-- the name by which a method has its instance: that of its first parameter
unfoldable pub self_name : FunctionDefinition → Option (List ℕ)
self_name head = if has_self (method_kind head.decorators) then first_name head.parameters else None

-- ---- methods

-- a method: where its definition begins, its head, and the statements of its body
pub record Method : Type 0 where
  pub at : Position
  pub head : FunctionDefinition
  pub body : Stmts

abbrev pub method : Position → FunctionDefinition → Stmts → Method
method at head body = record { at = at; head = head; body = body }

-- the method that a statement of a class's body defines
abbrev pub statement_methods : Stmt → List Method
statement_methods (stmt at (plain.function head body)) = method at head body ∷ []
statement_methods _ = []

-- the method that a part of a class's body is
abbrev pub part_methods : PartForm → List Method
part_methods (part.statement found) = statement_methods found
part_methods _ = []

abbrev pub methods_of_part : Part → List Method
methods_of_part found = part_methods found.form

-- the methods of a class with this body, in text order
unfoldable pub methods_of : Stmts → List Method
methods_of body = flat_map methods_of_part (parts_of body false)
