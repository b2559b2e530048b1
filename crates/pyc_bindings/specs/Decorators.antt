-- What the decorators of a function or a class are, reported by their spelling (Python reference 3.13, "Function
-- definitions"; the library reference, "Built-in Functions" and "abc").
use Rattle.std.specs.Prelude.{ℕ, Bool, true, false, ◌&&◌, List, bytes_eq, codes, if◌then◌else◌}
use Rattle.std.specs.List.{list_any}
use Rattle.pyc_ast.specs.Exprs.{Expr, expr}
use Rattle.pyc_ast.specs.Exprs as form
use Rattle.pyc_bindings.specs.declared.decorators.Decorator.{Decorator}
use Rattle.pyc_bindings.specs.declared.decorators.Decorator.TheVariants as decorator

-- the decorator that a name by itself is
abbrev pub named_decorator : List ℕ → Decorator
named_decorator n =
    if bytes_eq n (codes "property") then decorator.Property
    else if bytes_eq n (codes "staticmethod") then decorator.StaticMethod
    else if bytes_eq n (codes "classmethod") then decorator.ClassMethod
    else if bytes_eq n (codes "abstractmethod") then decorator.AbstractMethod
    else decorator.Other

-- the decorator that a name behind another is: `NAME.setter`, or `abc.abstractmethod`
abbrev pub dotted_decorator : List ℕ → List ℕ → Decorator
dotted_decorator before n =
    if bytes_eq n (codes "setter") then decorator.Setter
    else if bytes_eq before (codes "abc") && bytes_eq n (codes "abstractmethod") then decorator.AbstractMethod
    else decorator.Other

-- the decorator that an attribute is: one of a name, else none of those that have a meaning
abbrev pub attribute_decorator : Expr → List ℕ → Decorator
attribute_decorator (expr at inside (form.name before)) n = dotted_decorator before n
attribute_decorator _ n = decorator.Other

-- the decorator that an expression is
unfoldable pub decorator_of : Expr → Decorator
decorator_of (expr at inside (form.name n)) = named_decorator n
decorator_of (expr at inside (form.attribute value n)) = attribute_decorator value n
decorator_of _ = decorator.Other

abbrev pub is_other : Decorator → Bool
is_other decorator.Other = true
is_other _ = false

abbrev pub is_setter : Decorator → Bool
is_setter decorator.Setter = true
is_setter _ = false

-- whether one of these decorators has no meaning here: of what stands under it nothing is known
abbrev pub has_other : List Expr → Bool
has_other decorators = list_any (λ x. is_other (decorator_of x)) decorators

-- whether one of these decorators makes the setter of a property
abbrev pub has_setter : List Expr → Bool
has_setter decorators = list_any (λ x. is_setter (decorator_of x)) decorators
