-- The units of a file: its header, the body of its module, its functions and classes, and the methods of its classes
-- (Python reference 3.13, "Function definitions", "Class definitions").
use Rattle.std.specs.Prelude.{ℕ, ◌+◌, false, List, [], ◌∷◌, flat_map, length}
use Rattle.pyc_ast.specs.Modules.{Outcome, tree, fault}
use Rattle.pyc_ast.specs.Statements.{Stmt, stmt, Stmts}
use Rattle.pyc_ast.specs.Statements as plain
use Rattle.pyc_bindings.specs.Scopes.{PartForm, Part, statement, parts_of}

-- a unit of a file
pub data Unit : Type 0 where
  -- its imports and the names that it defines again
  header : Unit
  -- the body of its module
  module_body : Unit
  -- a function or a class of its top level
  definition : Stmt → Unit
  -- a method, after the class in whose body it stands
  method : (class found : Stmt) → Unit

-- a statement in the body of a class, where it is a method
abbrev pub statement_methods : Stmt → Stmt → List Unit
statement_methods class (stmt at (plain.function head body)) = method class (stmt at (plain.function head body)) ∷ []
statement_methods class _ = []

-- a part of a class, where it is a method
abbrev pub part_methods : Stmt → PartForm → List Unit
part_methods class (statement found) = statement_methods class found
part_methods class _ = []

-- the methods of a class that has this block: the functions among its parts
abbrev pub methods_in : Stmt → Stmts → List Unit
methods_in class body = flat_map (λ (part : Part). part_methods class part.form) (parts_of body false)

-- the units that a statement of a module makes: a function, or a class and after it its methods
abbrev pub statement_units : Stmt → List Unit
statement_units (stmt at (plain.function head body)) = definition (stmt at (plain.function head body)) ∷ []
statement_units (stmt at (plain.class head body)) =
    definition (stmt at (plain.class head body)) ∷ methods_in (stmt at (plain.class head body)) body
statement_units _ = []

-- the units that a part of a module makes
abbrev pub units_of : PartForm → List Unit
units_of (statement found) = statement_units found
units_of _ = []

-- the functions, classes and methods among the units of a module, in text order
unfoldable pub unit_definitions : Stmts → List Unit
unit_definitions found = flat_map (λ (part : Part). units_of part.form) (parts_of found false)

-- how many units a file with this outcome has: its header, the body of its module, and its classes, functions and
-- methods; a file with a fault has the header alone
abbrev pub unit_count : Outcome → ℕ
unit_count (tree m) = length (unit_definitions m.statements) + 2
unit_count (fault line text) = 1

-- the units of a file with this outcome, in order
abbrev pub file_units : Outcome → List Unit
file_units (tree m) = header ∷ module_body ∷ unit_definitions m.statements
file_units (fault line text) = header ∷ []
