-- The parts of a scope in text order: its simple statements and its definitions, what its `for` and `with` assign to
-- and the names that its `except` bind, with the blocks of `if`, `for`, `while`, `try` and `with` opened. A function
-- and a class are scopes of their own (Python reference 3.13, "Naming and binding").
use Rattle.std.specs.Prelude.{ℕ, Bool, true, List, [], ◌∷◌, ◌++◌, flat_map, Option, None, Some}
use Rattle.pyc_ast.specs.declared.position.Position.{Position}
use Rattle.pyc_ast.specs.Statements.{Stmt, stmt, Stmts, no_stmt, another_stmt, if_else, while, for, try, with, branch}
use Rattle.pyc_ast.specs.Statements.{Branches, no_branch, another_branch, handler, Handlers, no_handler}
use Rattle.pyc_ast.specs.Statements.{another_handler, WithItem}
use Rattle.pyc_ast.specs.Targets.{Target}
use Rattle.pyc_bindings.specs.declared.place.BindingSite.{BindingSite}

-- what a part of a scope is
pub data PartForm : Type 0 where
  -- a simple statement or a definition
  statement : Stmt → PartForm
  -- what a `for` or a `with` assigns to
  target : Target → PartForm
  -- the name that an `except` binds
  caught : List ℕ → PartForm

-- a part of a scope, and where it stands
pub record Part : Type 0 where
  pub place : BindingSite
  pub form : PartForm

-- where a part stands that begins at a position; it is guarded inside an `if` or a `try`
abbrev pub placed : Position → Bool → BindingSite
placed at is_guarded = record { at = at; is_guarded = is_guarded }

abbrev pub part : Position → Bool → PartForm → Part
part at is_guarded form = record { place = placed at is_guarded; form = form }

-- what an item of a `with` assigns to
abbrev pub target_parts : Position → Bool → Option Target → List Part
target_parts at is_guarded None = []
target_parts at is_guarded (Some to) = part at is_guarded (target to) ∷ []

abbrev pub item_parts : Position → Bool → WithItem → List Part
item_parts at is_guarded item = target_parts at is_guarded item.target

-- the name that an `except` binds
abbrev pub name_parts : Position → Option (List ℕ) → List Part
name_parts at None = []
name_parts at (Some name) = part at true (caught name) ∷ []

abbrev mutual
  -- the parts of a scope that has these statements
  pub parts_of : Stmts → Bool → List Part
  parts_of no_stmt is_guarded = []
  parts_of (another_stmt found rest) is_guarded = statement_parts found is_guarded ++ parts_of rest is_guarded

  -- the blocks of a compound statement are opened, in text order; a definition or a simple statement is one part
  pub statement_parts : Stmt → Bool → List Part
  statement_parts (stmt at (if_else branches orelse)) is_guarded = branches_parts branches ++ parts_of orelse true
  statement_parts (stmt at (while test body orelse)) is_guarded = parts_of body is_guarded ++ parts_of orelse is_guarded
  statement_parts (stmt at (for head body orelse)) is_guarded =
      part at is_guarded (target head.target) ∷ parts_of body is_guarded ++ parts_of orelse is_guarded
  statement_parts (stmt at (try body handlers orelse finally)) is_guarded =
      parts_of body true ++ handlers_parts handlers ++ parts_of orelse true ++ parts_of finally true
  statement_parts (stmt at (with is_async items body)) is_guarded =
      flat_map (item_parts at is_guarded) items ++ parts_of body is_guarded
  statement_parts (stmt at form) is_guarded = part at is_guarded (statement (stmt at form)) ∷ []

  -- the parts of the blocks of `if` and each `elif`
  pub branches_parts : Branches → List Part
  branches_parts no_branch = []
  branches_parts (another_branch (branch at test body) rest) = parts_of body true ++ branches_parts rest

  -- the parts of each `except`: the name that it binds, and its block
  pub handlers_parts : Handlers → List Part
  handlers_parts no_handler = []
  handlers_parts (another_handler (handler at found name body) rest) =
      name_parts at name ++ parts_of body true ++ handlers_parts rest
