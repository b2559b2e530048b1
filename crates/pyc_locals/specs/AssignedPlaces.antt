-- The places that statements assign (Python reference 3.13, "Naming and binding" and "Assignment statements"): names,
-- and attributes of places. An assignment to a place ends what was known of it and of all below it (typing
-- specification, "Type narrowing").
use Rattle.std.specs.Prelude.{ℕ, Bool, false, not, List, [], ◌∷◌, ◌++◌, map, filter, Option, None, Some}
use Rattle.std.specs.List.{flat_map, list_any}
use Rattle.pyc_ast.specs.declared.stmt.Alias.{Alias}
use Rattle.pyc_ast.specs.Exprs.{Expr}
use Rattle.pyc_ast.specs.Statements.{StmtForm, Stmts, Handlers, no_handler, another_handler, handler, ImportedModule}
use Rattle.pyc_ast.specs.Statements as plain
use Rattle.pyc_ast.specs.Targets.{Target, target, TargetForm, unpacking, TargetElements, no_target, another_target}
use Rattle.pyc_ast.specs.Targets.{target_element}
use Rattle.pyc_bindings.specs.Bindings.{bound_name, form_of}
use Rattle.pyc_bindings.specs.Scopes.{Part, PartForm, parts_of}
use Rattle.pyc_bindings.specs.Scopes as part
use Rattle.pyc_places.specs.Places.{Place, is_at_or_below}
use Rattle.pyc_places.specs.States.{State, unreachable, reachable}
use Rattle.pyc_places.specs.TargetPlaces.{target_place}

-- ---- targets

abbrev pub if_place : Option Place → List Place
if_place (Some place) = place ∷ []
if_place None = []

abbrev mutual
  -- the places that a target assigns: itself, or those of the targets to which a value is unpacked
  pub places_in : Target → List Place
  places_in (target at inside form) = form_places (target at inside form) form

  -- a subscript is no place
  pub form_places : Target → TargetForm → List Place
  form_places whole (unpacking elements) = elements_places elements
  form_places whole form = if_place (target_place whole)

  pub elements_places : TargetElements → List Place
  elements_places no_target = []
  elements_places (another_target (target_element is_starred to) rest) = places_in to ++ elements_places rest

-- ---- names

abbrev pub name_places : Option (List ℕ) → List Place
name_places (Some x) = (x ∷ []) ∷ []
name_places None = []

-- the name that the import of a module binds: the one after `as`, else the first part of the module's name
abbrev pub path_places : List (List ℕ) → Option (List ℕ) → List Place
path_places path (Some alias) = (alias ∷ []) ∷ []
path_places (first ∷ rest) None = (first ∷ []) ∷ []
path_places [] None = []

abbrev pub module_places : ImportedModule → List Place
module_places m = path_places m.path m.alias

abbrev pub alias_place : Alias → Place
alias_place found = bound_name found.name found.alias ∷ []

-- ---- statements

-- an annotation without a value assigns nothing
abbrev pub annotated_places : Target → Option Expr → List Place
annotated_places to (Some value) = places_in to
annotated_places to None = []

-- the places that a simple statement or a definition assigns: a function and a class assign their names
abbrev pub statement_places : StmtForm → List Place
statement_places (plain.assign targets value) = flat_map places_in targets
statement_places (plain.annotate found) = annotated_places found.target found.value
statement_places (plain.augment found) = places_in found.target
statement_places (plain.delete to) = places_in to
statement_places (plain.import modules) = flat_map module_places modules
statement_places (plain.import_from from) = map alias_place from.names
statement_places (plain.function head body) = (head.name ∷ []) ∷ []
statement_places (plain.class head body) = (head.name ∷ []) ∷ []
statement_places _ = []

abbrev pub part_places : PartForm → List Place
part_places (part.statement found) = statement_places (form_of found)
part_places (part.target to) = places_in to
part_places (part.caught x) = (x ∷ []) ∷ []

abbrev pub places_of_part : Part → List Place
places_of_part found = part_places found.form

-- the places that the statements of a block assign, those of the blocks in it among them
unfoldable pub assigned_places : Stmts → List Place
assigned_places statements = flat_map places_of_part (parts_of statements false)

-- the places that the handlers of a `try` assign: the names that they bind, and what their blocks assign
abbrev pub handlers_places : Handlers → List Place
handlers_places no_handler = []
handlers_places (another_handler (handler at found name inside) rest) =
    name_places name ++ assigned_places inside ++ handlers_places rest

-- ---- states

-- whether a place is one of these, or below one
abbrev pub is_among : List Place → Place → Bool
is_among places place = list_any (λ upper. is_at_or_below upper place) places

-- a state without what is known of places and of all below them
abbrev pub drop_places : List Place → State → State
drop_places places unreachable = unreachable
drop_places places (reachable narrowings) = reachable (filter (λ n. not (is_among places n.place)) narrowings)
