-- Where a class binds a name (Python reference 3.13, "Assignment statements", "Class definitions"): at the definition
-- that binds it, or at the first target of that name in the statement that binds it.
use Rattle.std.specs.Prelude.{ℕ, Bool, false, ◌&&◌, ◌==◌, bytes_eq, if◌then◌else◌, List, [], ◌∷◌}
use Rattle.std.specs.Prelude.{Option, None, Some, unwrap_or}
use Rattle.std.specs.Option.{option_or}
use Rattle.pyc_ast.specs.declared.position.Position.{Position}
use Rattle.pyc_ast.specs.Statements.{StmtForm, Stmts}
use Rattle.pyc_ast.specs.Statements as plain
use Rattle.pyc_ast.specs.Targets.{Target, target, TargetForm, name, unpacking, TargetElements, no_target}
use Rattle.pyc_ast.specs.Targets.{another_target, target_element}
use Rattle.pyc_bindings.specs.Bindings.{Binding, form_of}
use Rattle.pyc_bindings.specs.Scopes.{Part, PartForm, parts_of}
use Rattle.pyc_bindings.specs.Scopes as part
use Rattle.pyc_members.specs.ClassBodies.{OwnMember, bound, annotated, assigned}

-- ---- targets

-- a position, if it is the one
abbrev pub place_if : Position → Bool → Option Position
place_if at is_it = if is_it then Some at else None

abbrev mutual
  -- where a name stands first in a target, its parentheses included
  pub place_in : Target → List ℕ → Option Position
  place_in (target at inside form) n = place_in_form form at n

  pub place_in_form : TargetForm → Position → List ℕ → Option Position
  place_in_form (name written) at n = place_if at (bytes_eq written n)
  place_in_form (unpacking elements) at n = place_in_elements elements n
  place_in_form _ at n = None

  pub place_in_elements : TargetElements → List ℕ → Option Position
  place_in_elements no_target n = None
  place_in_elements (another_target (target_element is_starred to) rest) n =
      option_or (place_in to n) (place_in_elements rest n)

-- where it stands first among targets
abbrev pub place_in_targets : List Target → List ℕ → Option Position
place_in_targets [] n = None
place_in_targets (to ∷ rest) n = option_or (place_in to n) (place_in_targets rest n)

-- ---- statements

-- where it stands first among the targets of a simple statement
abbrev pub place_in_statement : StmtForm → List ℕ → Option Position
place_in_statement (plain.assign targets value) n = place_in_targets targets n
place_in_statement (plain.annotate found) n = place_in found.target n
place_in_statement (plain.augment found) n = place_in found.target n
place_in_statement (plain.delete to) n = place_in to n
place_in_statement _ n = None

abbrev pub place_in_part : PartForm → List ℕ → Option Position
place_in_part (part.statement found) n = place_in_statement (form_of found) n
place_in_part (part.target to) n = place_in to n
place_in_part (part.caught caught) n = None

-- where a part declares a name, if it is a part of the statement that begins at a position
abbrev pub place_in_part_at : Part → Position → List ℕ → Option Position
place_in_part_at found at n =
    if found.place.at.line == at.line && found.place.at.column == at.column then place_in_part found.form n else None

abbrev pub place_in_parts_at : List Part → Position → List ℕ → Option Position
place_in_parts_at [] at n = None
place_in_parts_at (found ∷ rest) at n = option_or (place_in_part_at found at n) (place_in_parts_at rest at n)

-- ---- what decides of a name

-- where a binding among the parts of a class's body is reported of: at the target that binds the name, else where its
-- statement begins
abbrev pub binding_place : List Part → Binding → Position
binding_place parts b = unwrap_or (place_in_parts_at parts b.place.at b.name) b.place.at

abbrev pub own_place : List Part → OwnMember → Position
own_place parts (bound b) = binding_place parts b
own_place parts (annotated a) = a.at
own_place parts (assigned a) = a.at

-- the parts of a class's body
abbrev pub body_parts : Stmts → List Part
body_parts body = parts_of body false
