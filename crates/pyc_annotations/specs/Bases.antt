-- What the bases of a class are (Python reference 3.13, "Class definitions").
use Rattle.std.specs.Prelude.{ℕ, true, List, [], ◌∷◌, ◌++◌, codes, Option, None, Some}
use Rattle.pyc_annotations.specs.declared.meaning.Role.TheVariants as role
use Rattle.pyc_annotations.specs.Annotations.{dotted_meaning}
use Rattle.pyc_annotations.specs.Meanings.{Meaning, class_meant, any_meant, type_meant, fixed_meant}
use Rattle.pyc_annotations.specs.Meanings.{variable_meant, function_meant}
use Rattle.pyc_ast.specs.declared.expr.ArgumentKind.{ArgumentKind}
use Rattle.pyc_ast.specs.declared.expr.ArgumentKind.TheVariants as argument_kind
use Rattle.pyc_ast.specs.declared.position.Position.{Position}
use Rattle.pyc_ast.specs.Exprs.{Expr, Argument, argument, at_of, inside_of}
use Rattle.pyc_class_ids.specs.Class.{Id}
use Rattle.pyc_messages.specs.Annotations as message
use Rattle.pyc_names.specs.Interfaces.{Interface}
use Rattle.pyc_reading.specs.Traces.{Step}
use Rattle.pyc_reading.specs.Readings.{Done, Report, and_then}
use Rattle.pyc_report.specs.NameTexts.{joined_names}
use Rattle.pyc_type_exprs.specs.TypeExprs.{dotted_names, innermost}

-- what a base is
pub data Base : Type 0 where
  class_base : Id → Base
  -- Any: nothing is known of it
  any_base : Base
  -- a thing that no base is
  no_base : Base

unfoldable pub invalid_base : Position → List ℕ → Step Base
invalid_base at shown = Report (message.invalid_base at shown) (Done no_base)

-- what is reported of a base that is no name
abbrev pub unnamed : List ℕ
unnamed = codes "expression"

-- what a name is as a base: a variable or a function of type Any is Any
unfoldable pub base_of_meaning : Position → List ℕ → Meaning → Step Base
base_of_meaning at names (class_meant c) = Done (class_base c)
base_of_meaning at names any_meant = Done any_base
base_of_meaning at names type_meant = Done any_base
base_of_meaning at names (fixed_meant found) = Done any_base
base_of_meaning at names (variable_meant true) = Done any_base
base_of_meaning at names (function_meant true) = Done any_base
base_of_meaning at names _ = invalid_base at names

-- names joined by dots, or another expression, as a base: where the base begins, and where its names do
abbrev pub written_base : Interface → (at inside : Position) → Option (List (List ℕ)) → Step Base
written_base file at inside (Some names) =
    and_then (dotted_meaning role.Base file inside names) (base_of_meaning at (joined_names names))
written_base file at inside None = invalid_base at unnamed

-- where the names of a base begin: under its subscripts, in its parentheses
abbrev pub names_at : Expr → Position
names_at e = inside_of (innermost e)

-- a base that stands in a file: a subscript on it is ignored
unfoldable pub base : Interface → Expr → Step Base
base file e = written_base file (at_of e) (names_at e) (dotted_names (innermost e))

-- an argument of a class: one by place is a base, one after `*` is none that is known, and one by name is not asked for
abbrev pub argument_base : Interface → Position → ArgumentKind → Expr → Step (Option Base)
argument_base file at argument_kind.Positional e = and_then (base file e) (λ found. Done (Some found))
argument_base file at argument_kind.Starred e = and_then (invalid_base at unnamed) (λ found. Done (Some found))
argument_base file at _ e = Done None

unfoldable pub base_of_argument : Interface → Argument → Step (Option Base)
base_of_argument file (argument at kind e) = argument_base file at kind e

-- some bases, and one more where there is one
abbrev pub with_base : List Base → Option Base → List Base
with_base found (Some more) = found ++ (more ∷ [])
with_base found None = found

-- these bases, and then those of arguments, in turn
unfoldable pub more_bases : Interface → List Base → List Argument → Step (List Base)
more_bases file found [] = Done found
more_bases file found (x ∷ rest) =
    and_then (base_of_argument file x) (λ more. more_bases file (with_base found more) rest)

-- the bases of a class whose arguments are these, in turn
abbrev pub bases : Interface → List Argument → Step (List Base)
bases file arguments = more_bases file [] arguments
