-- The arguments of a call (Python reference 3.13, "Calls").
use Rattle.std.specs.Prelude.{ℕ, Bool, true, false, List, [], ◌∷◌, ◌++◌, Option, None}
use Rattle.pyc_ast.specs.declared.expr.ArgumentKind.{ArgumentKind}
use Rattle.pyc_ast.specs.declared.expr.ArgumentKind.TheVariants as kind
use Rattle.pyc_ast.specs.declared.position.Position.{Position}
use Rattle.pyc_ast.specs.Exprs.{Expr, Argument, argument}
use Rattle.pyc_matching.specs.Matching.{Given, by_place, by_name}
use Rattle.pyc_reading.specs.Traces.{Step}
use Rattle.pyc_reading.specs.Readings.{Done, and_then}
use Rattle.pyc_type_forms.specs.Types.{Ty}

-- how a part of an expression is read, with the type that is expected of it, if one is
abbrev pub Reads : Type 0
Reads = Expr → Option Ty → Step Ty

-- an argument of a call: where it begins, how it is given, and how it is read, with the type that is expected of it, if
-- one is
pub record Arg : Type 0 where
  pub at : Position
  pub kind : ArgumentKind
  pub got : Option Ty → Step Ty

-- an argument that is to be read
abbrev pub unread : Reads → Argument → Arg
unread read (argument at kind x) = record { at = at; kind = kind; got = read x }

-- an argument that was read, and is of this type
abbrev pub read_before : Position → ArgumentKind → Ty → Arg
read_before at kind ty = record { at = at; kind = kind; got = λ want. Done ty }

-- whether an argument of this kind stands after `*` or `**`
abbrev pub is_unpacked : ArgumentKind → Bool
is_unpacked kind.Starred = true
is_unpacked kind.DoubleStarred = true
is_unpacked _ = false

-- how an argument of this kind is given, if it does not stand after `*` or `**`
abbrev pub given_by : ArgumentKind → Given
given_by (kind.Keyword name) = by_name name
given_by _ = by_place

-- how many places it takes
abbrev pub places_of : Given → ℕ
places_of by_place = 1
places_of (by_name name) = 0

-- to read arguments of which nothing is expected, in turn
unfoldable pub all_read : List Arg → Step (Unit {0})
all_read [] = Done tt
all_read (x ∷ xs) = and_then (x.got None) (λ ty. all_read xs)

-- an argument that is read, and is of this type from then on
abbrev pub once_read : Arg → Ty → Arg
once_read x ty = read_before x.at x.kind ty

-- these arguments, and then others that are read, nothing being expected of them
unfoldable pub more_read : List Arg → List Arg → Step (List Arg)
more_read before [] = Done before
more_read before (x ∷ xs) = and_then (x.got None) (λ ty. more_read (before ++ (once_read x ty ∷ [])) xs)

-- arguments that are read once, nothing being expected of them: each is of the type that it then has
abbrev pub read_once : List Arg → Step (List Arg)
read_once args = more_read [] args
