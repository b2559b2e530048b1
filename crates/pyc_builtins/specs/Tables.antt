-- Tables by names.
use Rattle.std.specs.Prelude.{ℕ, List, [], ◌∷◌, Option, None, Some, if◌then◌else◌, bytes_eq}

-- what a table has under a name: the first entry of that name
abbrev pub lookup : {V : Type 0} → List (List ℕ × V) → List ℕ → Option V
lookup [] name = None
lookup (entry ∷ table) name = if bytes_eq entry.0 name then Some entry.1 else lookup table name
