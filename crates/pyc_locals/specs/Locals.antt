-- The locals of a function (Python reference 3.13, "Naming and binding"), as its statements are read in text order.
use Rattle.std.specs.Prelude.{ℕ, bytes_eq, if◌then◌else◌, List, Option, None, Some, option_map}
use Rattle.std.specs.List.{list_any}
use Rattle.pyc_type_forms.specs.Types.{Ty, any}

-- what is known of a local at a point of its function
pub data LocalType : Type 0 where
  -- nothing before has declared it
  undeclared : LocalType
  -- its type: what is assigned to it must be of it
  declared : Ty → LocalType
  -- an import, a function or a class bound it first: what is assigned to it is not looked at
  bound : Ty → LocalType

-- the type of a local: Any before it is declared
abbrev pub local_type : LocalType → Ty
local_type undeclared = any
local_type (declared ty) = ty
local_type (bound ty) = ty

-- ---- the locals of a function

-- what is known of each name that is a local
abbrev pub Locals : Type 0
Locals = List ℕ → Option LocalType

-- what is known of the local of a name, if the name is one
abbrev pub local_of : Locals → List ℕ → Option LocalType
local_of locals x = locals x

-- a body without locals
abbrev pub no_locals : Locals
no_locals x = None

-- each of these names is a local, which nothing has declared
abbrev pub locals_of_names : List (List ℕ) → Locals
locals_of_names names x = if list_any (λ name. bytes_eq name x) names then Some undeclared else None

-- ---- declarations

-- the first that declares a local stays
abbrev pub first_type : LocalType → LocalType → LocalType
first_type undeclared later = later
first_type earlier later = earlier

-- locals of which the one of a name is declared so, unless it was before; a name that is no local does not become one
abbrev pub with_local : List ℕ → LocalType → Locals → Locals
with_local x ty locals y = if bytes_eq x y then option_map (λ known. first_type known ty) (locals y) else locals y
