-- Where a name is sought (Python reference 3.13, "Resolution of names"): among the locals of the function, then at the
-- top level of the module, then among Python's builtins.
use Rattle.std.specs.Prelude.{ℕ, List, Option, bytes_eq}
use Rattle.std.specs.List.{find}
use Rattle.pyc_names.specs.SourceFiles.{SourceFile}
use Rattle.pyc_type_forms.specs.Types.{Ty}

-- a local of a function: its name, and its type where it was declared before
pub record Local : Type 0 where
  pub name : List ℕ
  pub ty : Option Ty

-- the file in which an expression stands, and the locals of its function
pub record Scope : Type 0 where
  pub file : SourceFile
  pub locals : List Local

-- the local of this name
abbrev pub local_of : List Local → List ℕ → Option Local
local_of locals x = find (λ l. bytes_eq l.name x) locals
