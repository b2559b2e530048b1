-- What the name of a module feeds a hasher: one module feeds the same each time.
use Rattle.std.specs.Prelude.{IsTrue, List, ℕ, ◌≡◌}
use Rattle.std.specs.Hash as fed
use Rattle.std.specs.Hash.{items_Alike, same_Alike}
use Rattle.std.proofs.lemmas.Slice.Eq.{bytes_eq-Decides}
use Rattle.pyc_names.specs.ModuleName.{same_module}

-- the parts of its name
abbrev pub module_input : List (List ℕ) → fed.HashWrites
module_input = fed.slice fed.str

-- one module feeds the same each time
pub same_module_fed : (m n : List (List ℕ)) → IsTrue (same_module m n) → module_input m ≡ module_input n
same_module_fed m n same = (items_Alike (same_Alike fed.str bytes_eq-Decides)).fed m n same
