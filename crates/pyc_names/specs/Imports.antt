-- The module that an import names (Python reference 3.13, "The import system", "Package Relative Imports").
use Rattle.std.specs.Prelude.{ℕ, zero, suc, ◌-◌, Bool, true, false, ◌++◌, nat_le, if◌then◌else◌}
use Rattle.std.specs.Prelude.{List, length, take, Option, None, Some, option_map}

-- a name without so many of its last parts; none where it has fewer
abbrev pub without_last : ℕ → List (List ℕ) → Option (List (List ℕ))
without_last n parts = if nat_le n (length parts) then Some (take (length parts - n) parts) else None

-- how many of the last parts of a module's name an import leaves out: one for each dot after the first, and one more
-- where the module's file is no `__init__.py`
abbrev pub parts_left_out : Bool → ℕ → ℕ
parts_left_out true levels = levels
parts_left_out false levels = suc levels

-- the module that an import names in the file of a module: without dots by its parts alone; else from the package of
-- the file, one level up for each dot after the first, and none above the root, which has no parts
abbrev pub named_module : Bool → List (List ℕ) → ℕ → List (List ℕ) → Option (List (List ℕ))
named_module is_package own zero path = Some path
named_module is_package own (suc levels) path =
    option_map (λ base. base ++ path) (without_last (parts_left_out is_package levels) own)
