-- The units of files, each with its number.
use Rattle.std.specs.Prelude.{ℕ, ◌+◌, List, [], ◌∷◌, flat_map}
use Rattle.pyc_names.specs.SourceFiles.{SourceFile}
use Rattle.pyc_units.specs.Units.{Unit}
use Rattle.pyc_units.specs.Units as units

-- a unit of a file: the file, which of its units it is, counted from 0, and what it is
pub record FileUnit : Type 0 where
  pub file : SourceFile
  pub index : ℕ
  pub unit : Unit

-- some units of a file, the first with this number
abbrev pub number_units : SourceFile → ℕ → List Unit → List FileUnit
number_units file from [] = []
number_units file from (unit ∷ more) = record { file = file; index = from; unit = unit } ∷ number_units file
    (from + 1) more

-- the units of a file
abbrev pub file_units : SourceFile → List FileUnit
file_units file = number_units file 0 (units.file_units file.outcome)

-- the units of files, in order
abbrev pub units_of : List SourceFile → List FileUnit
units_of files = flat_map file_units files

-- what names a unit: the path of its file, and its number
pub record UnitId : Type 0 where
  pub path : List ℕ
  pub index : ℕ

abbrev pub id_of : FileUnit → UnitId
id_of unit = record { path = unit.file.path; index = unit.index }
