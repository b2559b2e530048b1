-- What stands for files: interfaces that are theirs but for positions, so that they answer each key as the files do.
use Rattle.std.specs.Prelude.{◌≡◌, ℕ, ◌-◌, List, drop, length, map, take}
use Rattle.pyc_interfaces.specs.BareInterfaces.{bare_interface}
use Rattle.pyc_names.specs.Interfaces.{Interface}
use Rattle.pyc_reuse.specs.Places.{bare_of}
use Rattle.pyc_workspace.specs.Workspace.{File}

-- these interfaces are those of these files, but for positions
abbrev pub StandFor : List Interface → List File → Type 0
StandFor interfaces files = ∥ map bare_interface interfaces ≡ map bare_of files ∥₁

-- the files that are present have the interfaces of the last ones, but for positions
abbrev pub AreAlike : (last present : List File) → Type 0
AreAlike last present = ∥ map bare_of last ≡ map bare_of present ∥₁

-- so many of the first of them do
abbrev pub AreAlikeFirst : ℕ → (last present : List File) → Type 0
AreAlikeFirst front last present = AreAlike (take front last) (take front present)

-- so many of the last of them do
abbrev pub AreAlikeLast : ℕ → (last present : List File) → Type 0
AreAlikeLast back last present = AreAlike (drop (length last - back) last) (drop (length present - back) present)
