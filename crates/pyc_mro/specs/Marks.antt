-- Marks of the classes that are reached, and which of them are still to be gone on from.
use Rattle.std.specs.Prelude.{ℕ, Bool, true, false, not, ◌&&◌, nat_lt, if◌then◌else◌, List, [], ◌∷◌, ◌++◌, length}
use Rattle.std.specs.Prelude.{slice_index_or, slice_set}

-- whether each class has a mark, and the classes to go on from
pub record Marks : Type 0 where
  pub marks : List Bool
  pub work : List ℕ

-- whether a class has a mark
abbrev pub is_marked : Marks → ℕ → Bool
is_marked m c = slice_index_or m.marks c false

-- a class of the table that has no mark gets one, and is to be gone on from
abbrev pub mark_one : Marks → ℕ → Marks
mark_one m c =
    if nat_lt c (length m.marks) && not (is_marked m c)
    then record { marks = slice_set m.marks c true; work = m.work ++ (c ∷ []) }
    else m

-- some classes get marks
abbrev pub mark_all : List ℕ → Marks → Marks
mark_all [] m = m
mark_all (c ∷ classes) m = mark_all classes (mark_one m c)
