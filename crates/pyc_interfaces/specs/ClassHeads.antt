-- When the heads of the classes of files count alike in the orders of classes.
use Rattle.std.specs.Prelude.{ℕ, Bool, true, false, ◌&&◌, ◌||◌, bytes_eq, codes, is_some, List, [], ◌∷◌, Option, None}
use Rattle.std.specs.Prelude.{Some}
use Rattle.std.specs.Bool.{beq}
use Rattle.std.specs.Cmp.Lexicographic.{pointwise}
use Rattle.std.specs.List.{list_all}
use Rattle.pyc_interfaces.specs.ChangedBetween.{between}
use Rattle.pyc_interfaces.specs.SameExpressions.{same_argument}
use Rattle.pyc_interfaces.specs.SameInterfaces.{same_interface}
use Rattle.pyc_members.specs.ClassBodies.{own_member}
use Rattle.pyc_members.specs.DeclaredClasses.{DeclaredClass}
use Rattle.pyc_names.specs.Interfaces.{Interface, file_of}
use Rattle.pyc_names.specs.ModuleName.{same_module}

-- whether a class has a member `__call__` of its own
abbrev pub has_call : DeclaredClass → Bool
has_call c = is_some (own_member c.body (codes "__call__"))

abbrev pub same_class_head : DeclaredClass → DeclaredClass → Bool
same_class_head c d =
    (bytes_eq c.name d.name && pointwise same_argument c.head.arguments d.head.arguments)
    && beq (has_call c) (has_call d)

-- ---- files

abbrev pub has_none : List DeclaredClass → Bool
has_none [] = true
has_none (c ∷ classes) = false

abbrev pub declares_none : Interface → Bool
declares_none file = has_none file.classes

-- whether a file that is found is this one
abbrev pub is_found_as : Interface → Option Interface → Bool
is_found_as file None = false
is_found_as file (Some found) = same_interface found file

-- whether a file is the one of its module
abbrev pub is_own : List Interface → Interface → Bool
is_own files file = is_found_as file (file_of files file.name)

-- whether both files are those of one module, among files and later ones
abbrev pub are_own : (files others : List Interface) → Interface → Interface → Bool
are_own files others file other =
    (same_module file.name other.name && is_own files file) && is_own others other

abbrev pub same_file_heads : (files others : List Interface) → Interface → Interface → Bool
same_file_heads files others file other =
    (declares_none file && declares_none other)
    || (are_own files others file other && pointwise same_class_head file.classes other.classes)

-- ---- lists of files

abbrev pub same_heads : (files others firsts seconds : List Interface) → Bool
same_heads files others firsts seconds =
    (list_all declares_none firsts && list_all declares_none seconds)
    || pointwise (same_file_heads files others) firsts seconds

-- of the files between, where so many of the first and of the last are in common
abbrev pub same_heads_between : ℕ → ℕ → List Interface → List Interface → Bool
same_heads_between front back files others =
    same_heads files others (between front back files) (between front back others)
