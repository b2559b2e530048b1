-- The entries of all classes: the builtin ones, and those that files declare (Python reference 3.13, "Class
-- definitions").
use Rattle.std.specs.Prelude.{Bool, false, List, [], ◌∷◌, ◌++◌, map, Option, None, Some}
use Rattle.pyc_class_ids.specs.declared.builtin_class.BuiltinClass.{BuiltinClass}
use Rattle.pyc_class_ids.specs.declared.builtin_class.BuiltinClass.TheVariants as class
use Rattle.pyc_class_ids.specs.Class.{Id, builtin, object_id}
use Rattle.pyc_builtins.specs.MroTable.{base_of}
use Rattle.pyc_class_table.specs.declared.class_entry.WrittenBase.{WrittenBase}
use Rattle.pyc_class_table.specs.declared.class_entry.WrittenBase.TheVariants as written

-- a class as it is declared: its written bases, and whether it has a member `__call__` of its own
pub record Entry : Type 0 where
  pub id : Id
  pub bases : List WrittenBase
  pub has_call : Bool

-- the builtin classes, by their numbers
abbrev pub builtin_classes : List BuiltinClass
builtin_classes =
    class.Object ∷ class.Int ∷ class.Float ∷ class.Str ∷ class.Bytes ∷ class.List ∷ class.Dict ∷ class.Tuple ∷
    class.BaseException ∷ class.Bool ∷ class.Exception ∷ class.LookupError ∷ class.ArithmeticError ∷
    class.ValueError ∷ class.TypeError ∷ class.RuntimeError ∷ class.AssertionError ∷ class.KeyError ∷
    class.IndexError ∷ class.ZeroDivisionError ∷ class.OverflowError ∷ class.NotImplementedError ∷
    class.RecursionError ∷ []

-- the bases of a builtin class
abbrev pub builtin_bases : Option BuiltinClass → List WrittenBase
builtin_bases None = []
builtin_bases (Some base) = written.Class (builtin base) ∷ []

-- a builtin class; none has a member `__call__`
abbrev pub builtin_entry : BuiltinClass → Entry
builtin_entry class = record { id = builtin class; bases = builtin_bases (base_of class); has_call = false }

-- the bases of a declared class: `object`, where none is written
abbrev pub bases_or_object : List WrittenBase → List WrittenBase
bases_or_object [] = written.Class object_id ∷ []
bases_or_object (base ∷ bases) = base ∷ bases

-- a declared class with all its bases
abbrev pub with_object : Entry → Entry
with_object entry = record { id = entry.id; bases = bases_or_object entry.bases; has_call = entry.has_call }

-- the entries of all classes by number: first the builtin ones, then the declared ones as they are listed
unfoldable pub all_entries : List Entry → List Entry
all_entries declared = map builtin_entry builtin_classes ++ map with_object declared
