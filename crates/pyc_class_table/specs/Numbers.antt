-- Classes by number: the place of each among all entries.
use Rattle.std.specs.Prelude.{ℕ, Bool, false, List, map, Option, Some}
use Rattle.std.specs.List.{position_from, slice_get}
use Rattle.std.specs.Option.{option_map_or}
use Rattle.pyc_class_ids.specs.declared.class_id.InstanceForm.{InstanceForm}
use Rattle.pyc_class_ids.specs.declared.class_id.InstanceForm.TheVariants as form
use Rattle.pyc_class_ids.specs.Class.{Id, object_id, same_class, form_of}
use Rattle.pyc_mro.specs.declared.table.Base.{Base}
use Rattle.pyc_mro.specs.declared.table.Base.TheVariants as base
use Rattle.pyc_mro.specs.Tables.{Table}
use Rattle.pyc_class_table.specs.declared.class_entry.WrittenBase.{WrittenBase}
use Rattle.pyc_class_table.specs.declared.class_entry.WrittenBase.TheVariants as written
use Rattle.pyc_class_table.specs.Entries.{Entry}

-- the number of a class: the place of the first entry that is its own
abbrev pub number_in : List Entry → Id → Option ℕ
number_in entries class = position_from (λ entry. same_class entry.id class) 0 entries

-- the class of a number; what is no number of a class counts as `object`
abbrev pub id_at : List Entry → ℕ → Id
id_at entries n = option_map_or (λ entry. entry.id) (slice_get entries n) object_id

-- whether the class of a number has a member `__call__` of its own
abbrev pub has_call_at : List Entry → ℕ → Bool
has_call_at entries n = option_map_or (λ entry. entry.has_call) (slice_get entries n) false

-- ---- bases by number

-- a class as a base, by the form of its instances and its number: of list, dict and tuple, whose instances have a form
-- of their own, and of a class without number nothing is known
abbrev pub base_by : InstanceForm → Option ℕ → Base
base_by form.Plain (Some n) = base.Class n
base_by _ _ = base.Unknown

-- a base by number
abbrev pub numbered_base : (Id → Option ℕ) → WrittenBase → Base
numbered_base number_of (written.Class class) = base_by (form_of class) (number_of class)
numbered_base number_of written.Unknown = base.Unknown

-- the bases of each class by number
abbrev pub numbered_table : (Id → Option ℕ) → List Entry → Table
numbered_table number_of entries = map (λ entry. map (numbered_base number_of) entry.bases) entries

-- the table of the bases of these classes
abbrev pub table_of : List Entry → Table
table_of entries = numbered_table (number_in entries) entries
