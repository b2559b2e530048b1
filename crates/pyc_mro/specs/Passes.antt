-- The orders that are made so far, pass by pass.
use Rattle.std.specs.Prelude.{◌≡◌, ℕ, ◌<◌, Bool, false, if◌then◌else◌, List, length, map, Option, None, Some}
use Rattle.std.specs.Prelude.{option_map, unwrap_or}
use Rattle.std.specs.List.{slice_get}
use Rattle.std.specs.Option.{option_or}
use Rattle.std.specs.declared.alloc.Global.{Global}
use Rattle.std.specs.declared.rc.Rc.{Rc}
use Rattle.pyc_class_ids.specs.declared.order.UnknownMro.TheVariants as unknown
use Rattle.pyc_mro.specs.declared.stored.StoredMro.{StoredMro}
use Rattle.pyc_mro.specs.declared.table.Base.{Base}
use Rattle.pyc_mro.specs.MroTable.{Mro, unknown_of, next_order, order_within}
use Rattle.pyc_mro.specs.MroView.{stored_in}
use Rattle.pyc_mro.specs.Tables.{Table, bases_of, is_own_ancestor}

-- the orders that are made of the classes of a table, each of which may have none
abbrev pub MadeMros : Type 0
MadeMros = List (Option (Rc StoredMro Global))

-- the plain order that a made one is, if there is one
abbrev pub made_in : Option (Rc StoredMro Global) → Option Mro
made_in made = option_map (λ order. stored_in order.value) made

-- the order that is made of a class, if there is one
abbrev pub made_at : MadeMros → ℕ → Option Mro
made_at orders c = unwrap_or (slice_get (map made_in orders) c) None

-- the order that a class has, or else the one that it gets by those of its bases, if each has one
abbrev pub kept_or_next : MadeMros → ℕ → List Base → Option Mro
kept_or_next made c bases = option_or (made_at made c) (next_order (length made) (made_at made) c bases)

-- each class has the order that it has by going to bases at most so many times
pub record AreMade (table : Table) (depth : ℕ) (made : MadeMros) : Type 0 where
  pub count : length made ≡ length table
  pub each : (c : ℕ) → c < length table → made_at made c ≡ order_within table depth c

-- a pass over the orders that are made: each class keeps its own or gets its next, and where none is new, all are what
-- they were
pub record IsNextPass (table : Table) (made next : MadeMros) (has_new : Bool) : Type 0 where
  pub count : length next ≡ length made
  pub each : (c : ℕ) → c < length made → made_at next c ≡ kept_or_next made c (bases_of table c)
  pub same : has_new ≡ false → (c : ℕ) → c < length made → made_at next c ≡ made_at made c

-- the order of a class of the table, by the one that is made of those of its bases, if there is one
abbrev pub settled_order : Table → ℕ → Option Mro → Mro
settled_order table c (Some order) = order
settled_order table c None = unknown_of c (if is_own_ancestor table c then unknown.Cycle else unknown.Base)
