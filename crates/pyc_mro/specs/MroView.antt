-- The plain orders that those of the code are.
use Rattle.std.specs.Prelude.{ℕ, List, map, unwrap_or}
use Rattle.std.specs.List.{slice_get}
use Rattle.std.specs.declared.alloc.Global.{Global}
use Rattle.std.specs.declared.rc.Rc.{Rc}
use Rattle.pyc_mro.specs.declared.stored.StoredMro.{StoredMro}
use Rattle.pyc_mro.specs.declared.orders.Mro.{Mro as MroOf}
use Rattle.pyc_mro.specs.declared.orders.MroTable.{MroTable}
use Rattle.pyc_mro.specs.MroTable.{Mro, no_order}

-- the plain order that one of the code is
abbrev pub order_in : MroOf → Mro
order_in order = record { classes = order.classes.now; unknown = order.unknown }

-- the plain order that a stored one is
abbrev pub stored_in : StoredMro → Mro
stored_in order = record { classes = order.classes.items; unknown = order.unknown }

-- the order that is stored of a class; what is no class of the table has none
abbrev pub stored_at : List (Rc StoredMro Global) → ℕ → Mro
stored_at orders c = unwrap_or (slice_get (map (λ order. stored_in order.value) orders) c) no_order

-- the order of a class among those of a table
abbrev pub order_at : MroTable → ℕ → Mro
order_at orders c = stored_at orders.orders.items c
