-- The plain orders that those of the code are.
use Rattle.std.specs.Prelude.{◌≡◌, ℕ, ◌<◌, List, length, map, Option, None, Some, unwrap_or}
use Rattle.std.specs.List.{slice_get}
use Rattle.pyc_class_ids.specs.Class.{Id, builtin, user}
use Rattle.pyc_class_ids.specs.Mro.{Mro, MroTable}
use Rattle.pyc_mro.specs.declared.orders.MroTable.{MroTable as NumberedMros}
use Rattle.pyc_mro.specs.MroView.{order_at}
use Rattle.pyc_builtins.specs.MroTable.{builtin_orders}
use Rattle.pyc_class_table.specs.declared.class_table.ClassTable.{ClassTable}
use Rattle.pyc_class_table.specs.declared.stored_order.StoredMro.{StoredMro}
use Rattle.pyc_class_table.specs.Entries.{Entry}
use Rattle.pyc_class_table.specs.ClassMros.{order_by, undeclared}
use Rattle.pyc_class_table.specs.NumberView.{numbers_in}

-- the plain order that a stored one is
abbrev pub stored_in : StoredMro → Mro
stored_in order = record { classes = order.classes.items; unknown = order.unknown; has_call = order.has_call }

-- the order that is stored of a number, if there is one
abbrev pub stored_at : List StoredMro → Option ℕ → Mro
stored_at orders None = undeclared
stored_at orders (Some n) = unwrap_or (slice_get (map stored_in orders) n) undeclared

-- of each class among entries its order is stored, where these are the orders by number
pub record AreStored (entries : List Entry) (orders : NumberedMros) (stored : List StoredMro) : Type 0 where
  pub count : length stored ≡ length entries
  pub each : (n : ℕ) → n < length entries → stored_at stored (Some n) ≡ order_by entries (order_at orders n)

-- the order of each class, where these are the numbers of classes and the orders that are stored of each number
abbrev pub orders_by : (Id → Option ℕ) → List StoredMro → MroTable
orders_by number_of stored (builtin class) = builtin_orders (builtin class)
orders_by number_of stored (user m n) = stored_at stored (number_of (user m n))

-- the order that a table holds of each class
abbrev pub orders_in : ClassTable → MroTable
orders_in table class = orders_by (numbers_in table.numbers) table.orders.items class
