-- The order of each class: the class itself, then its ancestors in method resolution order (Python reference 3.13,
-- "Data model", `type.__mro__`).
use Rattle.std.specs.Prelude.{ℕ, false, List, [], map, Option, None, Some}
use Rattle.std.specs.List.{list_any}
use Rattle.pyc_class_ids.specs.declared.order.UnknownMro.TheVariants as unknown
use Rattle.pyc_class_ids.specs.Class.{builtin, user}
use Rattle.pyc_class_ids.specs.Mro.{Mro, MroTable}
use Rattle.pyc_mro.specs.MroTable.{Mro as NumberedMro, order_of}
use Rattle.pyc_builtins.specs.MroTable.{builtin_orders}
use Rattle.pyc_class_table.specs.Entries.{Entry, all_entries}
use Rattle.pyc_class_table.specs.Numbers.{number_in, id_at, has_call_at, table_of}

-- an order by number as one of classes: an instance can be called where a class of the order has a member `__call__`
-- of its own
abbrev pub order_by : List Entry → NumberedMro → Mro
order_by entries order =
    record {
      classes = map (id_at entries) order.classes;
      unknown = order.unknown;
      has_call = list_any (has_call_at entries) order.classes;
    }

-- the order of a class that no file declares
abbrev pub undeclared : Mro
undeclared = record { classes = []; unknown = Some unknown.Base; has_call = false }

-- the order of the class that has a number among these, if it has one
abbrev pub order_at : List Entry → Option ℕ → Mro
order_at entries None = undeclared
order_at entries (Some n) = order_by entries (order_of (table_of entries) n)

-- the order of each class, where these are declared
abbrev pub orders_of : List Entry → MroTable
orders_of declared (builtin class) = builtin_orders (builtin class)
orders_of declared (user m n) = order_at (all_entries declared) (number_in (all_entries declared) (user m n))
