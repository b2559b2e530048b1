use Rattle.std.proofs.lemmas.Grind.{common_steps}
use Rattle.std.proofs.Common.{◌≡◌, ℕ, ◌<◌, List, length, map, Option, None, Some, refl, sym, ap, ◌∙◌, subst, arith, rules}
use Rattle.pyc_class_ids.specs.Class.{Id, builtin, user}
use Rattle.pyc_mro.specs.declared.orders.MroTable.{MroTable as NumberedMros}
use Rattle.pyc_mro.specs.MroTable.{order_of}
use Rattle.pyc_mro.specs.MroView.{order_at as order_in}
use Rattle.pyc_mro.specs.Tables.{Table}
use Rattle.pyc_mro.specs.TableView.{table_in}
use Rattle.pyc_class_table.specs.declared.stored_order.StoredMro.{StoredMro}
use Rattle.pyc_class_table.specs.ClassMros.{order_at, order_by, orders_of}
use Rattle.pyc_class_table.specs.Entries.{Entry, all_entries}
use Rattle.pyc_class_table.specs.EntryView.{entry_in}
use Rattle.pyc_class_table.specs.Numbers.{number_in, numbered_table, table_of}
use Rattle.pyc_class_table.specs.NumberView.{numbers_in}
use Rattle.pyc_class_table.specs.MroView.{AreStored, orders_by, stored_at}
use Rattle.pyc_class_table.proofs.NumberLemmas.{number_from-within}
use Rattle.pyc_class_table.proofs.class_table.ClassTable.build.Goals as goal

-- what is stored of a number is the order that it has
stored_is : (entries : List Entry) (orders : NumberedMros) (stored : List StoredMro) → AreStored entries orders stored
    → ((k : ℕ) → order_in orders k ≡ order_of (table_of entries) k) → (number : Option ℕ)
    → ((k : ℕ) → number ≡ Some k → k < length entries) → stored_at stored number ≡ order_at entries number
stored_is entries orders stored are by None within = refl
stored_is entries orders stored are by (Some k) within = are.each k (within k refl) ∙ ap (order_by entries) (by k)

-- the orders that are stored are those of the declared classes
orders_are : (number_of : Id → Option ℕ) (orders : NumberedMros) (stored : List StoredMro) (numbered : Table)
    (declared entries : List Entry) → entries ≡ all_entries declared → number_of ≡ number_in entries
    → numbered ≡ numbered_table number_of entries → ((k : ℕ) → order_in orders k ≡ order_of numbered k)
    → AreStored entries orders stored → (class : Id) → orders_by number_of stored class ≡ orders_of declared class
orders_are number_of orders stored numbered declared entries all numbers rows by are (builtin class) = refl
orders_are number_of orders stored numbered declared entries all numbers rows by are (user m n) =
    let is : numbered ≡ table_of entries = rows ∙ ap (λ f. numbered_table f entries) numbers in
    let number = number_in entries (user m n) in
    ap (λ f. stored_at stored (f (user m n))) numbers
    ∙ stored_is entries orders stored are (λ k. by k ∙ ap (λ t. order_of t k) is) number
    (λ k found. let below = number_from-within 0 k entries (user m n) found in omega arith)
    ∙ ap (λ es. order_at es (number_in es (user m n))) all

pub returns : goal.returns
returns c =
    let declared = map entry_in c.args.declared.items in
    let entries = map entry_in c.in_ok-entries.entries.items in
    let stored = c.in_ok-stored_orders.field-0.items in
    let number_of = numbers_in c.in_ok-numbers.numbers in
    let seen = ap (map entry_in) c.deref.ensures.value in
    let seen_again = ap (map entry_in) c.deref-2.ensures.value in
    let seen_last = ap (map entry_in) c.deref-4.ensures.value in
    let are = orders_are number_of c.in_ok-orders.orders stored (table_in c.in_ok-table.table.items) declared entries
    c.in_ok-entries.ensures (c.in_ok-numbers.ensures ∙ ap number_in seen)
    (c.in_ok-table.ensures ∙ ap (numbered_table number_of) seen_again)
    (λ k. c.in_ok-orders.ensures k ∙ ap (λ t. order_of (table_in t) k) c.deref-3.ensures.value)
    (subst (λ es. AreStored es c.in_ok-orders.orders stored) seen_last c.in_ok-stored_orders.ensures) in
    subst (λ f. (class : Id) → orders_by f stored class ≡ orders_of declared class)
    (sym (ap numbers_in c.numbers.view_is)) are

pub returns-in_err-builtins : goal.returns-in_err-builtins
returns-in_err-builtins c = first_of (grind (arith, common_steps), search rules)

pub returns-in_err-entries : goal.returns-in_err-entries
returns-in_err-entries c = first_of (grind (arith, common_steps), search rules)

pub returns-in_err-numbers : goal.returns-in_err-numbers
returns-in_err-numbers c = first_of (grind (arith, common_steps), search rules)

pub returns-in_err-orders : goal.returns-in_err-orders
returns-in_err-orders c = first_of (grind (arith, common_steps), search rules)

pub returns-in_err-stored_orders : goal.returns-in_err-stored_orders
returns-in_err-stored_orders c = first_of (grind (arith, common_steps), search rules)

pub returns-in_err-table : goal.returns-in_err-table
returns-in_err-table c = first_of (grind (arith, common_steps), search rules)
