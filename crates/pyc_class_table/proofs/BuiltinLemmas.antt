-- The builtin classes among all entries: each has its number, and the rule gives it its builtin order.
use Rattle.std.proofs.Common.{◌≡◌, ℕ, suc, ◌+◌, ◌<◌, Bool, true, false, ◌||◌, nat_lt, bytes_eq, List, [], ◌∷◌, length, map, unwrap_or, Option, None, Some, refl, sym, ap, ap₂, ◌∙◌, arith}
use Rattle.std.specs.Cmp.Lexicographic.{pointwise}
use Rattle.std.specs.List.{list_any, slice_get}
use Rattle.std.specs.Option.{option_map_or}
use Rattle.std.proofs.lemmas.List.{length-map}
use Rattle.std.proofs.lemmas.Bool.{and_parts, eqb-true, false≢true, lt-ltb}
use Rattle.std.proofs.lemmas.Slice.Eq.{bytes_eq-Decides, slice_eq-Decides}
use Rattle.pyc_class_ids.specs.declared.builtin_class.BuiltinClass.{BuiltinClass}
use Rattle.pyc_class_ids.specs.declared.builtin_class.BuiltinClass.TheVariants as class
use Rattle.pyc_class_ids.specs.BuiltinClasses.{number_of}
use Rattle.pyc_class_ids.specs.Class.{Id, builtin, user, object_id, same_class}
use Rattle.pyc_class_ids.specs.Mro.{Mro as PlainMro}
use Rattle.pyc_mro.specs.declared.table.Base.{Base}
use Rattle.pyc_mro.specs.declared.table.Base.TheVariants as base
use Rattle.pyc_mro.specs.Merge.{merge}
use Rattle.pyc_mro.specs.MroTable.{known, merged_order, order_of, order_within}
use Rattle.pyc_mro.specs.Tables.{Table, bases_of}
use Rattle.pyc_mro.proofs.DepthLemmas.{has_enough_depth}
use Rattle.pyc_builtins.specs.MroTable.{base_of, builtin_order, builtin_orders}
use Rattle.pyc_class_table.specs.ClassMros.{order_at, order_by}
use Rattle.pyc_class_table.specs.Entries.{Entry, all_entries, builtin_classes, builtin_entry}
use Rattle.pyc_class_table.specs.Numbers.{number_in, id_at, has_call_at, table_of}
use Rattle.pyc_class_table.specs.MroLaws.{BuiltinsFollowTheRule}
use Rattle.pyc_class_table.proofs.NumberLemmas.{number_from-within}

-- the builtin class of a number
abbrev class_at : ℕ → BuiltinClass
class_at n = unwrap_or (slice_get builtin_classes n) class.Object

class_at-number : (b : BuiltinClass) → class_at (number_of b) ≡ b
class_at-number class.Object = refl
class_at-number class.Int = refl
class_at-number class.Float = refl
class_at-number class.Str = refl
class_at-number class.Bytes = refl
class_at-number class.List = refl
class_at-number class.Dict = refl
class_at-number class.Tuple = refl
class_at-number class.BaseException = refl
class_at-number class.Bool = refl
class_at-number class.Exception = refl
class_at-number class.LookupError = refl
class_at-number class.ArithmeticError = refl
class_at-number class.ValueError = refl
class_at-number class.TypeError = refl
class_at-number class.RuntimeError = refl
class_at-number class.AssertionError = refl
class_at-number class.KeyError = refl
class_at-number class.IndexError = refl
class_at-number class.ZeroDivisionError = refl
class_at-number class.OverflowError = refl
class_at-number class.NotImplementedError = refl
class_at-number class.RecursionError = refl

-- classes that are reported to be one are one
pub same_class-is : (a b : Id) → same_class a b ≡ true → a ≡ b
same_class-is (builtin a) (builtin b) same =
    let number : number_of a ≡ number_of b = eqb-true (number_of a) (number_of b) same in
    ap builtin (sym (class_at-number a) ∙ ap class_at number ∙ class_at-number b)
same_class-is (builtin a) (user m n) same = absurd (false≢true same)
same_class-is (user m n) (builtin b) same = absurd (false≢true same)
same_class-is (user m n) (user m' n') same =
    let parts = and_parts (pointwise bytes_eq m m') (bytes_eq n n') same in
    ap₂ user ((slice_eq-Decides bytes_eq-Decides m m' (pointwise bytes_eq m m') refl).0 parts.0)
    ((bytes_eq-Decides n n').0 parts.1)

-- ---- numbers

module _ (declared : List Entry) where
  -- each builtin class has its number
  pub number_in-builtin : (b : BuiltinClass) → number_in (all_entries declared) (builtin b) ≡ Some (number_of b)
  unfolding all_entries
  number_in-builtin class.Object = refl
  number_in-builtin class.Int = refl
  number_in-builtin class.Float = refl
  number_in-builtin class.Str = refl
  number_in-builtin class.Bytes = refl
  number_in-builtin class.List = refl
  number_in-builtin class.Dict = refl
  number_in-builtin class.Tuple = refl
  number_in-builtin class.BaseException = refl
  number_in-builtin class.Bool = refl
  number_in-builtin class.Exception = refl
  number_in-builtin class.LookupError = refl
  number_in-builtin class.ArithmeticError = refl
  number_in-builtin class.ValueError = refl
  number_in-builtin class.TypeError = refl
  number_in-builtin class.RuntimeError = refl
  number_in-builtin class.AssertionError = refl
  number_in-builtin class.KeyError = refl
  number_in-builtin class.IndexError = refl
  number_in-builtin class.ZeroDivisionError = refl
  number_in-builtin class.OverflowError = refl
  number_in-builtin class.NotImplementedError = refl
  number_in-builtin class.RecursionError = refl

  -- and stands at it
  entry_at-number : (b : BuiltinClass) → slice_get (all_entries declared) (number_of b) ≡ Some (builtin_entry b)
  unfolding all_entries
  entry_at-number class.Object = refl
  entry_at-number class.Int = refl
  entry_at-number class.Float = refl
  entry_at-number class.Str = refl
  entry_at-number class.Bytes = refl
  entry_at-number class.List = refl
  entry_at-number class.Dict = refl
  entry_at-number class.Tuple = refl
  entry_at-number class.BaseException = refl
  entry_at-number class.Bool = refl
  entry_at-number class.Exception = refl
  entry_at-number class.LookupError = refl
  entry_at-number class.ArithmeticError = refl
  entry_at-number class.ValueError = refl
  entry_at-number class.TypeError = refl
  entry_at-number class.RuntimeError = refl
  entry_at-number class.AssertionError = refl
  entry_at-number class.KeyError = refl
  entry_at-number class.IndexError = refl
  entry_at-number class.ZeroDivisionError = refl
  entry_at-number class.OverflowError = refl
  entry_at-number class.NotImplementedError = refl
  entry_at-number class.RecursionError = refl

-- ---- orders by number

-- the merge of no orders
nothing_merged : merge ([] ∷ []) ≡ Some []
unfolding merge
nothing_merged = refl

module _ (table : Table) where
  -- the order of a class with one base, whose order is known, where the merge keeps that order
  order-on : (depth c p : ℕ) (row : List ℕ) → p < length table → bases_of table c ≡ base.Class p ∷ []
      → order_within table depth p ≡ Some (known row) → merge (row ∷ (p ∷ []) ∷ []) ≡ Some row
      → order_within table (suc depth) c ≡ Some (known (c ∷ row))
  order-on depth c p row below bases has merged =
      let within : nat_lt p (length table) ≡ true = lt-ltb p (length table) below in
      rw (bases, within, has, merged)

  -- the order of a class without bases
  order-first : (c : ℕ) → bases_of table c ≡ [] → order_within table 1 c ≡ Some (known (c ∷ []))
  order-first c bases = rw bases (ap (λ merged. Some (merged_order c merged)) nothing_merged)

-- ---- the orders of the builtin classes

-- the bases of a builtin class by number
abbrev number_bases : Option BuiltinClass → List Base
number_bases None = []
number_bases (Some b) = base.Class (number_of b) ∷ []

-- the merge of the order of a base and the base keeps the order
merges : (b : BuiltinClass) → merge (map number_of (builtin_order b) ∷ (number_of b ∷ []) ∷ []) ≡ Some (map number_of (builtin_order b))
unfolding merge
merges class.Object = refl
merges class.Int = refl
merges class.Float = refl
merges class.Str = refl
merges class.Bytes = refl
merges class.List = refl
merges class.Dict = refl
merges class.Tuple = refl
merges class.BaseException = refl
merges class.Bool = refl
merges class.Exception = refl
merges class.LookupError = refl
merges class.ArithmeticError = refl
merges class.ValueError = refl
merges class.TypeError = refl
merges class.RuntimeError = refl
merges class.AssertionError = refl
merges class.KeyError = refl
merges class.IndexError = refl
merges class.ZeroDivisionError = refl
merges class.OverflowError = refl
merges class.NotImplementedError = refl
merges class.RecursionError = refl

module _ (declared : List Entry) where
  abbrev table : Table
  table = table_of (all_entries declared)

  number-below : (b : BuiltinClass) → number_of b < length table
  number-below b =
      let among : number_of b < 0 + length (all_entries declared) = number_from-within 0 (number_of b) (all_entries declared) (builtin b) (number_in-builtin declared b) in
      let long : length table ≡ length (all_entries declared) = length-map (all_entries declared) _ in
      omega arith

  bases_at : (b : BuiltinClass) → bases_of table (number_of b) ≡ number_bases (base_of b)
  unfolding all_entries
  bases_at class.Object = refl
  bases_at class.Int = refl
  bases_at class.Float = refl
  bases_at class.Str = refl
  bases_at class.Bytes = refl
  bases_at class.List = refl
  bases_at class.Dict = refl
  bases_at class.Tuple = refl
  bases_at class.BaseException = refl
  bases_at class.Bool = refl
  bases_at class.Exception = refl
  bases_at class.LookupError = refl
  bases_at class.ArithmeticError = refl
  bases_at class.ValueError = refl
  bases_at class.TypeError = refl
  bases_at class.RuntimeError = refl
  bases_at class.AssertionError = refl
  bases_at class.KeyError = refl
  bases_at class.IndexError = refl
  bases_at class.ZeroDivisionError = refl
  bases_at class.OverflowError = refl
  bases_at class.NotImplementedError = refl
  bases_at class.RecursionError = refl

  -- the numbers of the order of a builtin class
  abbrev row : BuiltinClass → List ℕ
  row b = map number_of (builtin_order b)

  step : (depth : ℕ) (b p : BuiltinClass) → base_of b ≡ Some p → builtin_order b ≡ b ∷ builtin_order p
      → order_within table depth (number_of p) ≡ Some (known (row p))
      → order_within table (suc depth) (number_of b) ≡ Some (known (row b))
  step depth b p on order has =
      order-on table depth (number_of b) (number_of p) (row p) (number-below p) (bases_at b ∙ ap number_bases on) has (merges p)
      ∙ ap (λ bs. Some (known (map number_of bs))) (sym order)

  at-Object : order_within table 1 (number_of class.Object) ≡ Some (known (row class.Object))
  at-Object = order-first table 0 (bases_at class.Object)

  at-Int : order_within table 2 (number_of class.Int) ≡ Some (known (row class.Int))
  at-Int = step 1 class.Int class.Object refl refl at-Object

  at-BaseException : order_within table 2 (number_of class.BaseException) ≡ Some (known (row class.BaseException))
  at-BaseException = step 1 class.BaseException class.Object refl refl at-Object

  at-Exception : order_within table 3 (number_of class.Exception) ≡ Some (known (row class.Exception))
  at-Exception = step 2 class.Exception class.BaseException refl refl at-BaseException

  at-LookupError : order_within table 4 (number_of class.LookupError) ≡ Some (known (row class.LookupError))
  at-LookupError = step 3 class.LookupError class.Exception refl refl at-Exception

  at-ArithmeticError : order_within table 4 (number_of class.ArithmeticError) ≡ Some (known (row class.ArithmeticError))
  at-ArithmeticError = step 3 class.ArithmeticError class.Exception refl refl at-Exception

  at-RuntimeError : order_within table 4 (number_of class.RuntimeError) ≡ Some (known (row class.RuntimeError))
  at-RuntimeError = step 3 class.RuntimeError class.Exception refl refl at-Exception

  -- the order of each builtin class is made by going to bases
  made : (b : BuiltinClass) → (depth : ℕ) × (order_within table depth (number_of b) ≡ Some (known (row b)))
  made class.Object = (1, at-Object)
  made class.Int = (2, at-Int)
  made class.Float = (2, step 1 class.Float class.Object refl refl at-Object)
  made class.Str = (2, step 1 class.Str class.Object refl refl at-Object)
  made class.Bytes = (2, step 1 class.Bytes class.Object refl refl at-Object)
  made class.List = (2, step 1 class.List class.Object refl refl at-Object)
  made class.Dict = (2, step 1 class.Dict class.Object refl refl at-Object)
  made class.Tuple = (2, step 1 class.Tuple class.Object refl refl at-Object)
  made class.BaseException = (2, at-BaseException)
  made class.Bool = (3, step 2 class.Bool class.Int refl refl at-Int)
  made class.Exception = (3, at-Exception)
  made class.LookupError = (4, at-LookupError)
  made class.ArithmeticError = (4, at-ArithmeticError)
  made class.ValueError = (4, step 3 class.ValueError class.Exception refl refl at-Exception)
  made class.TypeError = (4, step 3 class.TypeError class.Exception refl refl at-Exception)
  made class.RuntimeError = (4, at-RuntimeError)
  made class.AssertionError = (4, step 3 class.AssertionError class.Exception refl refl at-Exception)
  made class.KeyError = (5, step 4 class.KeyError class.LookupError refl refl at-LookupError)
  made class.IndexError = (5, step 4 class.IndexError class.LookupError refl refl at-LookupError)
  made class.ZeroDivisionError = (5, step 4 class.ZeroDivisionError class.ArithmeticError refl refl at-ArithmeticError)
  made class.OverflowError = (5, step 4 class.OverflowError class.ArithmeticError refl refl at-ArithmeticError)
  made class.NotImplementedError = (5, step 4 class.NotImplementedError class.RuntimeError refl refl at-RuntimeError)
  made class.RecursionError = (5, step 4 class.RecursionError class.RuntimeError refl refl at-RuntimeError)

  order_is : (b : BuiltinClass) → order_of table (number_of b) ≡ known (row b)
  order_is b = has_enough_depth table (made b).0 (number_of b) (known (row b)) (number-below b) (made b).1

  ids : (bs : List BuiltinClass) → map (id_at (all_entries declared)) (map number_of bs) ≡ map builtin bs
  ids [] = refl
  ids (b ∷ bs) = ap₂ (λ (x : Id) (xs : List Id). x ∷ xs) (ap (λ e. option_map_or (λ x. x.id) e object_id) (entry_at-number declared b)) (ids bs)

  no_calls : (bs : List BuiltinClass) → list_any (has_call_at (all_entries declared)) (map number_of bs) ≡ false
  no_calls [] = refl
  no_calls (b ∷ bs) = ap₂ (λ x y. x || y) (ap (λ e. option_map_or (λ x. x.has_call) e false) (entry_at-number declared b)) (no_calls bs)

  rule-builtin : (b : BuiltinClass) → order_at (all_entries declared) (number_in (all_entries declared) (builtin b)) ≡ builtin_orders (builtin b)
  rule-builtin b =
      let order : List Id → Bool → PlainMro = λ classes has_call. record { classes = classes; unknown = None; has_call = has_call } in
      ap (order_at (all_entries declared)) (number_in-builtin declared b)
      ∙ ap (order_by (all_entries declared)) (order_is b)
      ∙ ap₂ order (ids (builtin_order b)) (no_calls (builtin_order b))

-- the builtin classes have their orders by the same rule as the declared ones
pub builtins_follow_the_rule : BuiltinsFollowTheRule
builtins_follow_the_rule declared (builtin b) = sym (rule-builtin declared b)
builtins_follow_the_rule declared (user m n) = refl
