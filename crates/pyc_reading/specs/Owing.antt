-- What is required: that a type is assignable to another, by the orders of the classes that are written in both (typing
-- specification, "Type system concepts").
use Rattle.std.specs.Prelude.{ℕ, Bool, if◌then◌else◌, List, [], ◌∷◌, ◌++◌}
use Rattle.pyc_ast.specs.declared.position.Position.{Position}
use Rattle.pyc_builtins.specs.MroTable.{builtin_orders}
use Rattle.pyc_class_ids.specs.Class.{Id, builtin, user}
use Rattle.pyc_class_ids.specs.Mro.{Mro, MroTable}
use Rattle.pyc_class_table.specs.ClassMros.{undeclared}
use Rattle.pyc_reading.specs.Answers.{Answer, order_is}
use Rattle.pyc_reading.specs.Keys.{Key}
use Rattle.pyc_reading.specs.Keys as key
use Rattle.pyc_report.specs.declared.message.ObligationKind.{ObligationKind}
use Rattle.pyc_report.specs.Message.{Message, failing_at}
use Rattle.pyc_type_forms.specs.Types.{Ty, Tys, Params, Listed, any, none, module_type, instance, class_object}
use Rattle.pyc_type_forms.specs.Types.{list, dict, tuple, tuple_of, union, callable, nil, cons, dots, listed, no_param}
use Rattle.pyc_type_forms.specs.Types.{param}
use Rattle.pyc_types.specs.Ways.{assignable}

-- ---- orders, as answers tell them

-- the order that an answer gives
abbrev pub order_in : Answer → Mro
order_in (order_is found) = found
order_in _ = undeclared

-- the orders of classes: a builtin class has the order that the language gives it, which is asked of no file
abbrev pub orders_by : (Key → Answer) → MroTable
orders_by answers (builtin c) = builtin_orders (builtin c)
orders_by answers (user m x) = order_in (answers (key.class (user m x)))

-- ---- the classes that are written in types

abbrev mutual
  -- the classes that are written in a type, in the order in which they are written
  pub written : Ty → List Id
  written any = []
  written none = []
  written (module_type m) = []
  written (instance c) = c ∷ []
  written (class_object c) = c ∷ []
  written (list x) = written x
  written (dict k v) = written k ++ written v
  written (tuple xs) = row_written xs
  written (tuple_of x) = written x
  written (union xs) = row_written xs
  written (callable ps r) = params_written ps ++ written r

  pub row_written : Tys → List Id
  row_written nil = []
  row_written (cons x xs) = written x ++ row_written xs

  pub params_written : Params → List Id
  params_written dots = []
  params_written (listed ps) = listed_written ps

  pub listed_written : Listed → List Id
  listed_written no_param = []
  listed_written (param slot x ps) = written x ++ listed_written ps

-- the keys that ask the orders of classes: those of builtin classes are known
abbrev pub class_keys : List Id → List Key
class_keys [] = []
class_keys (builtin c ∷ cs) = class_keys cs
class_keys (user m x ∷ cs) = key.class (user m x) ∷ class_keys cs

-- the keys by which it is known whether a type is assignable to another
abbrev pub pair_keys : (got want : Ty) → List Key
pair_keys got want = class_keys (written got ++ written want)

-- ---- obligations

-- a closer reason why an obligation does not hold: that `got` is not assignable to `want`; of an obligation that fails,
-- the first detail that fails gives the text
pub record Detail : Type 0 where
  pub got : Ty
  pub want : Ty
  pub text : List ℕ

-- `got` has to be assignable to `want`: what for, where a failure is reported, and its text where no detail fails
pub record Obligation : Type 0 where
  pub obligation_kind : ObligationKind
  pub at : Position
  pub got : Ty
  pub want : Ty
  pub details : List Detail
  pub text : List ℕ

-- whether an obligation holds
abbrev pub holds : (Key → Answer) → Obligation → Bool
holds answers o = assignable (orders_by answers) o.got o.want

-- the text of the first detail that does not hold, else this one
abbrev pub text_by : MroTable → List Detail → List ℕ → List ℕ
text_by orders [] text = text
text_by orders (d ∷ rest) text = if assignable orders d.got d.want then text_by orders rest text else d.text

-- the message of an obligation that does not hold
abbrev pub message_by : MroTable → Obligation → Message
message_by orders o = failing_at o.at o.obligation_kind (text_by orders o.details o.text)

-- ---- rows of obligations

-- the keys of details, and of an obligation
abbrev pub detail_keys : List Detail → List Key
detail_keys [] = []
detail_keys (d ∷ rest) = pair_keys d.got d.want ++ detail_keys rest

abbrev pub keys_of : Obligation → List Key
keys_of o = pair_keys o.got o.want ++ detail_keys o.details

-- a row of obligations is asked as a whole
abbrev pub row_keys : List Obligation → List Key
row_keys [] = []
row_keys (o ∷ rest) = keys_of o ++ row_keys rest

-- of the obligations of a row that do not hold the first is reported
abbrev pub row_reported : (Key → Answer) → List Obligation → List Message
row_reported answers [] = []
row_reported answers (o ∷ rest) =
    if holds answers o then row_reported answers rest else (message_by (orders_by answers) o ∷ [])
