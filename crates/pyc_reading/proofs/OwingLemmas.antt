-- Whether an obligation holds, and what it reports, depends on the answers to its keys alone.
use Rattle.std.proofs.Common.{◌≡◌, ℕ, if◌then◌else◌, List, [], ◌∷◌, ◌++◌, refl, ap}
use Rattle.pyc_class_ids.specs.Class.{Id, builtin, user}
use Rattle.pyc_class_ids.specs.Mro.{MroTable}
use Rattle.pyc_reading.specs.Answers.{Answer}
use Rattle.pyc_reading.specs.Frames.{Agree, nothing_asked, one_more}
use Rattle.pyc_reading.specs.Keys.{Key}
use Rattle.pyc_reading.specs.Owing.{Obligation, Detail, written, row_written, params_written, listed_written, class_keys, pair_keys, detail_keys, keys_of, row_keys, row_reported, text_by, orders_by, order_in}
use Rattle.pyc_report.specs.Message.{failing_at}
use Rattle.pyc_type_forms.specs.Types.{Ty, Tys, Params, Listed, any, none, module_type, instance, class_object, list, dict, tuple, tuple_of, union, callable, nil, cons, dots, listed, no_param, param}
use Rattle.pyc_types.proofs.AgreeLemmas.{agreeing_orders}
use Rattle.pyc_types.specs.Laws.{AgreeOn, AgreeOnRow, AgreeOnParams, AgreeOnListed}
use Rattle.pyc_types.specs.Ways.{assignable}

-- two orders agree on each class of a row
abbrev pub AgreeEach : MroTable → MroTable → List Id → Type 0
AgreeEach o p [] = Unit
AgreeEach o p (c ∷ cs) = (o c ≡ p c) × AgreeEach o p cs

pub each_left : (o p : MroTable) (xs ys : List Id) → AgreeEach o p (xs ++ ys) → AgreeEach o p xs
each_left o p [] ys h = tt
each_left o p (x ∷ xs) ys h = (h.0, each_left o p xs ys h.1)

pub each_right : (o p : MroTable) (xs ys : List Id) → AgreeEach o p (xs ++ ys) → AgreeEach o p ys
each_right o p [] ys h = h
each_right o p (x ∷ xs) ys h = each_right o p xs ys h.1

mutual
  -- orders that agree on the classes that are written in a type agree on it
  agree_on : (o p : MroTable) (t : Ty) → AgreeEach o p (written t) → AgreeOn o p t
  agree_on o p any h = tt
  agree_on o p none h = tt
  agree_on o p (module_type m) h = tt
  agree_on o p (instance c) h = h.0
  agree_on o p (class_object c) h = h.0
  agree_on o p (list x) h = agree_on o p x h
  agree_on o p (dict k v) h = (agree_on o p k (each_left o p (written k) (written v) h), agree_on o p v (each_right o p (written k) (written v) h))
  agree_on o p (tuple xs) h = agree_row o p xs h
  agree_on o p (tuple_of x) h = agree_on o p x h
  agree_on o p (union xs) h = agree_row o p xs h
  agree_on o p (callable ps r) h = (agree_params o p ps (each_left o p (params_written ps) (written r) h), agree_on o p r (each_right o p (params_written ps) (written r) h))

  agree_row : (o p : MroTable) (xs : Tys) → AgreeEach o p (row_written xs) → AgreeOnRow o p xs
  agree_row o p nil h = tt
  agree_row o p (cons x xs) h = (agree_on o p x (each_left o p (written x) (row_written xs) h), agree_row o p xs (each_right o p (written x) (row_written xs) h))

  agree_params : (o p : MroTable) (ps : Params) → AgreeEach o p (params_written ps) → AgreeOnParams o p ps
  agree_params o p dots h = tt
  agree_params o p (listed ps) h = agree_listed o p ps h

  agree_listed : (o p : MroTable) (ps : Listed) → AgreeEach o p (listed_written ps) → AgreeOnListed o p ps
  agree_listed o p no_param h = tt
  agree_listed o p (param slot x ps) h = (agree_on o p x (each_left o p (written x) (listed_written ps) h), agree_listed o p ps (each_right o p (written x) (listed_written ps) h))

-- orders that agree on the classes of two types say alike whether the one is assignable to the other
pub same_assignable : (o p : MroTable) (got want : Ty) → AgreeEach o p (written got ++ written want) → assignable o got want ≡ assignable p got want
same_assignable o p got want h =
    agreeing_orders o p got want (agree_on o p got (each_left o p (written got) (written want) h)) (agree_on o p want (each_right o p (written got) (written want) h))

module _ (answers others : Key → Answer) where
  pub agree_left : (xs ys : List Key) → Agree answers others (xs ++ ys) → Agree answers others xs
  agree_left [] ys h = nothing_asked
  agree_left (x ∷ xs) ys (one_more same h) = one_more same (agree_left xs ys h)

  pub agree_right : (xs ys : List Key) → Agree answers others (xs ++ ys) → Agree answers others ys
  agree_right [] ys h = h
  agree_right (x ∷ xs) ys (one_more same h) = agree_right xs ys h

  agree_each : (cs : List Id) → Agree answers others (class_keys cs) → AgreeEach (orders_by answers) (orders_by others) cs
  agree_each [] h = tt
  agree_each (builtin c ∷ cs) h = (refl, agree_each cs h)
  agree_each (user m x ∷ cs) (one_more same h) = (ap order_in same, agree_each cs h)

  same_pair : (got want : Ty) → Agree answers others (pair_keys got want) → assignable (orders_by answers) got want ≡ assignable (orders_by others) got want
  same_pair got want h = same_assignable (orders_by answers) (orders_by others) got want (agree_each (written got ++ written want) h)

  same_text : (details : List Detail) (text : List ℕ) → Agree answers others (detail_keys details) → text_by (orders_by answers) details text ≡ text_by (orders_by others) details text
  same_text [] text h = refl
  same_text (d ∷ details) text h =
      let first = same_pair d.got d.want (agree_left (pair_keys d.got d.want) (detail_keys details) h) in
      let rest = same_text details text (agree_right (pair_keys d.got d.want) (detail_keys details) h) in
      λ i. if first i then rest i else d.text

  -- what a row reports depends on the answers to its keys alone
  pub same_row : (row : List Obligation) → Agree answers others (row_keys row) → row_reported answers row ≡ row_reported others row
  same_row [] h = refl
  same_row (o ∷ row) h =
      let own = agree_left (keys_of o) (row_keys row) h in
      let first = same_pair o.got o.want (agree_left (pair_keys o.got o.want) (detail_keys o.details) own) in
      let text = same_text o.details o.text (agree_right (pair_keys o.got o.want) (detail_keys o.details) own) in
      let rest = same_row row (agree_right (keys_of o) (row_keys row) h) in
      λ i. if first i then rest i else (failing_at o.at o.obligation_kind (text i) ∷ [])
