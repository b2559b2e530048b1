-- Types as rows of tokens that give them back, so that two proofs that types are one are the same.
use Rattle.std.proofs.Common.{◌≡◌, ◌∙◌, ap, ℕ, List, [], ◌∷◌, refl}
use Rattle.std.specs.Coded.{Coded, code_by, coded_list, codes}
use Rattle.pyc_class_ids.specs.Class.{Id}
use Rattle.pyc_type_forms.specs.Types.{Slot}
use Rattle.pyc_type_forms.specs.Types.{Ty, Tys, Params, Listed, any, none, module_type, instance, class_object}
use Rattle.pyc_type_forms.specs.Types.{list, dict, tuple, tuple_of, union, callable, nil, cons, dots, listed, no_param}
use Rattle.pyc_type_forms.specs.Types.{param}

-- what is written after the parts of a type: the form that they make
pub data Token : Type 0 where
  an_any : Token
  a_none : Token
  a_module : List (List ℕ) → Token
  an_instance : Id → Token
  a_class : Id → Token
  a_list : Token
  a_dict : Token
  a_tuple : Token
  a_tuple_of : Token
  a_union : Token
  a_callable : Token
  no_types : Token
  one_more_type : Token
  any_arguments : Token
  these_parameters : Token
  no_parameters : Token
  one_more_parameter : Slot → Token

-- what was read so far, the last first
data Item : Type 0 where
  a_ty : Ty → Item
  some_tys : Tys → Item
  some_params : Params → Item
  a_row : Listed → Item

abbrev mutual
  -- the tokens of a type, before more
  ty_tokens : Ty → List Token → List Token
  ty_tokens any more = an_any ∷ more
  ty_tokens none more = a_none ∷ more
  ty_tokens (module_type m) more = a_module m ∷ more
  ty_tokens (instance c) more = an_instance c ∷ more
  ty_tokens (class_object c) more = a_class c ∷ more
  ty_tokens (list x) more = ty_tokens x (a_list ∷ more)
  ty_tokens (dict k v) more = ty_tokens k (ty_tokens v (a_dict ∷ more))
  ty_tokens (tuple xs) more = tys_tokens xs (a_tuple ∷ more)
  ty_tokens (tuple_of x) more = ty_tokens x (a_tuple_of ∷ more)
  ty_tokens (union xs) more = tys_tokens xs (a_union ∷ more)
  ty_tokens (callable ps r) more = params_tokens ps (ty_tokens r (a_callable ∷ more))

  tys_tokens : Tys → List Token → List Token
  tys_tokens nil more = no_types ∷ more
  tys_tokens (cons x xs) more = ty_tokens x (tys_tokens xs (one_more_type ∷ more))

  params_tokens : Params → List Token → List Token
  params_tokens dots more = any_arguments ∷ more
  params_tokens (listed ps) more = row_tokens ps (these_parameters ∷ more)

  row_tokens : Listed → List Token → List Token
  row_tokens no_param more = no_parameters ∷ more
  row_tokens (param slot x ps) more = ty_tokens x (row_tokens ps (one_more_parameter slot ∷ more))

-- a token takes the parts that were read last
abbrev take : Token → List Item → List Item
take an_any s = a_ty any ∷ s
take a_none s = a_ty none ∷ s
take (a_module m) s = a_ty (module_type m) ∷ s
take (an_instance c) s = a_ty (instance c) ∷ s
take (a_class c) s = a_ty (class_object c) ∷ s
take a_list (a_ty x ∷ s) = a_ty (list x) ∷ s
take a_dict (a_ty v ∷ a_ty k ∷ s) = a_ty (dict k v) ∷ s
take a_tuple (some_tys xs ∷ s) = a_ty (tuple xs) ∷ s
take a_tuple_of (a_ty x ∷ s) = a_ty (tuple_of x) ∷ s
take a_union (some_tys xs ∷ s) = a_ty (union xs) ∷ s
take a_callable (a_ty r ∷ some_params ps ∷ s) = a_ty (callable ps r) ∷ s
take no_types s = some_tys nil ∷ s
take one_more_type (some_tys xs ∷ a_ty x ∷ s) = some_tys (cons x xs) ∷ s
take any_arguments s = some_params dots ∷ s
take these_parameters (a_row ps ∷ s) = some_params (listed ps) ∷ s
take no_parameters s = a_row no_param ∷ s
take (one_more_parameter slot) (a_row ps ∷ a_ty x ∷ s) = a_row (param slot x ps) ∷ s
take _ s = s

-- what is read of tokens after what was read so far
abbrev read : List Token → List Item → List Item
read [] s = s
read (t ∷ ts) s = read ts (take t s)

mutual
  -- the tokens of a type give it back
  read-ty : (x : Ty) (more : List Token) (s : List Item) → read (ty_tokens x more) s ≡ read more (a_ty x ∷ s)
  read-ty any more s = refl
  read-ty none more s = refl
  read-ty (module_type m) more s = refl
  read-ty (instance c) more s = refl
  read-ty (class_object c) more s = refl
  read-ty (list x) more s = read-ty x (a_list ∷ more) s
  read-ty (dict k v) more s = read-ty k (ty_tokens v (a_dict ∷ more)) s ∙ read-ty v (a_dict ∷ more) (a_ty k ∷ s)
  read-ty (tuple xs) more s = read-tys xs (a_tuple ∷ more) s
  read-ty (tuple_of x) more s = read-ty x (a_tuple_of ∷ more) s
  read-ty (union xs) more s = read-tys xs (a_union ∷ more) s
  read-ty (callable ps r) more s =
      read-params ps (ty_tokens r (a_callable ∷ more)) s ∙ read-ty r (a_callable ∷ more) (some_params ps ∷ s)

  read-tys : (xs : Tys) (more : List Token) (s : List Item) → read (tys_tokens xs more) s ≡ read more (some_tys xs ∷ s)
  read-tys nil more s = refl
  read-tys (cons x xs) more s =
      read-ty x (tys_tokens xs (one_more_type ∷ more)) s ∙ read-tys xs (one_more_type ∷ more) (a_ty x ∷ s)

  read-params : (ps : Params) (more : List Token) (s : List Item)
      → read (params_tokens ps more) s ≡ read more (some_params ps ∷ s)
  read-params dots more s = refl
  read-params (listed ps) more s = read-row ps (these_parameters ∷ more) s

  read-row : (ps : Listed) (more : List Token) (s : List Item) → read (row_tokens ps more) s ≡ read more (a_row ps ∷ s)
  read-row no_param more s = refl
  read-row (param slot x ps) more s =
      read-ty x (row_tokens ps (one_more_parameter slot ∷ more)) s
      ∙ read-row ps (one_more_parameter slot ∷ more) (a_ty x ∷ s)

-- the type that was read last
abbrev last_read : List Item → Ty
last_read (a_ty x ∷ s) = x
last_read _ = any

token_code : Coded Token
token_code = Prim.hlevel codes

-- types are told apart by their tokens
pub ty_code : Coded Ty
ty_code =
    code_by (List Token) (coded_list token_code) (λ x. ty_tokens x []) (λ tokens. last_read (read tokens []))
    (λ x. ap last_read (read-ty x [] []))
