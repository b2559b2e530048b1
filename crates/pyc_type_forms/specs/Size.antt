-- How large a type is: how many types it is built of, itself among them.
use Rattle.std.specs.Prelude.{ℕ, suc, ◌+◌}
use Rattle.pyc_type_forms.specs.Types.{Ty, Tys, Params, Listed, any, none, module_type, instance, class_object}
use Rattle.pyc_type_forms.specs.Types.{list, dict, tuple, tuple_of, union, callable, nil, cons, dots, listed, no_param}
use Rattle.pyc_type_forms.specs.Types.{param}

abbrev mutual
  -- how many types a type is built of
  pub size : Ty → ℕ
  size any = 1
  size none = 1
  size (module_type m) = 1
  size (instance c) = 1
  size (class_object c) = 1
  size (list x) = suc (size x)
  size (dict k v) = suc (size k + size v)
  size (tuple xs) = suc (row_size xs)
  size (tuple_of x) = suc (size x)
  size (union xs) = suc (row_size xs)
  size (callable ps r) = suc (params_size ps + size r)

  -- how many types those of a row are built of
  pub row_size : Tys → ℕ
  row_size nil = 0
  row_size (cons x xs) = size x + row_size xs

  -- how many types what a call takes is built of
  pub params_size : Params → ℕ
  params_size dots = 0
  params_size (listed ps) = listed_size ps

  -- how many types those of a row of parameters are built of
  pub listed_size : Listed → ℕ
  listed_size no_param = 0
  listed_size (param slot x ps) = size x + listed_size ps
