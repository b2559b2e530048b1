-- When two types are one (typing specification, "Type system concepts": equality by structure).
use Rattle.std.specs.Prelude.{ℕ, List, Bool, true, false, ◌&&◌, bytes_eq, Option, None, Some}
use Rattle.std.specs.Bool.{beq}
use Rattle.std.specs.Cmp.Lexicographic.{pointwise}
use Rattle.pyc_class_ids.specs.Class.{same_class}
use Rattle.pyc_type_forms.specs.TypeView.{ParamView}
use Rattle.pyc_type_forms.specs.Types.{Kind, plain, star, keyword_only, double_star, Slot}
use Rattle.pyc_type_forms.specs.Types.{Ty, Tys, Params, Listed, any, none, module_type, instance, class_object}
use Rattle.pyc_type_forms.specs.Types.{list, dict, tuple, tuple_of, union, callable, nil, cons, dots, listed, no_param}
use Rattle.pyc_type_forms.specs.Types.{param}

-- whether both parameters have one name, or both have none
abbrev pub same_name : Option (List ℕ) → Option (List ℕ) → Bool
same_name (Some name) (Some other) = bytes_eq name other
same_name None None = true
same_name _ _ = false

-- whether two kinds of parameters are one, with their names
abbrev pub same_kind : Kind → Kind → Bool
same_kind (plain name) (plain other) = same_name name other
same_kind star star = true
same_kind (keyword_only name) (keyword_only other) = bytes_eq name other
same_kind double_star double_star = true
same_kind _ _ = false

-- whether two parameters are one apart from their types
abbrev pub same_slot : Slot → Slot → Bool
same_slot slot other = same_kind slot.kind other.kind && beq slot.is_optional other.is_optional

abbrev mutual
  -- whether two types are of one form with the same parts in the same order
  pub same_type : Ty → Ty → Bool
  same_type any any = true
  same_type none none = true
  same_type (module_type m) (module_type n) = pointwise bytes_eq m n
  same_type (instance c) (instance d) = same_class c d
  same_type (class_object c) (class_object d) = same_class c d
  same_type (list x) (list y) = same_type x y
  same_type (dict k v) (dict l w) = same_type k l && same_type v w
  same_type (tuple xs) (tuple ys) = same_types xs ys
  same_type (tuple_of x) (tuple_of y) = same_type x y
  same_type (union xs) (union ys) = same_types xs ys
  same_type (callable ps r) (callable qs s) = same_params ps qs && same_type r s
  same_type _ _ = false

  -- whether two rows are the same types in the same order
  pub same_types : Tys → Tys → Bool
  same_types nil nil = true
  same_types (cons x xs) (cons y ys) = same_type x y && same_types xs ys
  same_types _ _ = false

  -- whether two calls take the same
  pub same_params : Params → Params → Bool
  same_params dots dots = true
  same_params (listed ps) (listed qs) = same_listed ps qs
  same_params _ _ = false

  -- whether two rows are the same parameters in the same order
  pub same_listed : Listed → Listed → Bool
  same_listed no_param no_param = true
  same_listed (param slot x ps) (param other y qs) = (same_slot slot other && same_type x y) && same_listed ps qs
  same_listed _ _ = false

-- whether two parameters are one, with their types
abbrev pub same_param : ParamView → ParamView → Bool
same_param p q = same_slot p.slot q.slot && same_type p.ty q.ty
