-- How a type is written (typing specification, "Type annotations" and "Callables").
use Rattle.std.specs.Prelude.{ℕ, List, [], ◌∷◌, ◌++◌, Bool, true, false, ◌&&◌, if◌then◌else◌, codes}
use Rattle.std.specs.List.{flat_map}
use Rattle.pyc_class_ids.specs.Class.{name_of}
use Rattle.pyc_type_forms.specs.Types.{Kind, plain, star, keyword_only, double_star}
use Rattle.pyc_type_forms.specs.Types.{Ty, Tys, Params, Listed, any, none, module_type, instance, class_object}
use Rattle.pyc_type_forms.specs.Types.{list, dict}
use Rattle.pyc_type_forms.specs.Types.{tuple, tuple_of, union, callable, nil, cons, dots, listed, no_param, param}

-- each text, after the separator
abbrev pub each_after : List ℕ → List (List ℕ) → List ℕ
each_after separator texts = flat_map (λ text. separator ++ text) texts

-- the texts, with the separator between each two
abbrev pub joined : List ℕ → List (List ℕ) → List ℕ
joined separator [] = []
joined separator (text ∷ texts) = text ++ each_after separator texts

-- what stands between the brackets of a tuple of these items
abbrev pub tuple_text : List (List ℕ) → List ℕ
tuple_text [] = codes "()"
tuple_text (text ∷ texts) = joined (codes ", ") (text ∷ texts)

-- whether a parameter of this kind is plain
abbrev pub is_plain : Kind → Bool
is_plain (plain name) = true
is_plain star = false
is_plain (keyword_only name) = false
is_plain double_star = false

-- whether all parameters are plain
abbrev pub are_plain : Listed → Bool
are_plain no_param = true
are_plain (param slot ty params) = is_plain slot.kind && are_plain params

abbrev mutual
  -- the text of a type
  pub text_of : Ty → List ℕ
  text_of any = codes "Any"
  text_of none = codes "None"
  text_of (module_type parts) = codes "Module"
  text_of (instance class) = name_of class
  text_of (class_object class) = codes "type[" ++ (name_of class ++ codes "]")
  text_of (list item) = codes "list[" ++ (text_of item ++ codes "]")
  text_of (dict key value) = codes "dict[" ++ (text_of key ++ (codes ", " ++ (text_of value ++ codes "]")))
  text_of (tuple items) = codes "tuple[" ++ (tuple_text (texts_of items) ++ codes "]")
  text_of (tuple_of item) = codes "tuple[" ++ (text_of item ++ codes ", ...]")
  text_of (union items) = joined (codes " | ") (texts_of items)
  text_of (callable params result) =
      codes "Callable[" ++ (params_text params ++ (codes ", " ++ (text_of result ++ codes "]")))

  -- the text of each type
  pub texts_of : Tys → List (List ℕ)
  texts_of nil = []
  texts_of (cons ty tys) = text_of ty ∷ texts_of tys

  -- the text of what a call takes; parameters that are not all plain are written as any arguments
  pub params_text : Params → List ℕ
  params_text dots = codes "..."
  params_text (listed params) =
      if are_plain params then codes "[" ++ (joined (codes ", ") (param_texts params) ++ codes "]") else codes "..."

  -- the text of each parameter's type
  pub param_texts : Listed → List (List ℕ)
  param_texts no_param = []
  param_texts (param slot ty params) = text_of ty ∷ param_texts params
