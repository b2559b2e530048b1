-- The plain type that one of the code is.
use Rattle.std.specs.Prelude.{List, [], ◌∷◌, map}
use Rattle.pyc_type_forms.specs.declared.types.ParamKind.{ParamKind}
use Rattle.pyc_type_forms.specs.declared.types.ParamKind.TheVariants as kind
use Rattle.pyc_type_forms.specs.declared.types.Param.{Param}
use Rattle.pyc_type_forms.specs.declared.types.Params.{Params as ParamsOf}
use Rattle.pyc_type_forms.specs.declared.types.Params.TheFolds.{fold-Ty, fold-Params, fold-Param, fold-Signature}
use Rattle.pyc_type_forms.specs.declared.types.Params.TheOpen.{Ty-F, Params-F, Param-F, DictTypes-F, Signature-F}
use Rattle.pyc_type_forms.specs.declared.types.Params.TheOpen as layer
use Rattle.pyc_type_forms.specs.declared.types.Signature.{Signature as SignatureOf}
use Rattle.pyc_type_forms.specs.declared.types.Ty.{Ty as TyOf}
use Rattle.pyc_type_forms.specs.Types.{Kind, plain, star, keyword_only, double_star, Slot, Ty, Tys, Params, Listed}
use Rattle.pyc_type_forms.specs.Types.{any, none, module_type, instance, class_object, list, dict, tuple}
use Rattle.pyc_type_forms.specs.Types.{tuple_of, union}
use Rattle.pyc_type_forms.specs.Types.{callable, nil, cons, dots, listed, no_param, param}

-- the kind that a `ParamKind` is
abbrev pub kind_of : ParamKind → Kind
kind_of (kind.Plain name) = plain name
kind_of kind.Star = star
kind_of (kind.KeywordOnly name) = keyword_only name
kind_of kind.DoubleStar = double_star

-- the types of a dictionary's keys and values
pub record DictView : Type 0 where
  pub key : Ty
  pub value : Ty

-- a parameter, apart from how Rust stores it
pub record ParamView : Type 0 where
  pub slot : Slot
  pub ty : Ty

-- a signature, apart from how Rust stores it
pub record SignatureView : Type 0 where
  pub params : Params
  pub result : Ty

-- a row of the types of a list
abbrev pub tys_of : List Ty → Tys
tys_of [] = nil
tys_of (ty ∷ tys) = cons ty (tys_of tys)

-- a row of the parameters of a list
abbrev pub listed_of : List ParamView → Listed
listed_of [] = no_param
listed_of (p ∷ ps) = param p.slot p.ty (listed_of ps)

-- what one layer of the code is, over what its parts are
abbrev pub ty_step : Ty-F Params Ty DictView ParamView SignatureView → Ty
ty_step layer.Any = any
ty_step layer.None = none
ty_step (layer.Module parts) = module_type parts.value.items
ty_step (layer.Instance class) = instance class
ty_step (layer.Class class) = class_object class
ty_step (layer.List item) = list item.value
ty_step (layer.Dict types) = dict types.value.key types.value.value
ty_step (layer.Tuple items) = tuple (tys_of items.value.items)
ty_step (layer.TupleOf item) = tuple_of item.value
ty_step (layer.Union items) = union (tys_of items.value.items)
ty_step (layer.Callable signature) = callable signature.value.params signature.value.result

abbrev pub params_step : Params-F Params Ty DictView ParamView SignatureView → Params
params_step layer.Dots = dots
params_step (layer.Listed params) = listed (listed_of params.items)

abbrev pub dict_step : DictTypes-F Params Ty DictView ParamView SignatureView → DictView
dict_step types = record { key = types.key; value = types.value }

abbrev pub param_step : Param-F Params Ty DictView ParamView SignatureView → ParamView
param_step p = record { slot = record { kind = kind_of p.kind; is_optional = p.is_optional }; ty = p.ty }

abbrev pub signature_step : Signature-F Params Ty DictView ParamView SignatureView → SignatureView
signature_step signature = record { params = signature.params; result = signature.result }

-- the type that a `Ty` is
abbrev pub ty_of : TyOf → Ty
ty_of = fold-Ty Params Ty DictView ParamView SignatureView params_step ty_step dict_step param_step signature_step

-- what a `Params` takes
abbrev pub params_of : ParamsOf → Params
params_of =
    fold-Params Params Ty DictView ParamView SignatureView params_step ty_step dict_step param_step signature_step

-- the parameter that a `Param` is
abbrev pub param_of : Param → ParamView
param_of =
    fold-Param Params Ty DictView ParamView SignatureView params_step ty_step dict_step param_step signature_step

-- what a `Signature` takes and gives
abbrev pub signature_of : SignatureOf → SignatureView
signature_of =
    fold-Signature Params Ty DictView ParamView SignatureView params_step ty_step dict_step param_step signature_step

-- the row of the types of a list of the code
abbrev pub row : List TyOf → Tys
row items = tys_of (map ty_of items)

-- the row of the parameters of a list of the code
abbrev pub param_row : List Param → Listed
param_row params = listed_of (map param_of params)
