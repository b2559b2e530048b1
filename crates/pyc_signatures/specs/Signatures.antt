-- The types of functions (typing specification, "Type annotations" and "Callables"; Python reference 3.13, "Function
-- definitions").
use Rattle.std.specs.Prelude.{ℕ, Bool, is_some, if◌then◌else◌, List, [], ◌∷◌, ◌++◌, Option, None, Some}
use Rattle.pyc_annotations.specs.Annotations.{read_type}
use Rattle.pyc_ast.specs.declared.parameter.ParameterKind.{ParameterKind}
use Rattle.pyc_ast.specs.declared.parameter.ParameterKind.TheVariants as parameter
use Rattle.pyc_ast.specs.Exprs.{Expr}
use Rattle.pyc_ast.specs.Statements.{FunctionDefinition, Parameter}
use Rattle.pyc_names.specs.Interfaces.{Interface}
use Rattle.pyc_reading.specs.Traces.{Step}
use Rattle.pyc_reading.specs.Readings.{Done, and_then}
use Rattle.pyc_type_exprs.specs.TypeExprs.{type_expr}
use Rattle.pyc_type_forms.specs.Types.{Ty, Kind, any, callable, listed, plain, star, keyword_only, double_star}
use Rattle.pyc_type_forms.specs.TypeView.{ParamView, listed_of}

-- how a parameter of this kind and name is filled
abbrev pub kind_of : ParameterKind → List ℕ → Kind
kind_of parameter.Plain name = plain (Some name)
kind_of parameter.Star name = star
kind_of parameter.KeywordOnly name = keyword_only name
kind_of parameter.DoubleStar name = double_star

-- a parameter of this type; a call may leave it out where it has a default
abbrev pub param_of_type : Parameter → Ty → ParamView
param_of_type p ty = record { slot = record { kind = kind_of p.kind p.name; is_optional = is_some p.default }; ty = ty }

-- the type that an annotation means; without one it is another
abbrev pub annotated_or : Interface → Ty → Option Expr → Step Ty
annotated_or file other (Some e) = and_then (read_type file (type_expr e)) (λ found. Done found.ty)
annotated_or file other None = Done other

-- the type of a first parameter without annotation: it is what the function is called on, where an argument at its
-- place fills it
abbrev pub first_type : Ty → ParameterKind → Ty
first_type receiver parameter.Plain = receiver
first_type receiver _ = any

-- a parameter, the first of which is what the function is called on
unfoldable pub parameter_reading : Interface → Ty → Parameter → Step ParamView
parameter_reading file receiver p =
    and_then (annotated_or file (first_type receiver p.kind) p.annotation) (λ ty. Done (param_of_type p ty))

-- these parameters, and then others in turn
unfoldable pub more_params : Interface → List ParamView → List Parameter → Step (List ParamView)
more_params file found [] = Done found
more_params file found (p ∷ rest) =
    and_then (parameter_reading file any p) (λ param. more_params file (found ++ (param ∷ [])) rest)

-- all parameters in turn
abbrev pub parameters_reading : Interface → Ty → List Parameter → Step (List ParamView)
parameters_reading file receiver [] = Done []
parameters_reading file receiver (p ∷ rest) =
    and_then (parameter_reading file receiver p) (λ param. more_params file (param ∷ []) rest)

-- the type of a function with this signature: a call of an `async def` is not looked into
abbrev pub function_type_of : Bool → List ParamView → Ty → Ty
function_type_of is_async params result = if is_async then any else callable (listed (listed_of params)) result

-- the type of a function that stands in a file, where what it is called on has a type; Any where it is called on
-- nothing. Its annotations are read in turn, those of its parameters first
unfoldable pub function_type : Interface → Ty → FunctionDefinition → Step Ty
function_type file receiver head =
    and_then (parameters_reading file receiver head.parameters)
    (λ params. and_then (annotated_or file any head.returns) (λ result. Done
    (function_type_of head.is_async params result)))
