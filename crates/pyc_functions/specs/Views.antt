-- The plain types and obligations that those of the code are.
use Rattle.std.specs.Prelude.{map}
use Rattle.pyc_functions.specs.declared.ends.RequiredEnd.{RequiredEnd}
use Rattle.pyc_functions.specs.declared.functions.HeadTypes.{HeadTypes as HeadTypesOf}
use Rattle.pyc_functions.specs.declared.parameters.RequiredDefault.{RequiredDefault}
use Rattle.pyc_functions.specs.declared.parameters.ParameterType.{ParameterType as ParameterTypeOf}
use Rattle.pyc_functions.specs.Ends.{required_end}
use Rattle.pyc_functions.specs.Functions.{HeadTypes}
use Rattle.pyc_functions.specs.Parameters.{ParameterType, required_default}
use Rattle.pyc_reading.specs.Owing.{Obligation}
use Rattle.pyc_type_forms.specs.TypeView.{ty_of}

-- what a default requires
abbrev pub required_default_in : RequiredDefault → Obligation
required_default_in o = required_default o.at o.name.now (ty_of o.got.now) (ty_of o.want.now)

-- what the end of a function requires
abbrev pub required_end_in : RequiredEnd → Obligation
required_end_in o = required_end o.at (ty_of o.got.now) (ty_of o.want.now)

abbrev pub parameter_type_in : ParameterTypeOf → ParameterType
parameter_type_in p = record { name = p.name.now; ty = ty_of p.ty }

abbrev pub head_types_in : HeadTypesOf → HeadTypes
head_types_in head =
    record { parameters = map parameter_type_in head.parameters.items; result = ty_of head.result }
