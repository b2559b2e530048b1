-- The parameters of the code apart from their types.
use Rattle.std.specs.Prelude.{List, map}
use Rattle.pyc_type_forms.specs.declared.types.Param.{Param}
use Rattle.pyc_type_forms.specs.Types.{Slot}
use Rattle.pyc_type_forms.specs.TypeView.{param_of}

-- a parameter apart from its type
abbrev pub slot_of : Param → Slot
slot_of p = (param_of p).slot

-- the parameters of a list apart from their types
abbrev pub slots_in : List Param → List Slot
slots_in params = map slot_of params
