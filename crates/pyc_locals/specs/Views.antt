-- The plain locals and points that those of the code are.
use Rattle.std.specs.Prelude.{bytes_eq, option_map}
use Rattle.indexmap.specs.IndexMap.{get_by}
use Rattle.pyc_locals.specs.declared.locals.LocalType.{LocalType as LocalTypeOf}
use Rattle.pyc_locals.specs.declared.locals.LocalType.TheVariants as l
use Rattle.pyc_locals.specs.declared.locals.Locals.{Locals as LocalsOf}
use Rattle.pyc_locals.specs.declared.flow_states.FlowState.{FlowState as FlowStateOf}
use Rattle.pyc_locals.specs.Locals.{LocalType, Locals, undeclared, declared, bound}
use Rattle.pyc_locals.specs.FlowStates.{FlowState}
use Rattle.pyc_places.specs.StateView.{state_of}
use Rattle.pyc_type_forms.specs.TypeView.{ty_of}

abbrev pub local_type_of : LocalTypeOf → LocalType
local_type_of l.Undeclared = undeclared
local_type_of (l.Declared ty) = declared (ty_of ty)
local_type_of (l.Bound ty) = bound (ty_of ty)

abbrev pub locals_in : LocalsOf → Locals
locals_in locals x = option_map local_type_of (get_by (bytes_eq x) locals.types)

abbrev pub flow_state_in : FlowStateOf → FlowState
flow_state_in p = record { locals = locals_in p.locals; state = state_of p.state }
