-- The parameters of a method against those of the method that it overrides (typing specification, "Callables",
-- "Assignability rules for callables": parameters go the other way round).
use Rattle.std.specs.Prelude.{ℕ, zero, suc, ◌+◌, Bool, true, false, not, ◌&&◌, if◌then◌else◌, List, [], ◌∷◌, ◌++◌}
use Rattle.std.specs.Prelude.{Option, None, Some}
use Rattle.std.specs.Option.{option_or}
use Rattle.pyc_class_ids.specs.Mro.{MroTable}
use Rattle.pyc_overrides.specs.Messages.{Override, required_argument_text}
use Rattle.pyc_reading.specs.Owing.{Detail}
use Rattle.pyc_type_forms.specs.Types.{Kind, plain, star, Slot, Ty, Params, Listed, listed, no_param, param}
use Rattle.pyc_types.specs.Ways.{assignable}

-- ---- the parameter at a place

-- whether an argument at its place fills a parameter of this kind
abbrev pub is_plain : Kind → Bool
is_plain (plain name) = true
is_plain _ = false

-- whether a parameter of this kind is `*args`
abbrev pub is_star : Kind → Bool
is_star star = true
is_star _ = false

-- the type of the plain parameter before which stand so many others
abbrev pub plain_param_type : Listed → ℕ → Option Ty
plain_param_type no_param place = None
plain_param_type (param slot ty rest) zero = if is_plain slot.kind then Some ty else plain_param_type rest zero
plain_param_type (param slot ty rest) (suc place) =
    if is_plain slot.kind then plain_param_type rest place else plain_param_type rest (suc place)

-- the type of the first `*args`
abbrev pub star_in : Listed → Option Ty
star_in no_param = None
star_in (param slot ty rest) = if is_star slot.kind then Some ty else star_in rest

-- the type of what takes an argument at a place: of the plain parameter there, else of `*args`
abbrev pub type_at : Listed → ℕ → Option Ty
type_at gots place = option_or (plain_param_type gots place) (star_in gots)

-- ---- what is looked at

-- what takes an argument at its place has to take what the ancestor's parameter takes; where nothing takes it, that is
-- no matter of its type
abbrev pub argument_details : Override → ℕ → Option Ty → Ty → List Detail
argument_details reported number None want = []
argument_details reported number (Some got) want =
    record { got = want; want = got; text = required_argument_text reported number want } ∷ []

-- a parameter of the ancestor, before which stand so many plain ones: only a plain one is looked at
abbrev pub parameter_details : Override → Listed → ℕ → Slot → Ty → List Detail
parameter_details reported gots place slot want =
    if is_plain slot.kind then argument_details reported (place + 1) (type_at gots place) want else []

-- whether something takes an argument, and does not take this type
abbrev pub is_refused_by : MroTable → Option Ty → Ty → Bool
is_refused_by orders None want = false
is_refused_by orders (Some got) want = not (assignable orders want got)

abbrev pub is_refused : MroTable → Listed → ℕ → Slot → Ty → Bool
is_refused orders gots place slot want = is_plain slot.kind && is_refused_by orders (type_at gots place) want

-- how many plain parameters there are, with one more parameter
abbrev pub place_after : ℕ → Slot → ℕ
place_after place slot = if is_plain slot.kind then place + 1 else place

-- the parameters of the ancestor in turn, where so many plain ones stand before the first of them
unfoldable pub parameters_details : Override → Listed → ℕ → Listed → List Detail
parameters_details reported gots place no_param = []
parameters_details reported gots place (param slot want rest) =
    parameter_details reported gots place slot want ++ parameters_details reported gots (place_after place slot) rest

-- what takes any arguments refuses none, and wants none
abbrev pub rows_details : Override → Params → Params → List Detail
rows_details reported (listed gots) (listed wants) = parameters_details reported gots 0 wants
rows_details reported _ _ = []
