-- The plain obligation that one of the code is.
use Rattle.pyc_subscripts.specs.declared.messages.RequiredIndex.{RequiredIndex}
use Rattle.pyc_subscripts.specs.Subscripts.{required_index}
use Rattle.pyc_reading.specs.Owing.{Obligation}
use Rattle.pyc_type_forms.specs.TypeView.{ty_of}

-- an index that has to be of the type that is taken
abbrev pub required_in : RequiredIndex → Obligation
required_in o = required_index o.at (ty_of o.got.now) (ty_of o.whole.now) (ty_of o.want.now)
