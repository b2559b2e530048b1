-- The plain narrowing that one of the code is.
use Rattle.pyc_places.specs.declared.narrowings.Narrowing.{Narrowing as NarrowingOf}
use Rattle.pyc_places.specs.States.{Narrowing}
use Rattle.pyc_type_forms.specs.TypeView.{ty_of}

abbrev pub narrowing_of : NarrowingOf → Narrowing
narrowing_of n = record { place = n.place; ty = ty_of n.ty }
