-- The plain chain that one of the code is.
use Rattle.pyc_expr_forms.specs.Choices.{Chain}
use Rattle.pyc_expr_forms.specs.declared.choices.Chain.{Chain as ChainOf}
use Rattle.pyc_places.specs.StateView.{state_of}
use Rattle.pyc_type_forms.specs.TypeView.{ty_of}

abbrev pub chain_of : ChainOf → Chain
chain_of found = record { ty = ty_of found.ty; state = state_of found.state }
