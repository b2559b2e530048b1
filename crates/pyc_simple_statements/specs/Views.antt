-- The plain operands and obligations that those of the code are.
use Rattle.pyc_reading.specs.Owing.{Obligation}
use Rattle.pyc_simple_statements.specs.Augmented.{Operands}
use Rattle.pyc_simple_statements.specs.declared.augmented.Operands.{Operands as OperandsOf}
use Rattle.pyc_simple_statements.specs.declared.returning.RequiredReturn.{RequiredReturn}
use Rattle.pyc_simple_statements.specs.Returning.{required_return}
use Rattle.pyc_type_forms.specs.TypeView.{ty_of}

abbrev pub required_in : RequiredReturn → Obligation
required_in o = required_return o.at o.is_bare (ty_of o.got.now) (ty_of o.want.now)

abbrev pub operands_in : OperandsOf → Operands
operands_in operands = record { left = ty_of operands.left; right = ty_of operands.right }
