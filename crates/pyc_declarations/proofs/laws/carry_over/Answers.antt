use Rattle.pyc_declarations.proofs.CarryLemmas.{declared_carry}
use Rattle.pyc_declarations.proofs.EntryLemmas.{entries_carry}
use Rattle.pyc_declarations.proofs.laws.carry_over.Goals as goal

pub returns : goal.returns
returns c = record { declared = declared_carry; entries = entries_carry }
