use Rattle.pyc_iface.proofs.CarryLemmas.{answers_carry, orders_carry}
use Rattle.pyc_iface.proofs.ComparedLemmas.{compared_are_alike, kept_files_are_compared}
use Rattle.pyc_iface.proofs.laws.carry_over.Goals as goal

pub returns : goal.returns
returns c = record { answers = answers_carry; orders = orders_carry; compared = compared_are_alike; kept = kept_files_are_compared }
