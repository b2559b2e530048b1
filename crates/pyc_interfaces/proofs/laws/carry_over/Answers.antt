use Rattle.pyc_interfaces.proofs.LookLemmas.{positions_change_no_look, positions_change_no_entry, files_carry}
use Rattle.pyc_interfaces.proofs.laws.carry_over.Goals as goal

pub returns : goal.returns
returns c = record { looks = positions_change_no_look; entries = positions_change_no_entry; files = files_carry }
