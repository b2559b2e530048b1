use Rattle.std.proofs.Common.{sym}
use Rattle.pyc_assignments.proofs.Targets.{count_of}
use Rattle.pyc_assignments.proofs.unpacking.target_count.Goals as goal

pub returns : goal.returns
returns c = sym (count_of c.args.elements.now)
