use Rattle.pyc_workspace.proofs.WorkspaceLemmas.{in_order_none}
use Rattle.pyc_workspace.proofs.files.Files.new.Goals as goal

pub invariant_of-result : goal.invariant_of-result
invariant_of-result c = rw c.new.ensures.items in_order_none
