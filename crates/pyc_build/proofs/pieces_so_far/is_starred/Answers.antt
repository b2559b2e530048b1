use Rattle.std.proofs.Common.{◌≡◌}
use Rattle.pyc_tree.proofs.FormLemmas.{unstarred}
use Rattle.pyc_build.proofs.pieces_so_far.is_starred.Goals as goal

pub returns-in_default : goal.returns-in_default
returns-in_default c = unstarred c.args.expr.now c.in_default.not-Starred
