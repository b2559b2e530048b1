use Rattle.std.proofs.Common.{map}
use Rattle.pyc_obligations.proofs.OwingLemmas.{requires_row}
use Rattle.pyc_obligations.proofs.owing.require_row.Goals as goal

pub returns : goal.returns
returns g c = requires_row (map g.O.AsObligation.obligation c.args.row.now) _ _ _ _ c.in_ok-ask_row.ensures.done c.ask_row.ensures.grown c.report_row.ensures
