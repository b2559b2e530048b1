use Rattle.std.proofs.Common.{ap}
use Rattle.pyc_displays.proofs.Parts.{begins_at}
use Rattle.pyc_displays.specs.Messages.{required_entry}
use Rattle.pyc_displays.specs.Views.{entry_in}
use Rattle.pyc_obligations.proofs.Steps.{performs_same}
use Rattle.pyc_reading.specs.Traces.{owing}
use Rattle.pyc_displays.proofs.dicts.require_entry.Goals as goal

pub returns : goal.returns
returns g c =
    performs_same _ _ _ _ _ _ (ap (λ at. owing (required_entry at c.args.index (entry_in c.args.got.now) (entry_in c.args.want.now))) (begins_at c.args.key.now)) c.require_row.ensures
