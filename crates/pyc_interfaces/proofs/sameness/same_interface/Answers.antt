use Rattle.std.proofs.Common.{sym, ◌∙◌}
use Rattle.pyc_names.specs.InterfaceView.{interface_in}
use Rattle.pyc_interfaces.proofs.SameLemmas.{interfaces_are}
use Rattle.pyc_interfaces.proofs.sameness.same_interface.Goals as goal

pub returns-clause-alike : goal.returns-clause-alike
returns-clause-alike c = λ yes. interfaces_are (interface_in c.args.a.now) (interface_in c.args.b.now) (sym c.is_same.ensures ∙ yes)
