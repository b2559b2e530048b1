use Rattle.pyc_interfaces.proofs.BetweenLemmas.{between_rows}
use Rattle.pyc_names.specs.InterfaceView.{interface_in}
use Rattle.pyc_interfaces.proofs.changes.Common.between.Goals as goal

pub returns : goal.returns
returns c =
    between_rows (λ file. interface_in file.value) c.args.self.now.front c.args.self.now.back c.args.files.now c.requires
