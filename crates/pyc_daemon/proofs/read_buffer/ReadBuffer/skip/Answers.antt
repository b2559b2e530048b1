use Rattle.pyc_daemon.proofs.Moving.{held_past}
use Rattle.pyc_daemon.proofs.read_buffer.ReadBuffer.skip.Goals as goal

pub returns-clause-held : goal.returns-clause-held
returns-clause-held c = held_past _ _ _ _ c.args.self.now.ordered c.requires
