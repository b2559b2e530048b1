use Rattle.pyc_keys.proofs.TableLemmas.{apart}
use Rattle.pyc_keys.proofs.key_table.KeyTable.get.Goals as goal

pub returns-in-Some-clause-apart : goal.returns-in-Some-clause-apart
returns-in-Some-clause-apart c = apart _ _ c.args.self.now.inverse

pub returns-in-None-clause-apart : goal.returns-in-None-clause-apart
returns-in-None-clause-apart c = apart _ _ c.args.self.now.inverse
