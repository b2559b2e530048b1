use Rattle.std.proofs.Common.{rules}
use Rattle.std.proofs.lemmas.List.{take_min}
use Rattle.pyc_session.proofs.memory_source.first_bytes.Goals as goal

pub returns-clause-first : goal.returns-clause-first
returns-clause-first c = let cut = take_min 1048577 c.args.bytes.now in search rules
