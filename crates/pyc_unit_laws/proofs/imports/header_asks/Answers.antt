use Rattle.pyc_unit_laws.proofs.HeaderLemmas.{header_asks}
use Rattle.pyc_unit_laws.proofs.imports.header_asks.Goals as goal

pub returns : goal.returns
returns c = header_asks
