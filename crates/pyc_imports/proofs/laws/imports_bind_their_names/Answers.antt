use Rattle.pyc_imports.proofs.NameLemmas.{imports_bind_their_names}
use Rattle.pyc_imports.proofs.laws.imports_bind_their_names.Goals as goal

pub returns : goal.returns
returns c = imports_bind_their_names
