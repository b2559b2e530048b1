use Rattle.pyc_unit_laws.proofs.RequiredLemmas.{bare_return_is_required, default_is_required, end_is_required, return_is_required}
use Rattle.pyc_unit_laws.proofs.functions.function_requires.Goals as goal

pub returns-clause-default : goal.returns-clause-default
returns-clause-default c = default_is_required

pub returns-clause-value : goal.returns-clause-value
returns-clause-value c = return_is_required

pub returns-clause-bare : goal.returns-clause-bare
returns-clause-bare c = bare_return_is_required

pub returns-clause-end : goal.returns-clause-end
returns-clause-end c = end_is_required
