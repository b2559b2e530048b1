use Rattle.pyc_expression_laws.proofs.KeyLemmas.{builtin_keys, fixed_keys}
use Rattle.pyc_expression_laws.proofs.keys.keys_of_files.Goals as goal

pub returns-clause-builtin : goal.returns-clause-builtin
returns-clause-builtin c = builtin_keys

pub returns-clause-fixed : goal.returns-clause-fixed
returns-clause-fixed c = fixed_keys
