use Rattle.pyc_unit_laws.proofs.FileLemmas.{attribute_target_of_files, name_target_of_files, subscript_target_of_files}
use Rattle.pyc_unit_laws.proofs.files.targets_ask_files.Goals as goal

pub returns-clause-subscript : goal.returns-clause-subscript
returns-clause-subscript c = subscript_target_of_files

pub returns-clause-attribute : goal.returns-clause-attribute
returns-clause-attribute c = attribute_target_of_files

pub returns-clause-name : goal.returns-clause-name
returns-clause-name c = name_target_of_files
