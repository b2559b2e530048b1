use Rattle.pyc_unit_laws.proofs.BodyLemmas.{body_name_of_files, body_target_of_files, class_import_of_files, import_of_files, local_import_of_files}
use Rattle.pyc_unit_laws.proofs.files.bodies_ask_files.Goals as goal

pub returns-clause-import : goal.returns-clause-import
returns-clause-import c = import_of_files

pub returns-clause-class_import : goal.returns-clause-class_import
returns-clause-class_import c = class_import_of_files

pub returns-clause-local_import : goal.returns-clause-local_import
returns-clause-local_import c = local_import_of_files

pub returns-clause-name : goal.returns-clause-name
returns-clause-name c = body_name_of_files

pub returns-clause-target : goal.returns-clause-target
returns-clause-target c = body_target_of_files
