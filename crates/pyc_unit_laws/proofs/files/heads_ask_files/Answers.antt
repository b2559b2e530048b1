use Rattle.pyc_unit_laws.proofs.BodyLemmas.{head_of_files}
use Rattle.pyc_unit_laws.proofs.FileLemmas.{annotation_of_files, class_of_files, header_of_files, subclass_of_files}
use Rattle.pyc_unit_laws.proofs.files.heads_ask_files.Goals as goal

pub returns-clause-header : goal.returns-clause-header
returns-clause-header c = header_of_files

pub returns-clause-class : goal.returns-clause-class
returns-clause-class c = class_of_files

pub returns-clause-members : goal.returns-clause-members
returns-clause-members c = subclass_of_files

pub returns-clause-annotation : goal.returns-clause-annotation
returns-clause-annotation c = annotation_of_files

pub returns-clause-function : goal.returns-clause-function
returns-clause-function c = head_of_files
