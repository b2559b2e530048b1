use Rattle.pyc_class_table.proofs.LawLemmas.{classes_begin, classes_once}
use Rattle.pyc_class_table.proofs.laws.classes_once.Goals as goal

pub returns-clause-first : goal.returns-clause-first
returns-clause-first c = classes_begin

pub returns-clause-once : goal.returns-clause-once
returns-clause-once c = classes_once
