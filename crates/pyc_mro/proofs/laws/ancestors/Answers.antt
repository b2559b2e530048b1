use Rattle.pyc_mro.proofs.LawLemmas.{known_are_of_the_table, begins_with_itself, holds_ancestors, holds_each_once}
use Rattle.pyc_mro.proofs.laws.ancestors.Goals as goal

pub returns-clause-within : goal.returns-clause-within
returns-clause-within c = known_are_of_the_table

pub returns-clause-first : goal.returns-clause-first
returns-clause-first c = begins_with_itself

pub returns-clause-held : goal.returns-clause-held
returns-clause-held c = holds_ancestors

pub returns-clause-once : goal.returns-clause-once
returns-clause-once c = holds_each_once
