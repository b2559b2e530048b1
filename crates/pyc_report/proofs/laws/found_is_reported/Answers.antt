use Rattle.pyc_report.proofs.MessageOrderLemmas.{are_found_where_reported, are_in_order, have_no_repeats, are_reported}
use Rattle.pyc_report.proofs.laws.found_is_reported.Goals as goal

pub returns-clause-reported : goal.returns-clause-reported
returns-clause-reported c = are_reported

pub returns-clause-found : goal.returns-clause-found
returns-clause-found c = are_found_where_reported

pub returns-clause-once : goal.returns-clause-once
returns-clause-once c = have_no_repeats

pub returns-clause-ordered : goal.returns-clause-ordered
returns-clause-ordered c = are_in_order
