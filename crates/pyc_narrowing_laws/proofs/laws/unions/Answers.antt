use Rattle.pyc_narrowing_laws.proofs.UnionLemmas.{union_keeps, union_is_its_items}
use Rattle.pyc_narrowing_laws.proofs.laws.unions.Goals as goal

pub returns-clause-kept : goal.returns-clause-kept
returns-clause-kept c = union_keeps

pub returns-clause-items : goal.returns-clause-items
returns-clause-items c = union_is_its_items
