use Rattle.pyc_narrowing_laws.proofs.StateLemmas.{assigned_keeps, dropped_keeps}
use Rattle.pyc_narrowing_laws.proofs.laws.assigned_places.Goals as goal

pub returns-clause-dropped : goal.returns-clause-dropped
returns-clause-dropped c = dropped_keeps

pub returns-clause-narrowed : goal.returns-clause-narrowed
returns-clause-narrowed c = assigned_keeps
