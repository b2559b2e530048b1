use Rattle.pyc_type_exprs.proofs.Unions.{union_made}
use Rattle.pyc_type_exprs.proofs.writing.unions_written.Goals as goal

pub returns-in_ok-last-in-Some : goal.returns-in_ok-last-in-Some
returns-in_ok-last-in-Some c =
    union_made _ _ _ _ _ _ c.in_ok-first-in-Some.ensures.ok c.in_ok-last-in-Some.ensures.ok c.in-Some.ensures.items
