use Rattle.std.proofs.Common.{Some, None, cond, ap, ◌∙◌}
use Rattle.pyc_mro.specs.Rows.{rows_in}
use Rattle.pyc_mro.proofs.MergeLemmas.{free_head-at}
use Rattle.pyc_mro.proofs.merging.free_head.Goals as goal

pub returns-in-Some : goal.returns-in-Some
returns-in-Some c =
    ap (λ b. cond b (Some c.in-Some.head.now) None) c.if-is_free.ensures
    ∙ free_head-at (rows_in c.args.rows.now) c.args.row.now c.in-Some.head.now c.in-Some.ensures.value

pub returns-in_default : goal.returns-in_default
returns-in_default c =
    ap (λ b. cond b (Some c.in-Some.head.now) None) c.if-is_free.ensures
    ∙ free_head-at (rows_in c.args.rows.now) c.args.row.now c.in-Some.head.now c.in-Some.ensures.value
