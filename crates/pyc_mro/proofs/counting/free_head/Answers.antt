use Rattle.std.proofs.Common.{Some, None, cond, ap, ◌∙◌}
use Rattle.pyc_mro.proofs.TailLemmas.{free_by-at}
use Rattle.pyc_mro.proofs.counting.free_head.Goals as goal

pub returns-in-Some : goal.returns-in-Some
returns-in-Some c =
    ap (λ b. cond b (Some c.in-Some.head.now) None) c.if-is_in_no_tail.ensures
    ∙ free_by-at c.args.counts.now c.args.row.now c.in-Some.head.now c.in-Some.ensures.value

pub returns-in_default : goal.returns-in_default
returns-in_default c =
    ap (λ b. cond b (Some c.in-Some.head.now) None) c.if-is_in_no_tail.ensures
    ∙ free_by-at c.args.counts.now c.args.row.now c.in-Some.head.now c.in-Some.ensures.value
