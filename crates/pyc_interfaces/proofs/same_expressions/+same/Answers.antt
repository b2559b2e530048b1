use Rattle.std.proofs.Common.{sym, arith}
use Rattle.pyc_interfaces.proofs.SameRows.{other_elements, other_indices}
use Rattle.pyc_interfaces.proofs.same_expressions.+same.Goals as goal

pub same_elements-returns-then-xs-ys : goal.same_elements-returns-then-xs-ys
same_elements-returns-then-xs-ys t c = sym (other_elements c.args.xs.now c.args.ys.now (λ same. absurd (omega (arith, same))))

pub same_indices-returns-then-xs-ys : goal.same_indices-returns-then-xs-ys
same_indices-returns-then-xs-ys t c = sym (other_indices c.args.xs.now c.args.ys.now (λ same. absurd (omega (arith, same))))
