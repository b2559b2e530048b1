use Rattle.std.proofs.Common.{◌≡◌, length, map}
use Rattle.pyc_token.specs.Operators.{operator_in}
use Rattle.pyc_token.proofs.operators.operator_in.Given as goal

abbrev pub invariant-loop-table : goal.invariant-loop-table
invariant-loop-table l =
    operator_in (map (λ entry. (entry.0.now, entry.1)) l.table) l.text ≡ operator_in (map (λ entry. (entry.0.now, entry.1)) l.initial.table) l.text

abbrev pub decreases-loop-table : goal.decreases-loop-table
decreases-loop-table l = length l.table
