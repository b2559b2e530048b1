use Rattle.std.proofs.Common.{◌≡◌, ℕ, get_or, take}
use Rattle.std.specs.List.{sum_by}
use Rattle.pyc_mro.specs.Tails.{tail_of, occurrences}
use Rattle.pyc_mro.proofs.tails.tail_counts.Given as goal

-- the tails of the rows so far are counted
abbrev pub invariant-loop-row : goal.invariant-loop-row
invariant-loop-row l =
    (c : ℕ) → get_or l.counts.items c 0 ≡ sum_by (λ row. occurrences (tail_of row.now) c) (take l.row-index l.rows)
