use Rattle.std.proofs.Common.{◌≡◌, ◌+◌, ◌-◌, ℕ, length, get_or}
use Rattle.pyc_mro.proofs.tails.make_room.Given as goal

-- the counts are what they were
abbrev pub invariant-loop-counts : goal.invariant-loop-counts
invariant-loop-counts l = (c : ℕ) → get_or l.counts.items c 0 ≡ get_or l.fn.counts.items c 0

abbrev pub decreases-loop-counts : goal.decreases-loop-counts
decreases-loop-counts l = (l.class + 1) - length l.counts.items
