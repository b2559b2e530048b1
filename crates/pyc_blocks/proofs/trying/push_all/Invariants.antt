use Rattle.std.proofs.Common.{◌≡◌, ◌++◌, drop}
use Rattle.pyc_blocks.proofs.trying.push_all.Given as goal

-- the places so far, with those that are left, are all
abbrev pub invariant-loop-place : goal.invariant-loop-place
invariant-loop-place l = l.places.items ++ drop l.place-index l.more ≡ l.fn.places.items ++ l.more
