use Rattle.std.proofs.Common.{◌≡◌, ◌+◌, ℕ, get_or, take}
use Rattle.pyc_mro.specs.Tails.{occurrences}
use Rattle.pyc_mro.proofs.tails.add_classes.Given as goal

-- the classes so far are counted
abbrev pub invariant-loop-class : goal.invariant-loop-class
invariant-loop-class l =
    (c : ℕ) → get_or l.counts.items c 0 ≡ get_or l.fn.counts.items c 0 + occurrences (take l.class-index l.classes) c
