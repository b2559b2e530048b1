use Rattle.std.proofs.Common.{◌≡◌, ◌<◌, ◌==◌, ℕ, take}
use Rattle.std.specs.List.{list_any}
use Rattle.pyc_iface.specs.Flags.{flag_at}
use Rattle.pyc_iface.proofs.flags.Flags.of_numbers.Given as goal

-- those so far are flagged, and no other
abbrev pub invariant-loop-number : goal.invariant-loop-number
invariant-loop-number l =
    (number : ℕ) → number < 65521 → flag_at l.flags number ≡ list_any (λ other. other == number) (take l.number-index l.numbers)
