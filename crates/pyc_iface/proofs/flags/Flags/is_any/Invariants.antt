use Rattle.std.proofs.Common.{◌≡◌, false, take}
use Rattle.std.specs.List.{list_any}
use Rattle.pyc_iface.specs.Flags.{flag_at}
use Rattle.pyc_iface.proofs.flags.Flags.is_any.Given as goal

-- none so far is flagged
abbrev pub invariant-loop-number : goal.invariant-loop-number
invariant-loop-number l = list_any (flag_at l.self) (take l.number-index l.numbers) ≡ false
