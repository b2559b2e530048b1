use Rattle.std.proofs.Common.{◌≡◌, ◌+◌, ◌*◌, ◌-◌, ◌<◌, ◌^◌, fold, take}
use Rattle.pyc_session.proofs.command.number.Given as goal

abbrev pub invariant-loop-digit : goal.invariant-loop-digit
invariant-loop-digit l = (l.value < 10 ^ l.digit-index) × (l.value ≡ fold (λ n d. 10 * n + (d - 48)) 0 (take l.digit-index l.digits))
