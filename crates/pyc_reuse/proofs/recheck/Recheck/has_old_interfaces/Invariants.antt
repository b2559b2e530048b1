use Rattle.std.proofs.Common.{◌≡◌, map, take}
use Rattle.pyc_reuse.specs.Places.{bare_of}
use Rattle.pyc_reuse.specs.RecheckView.{last_in, present_in}
use Rattle.pyc_reuse.proofs.recheck.Recheck.has_old_interfaces.Given as goal

-- those so far have the interfaces of before
abbrev pub invariant-loop-index : goal.invariant-loop-index
invariant-loop-index l = ∥ map bare_of (take l.index (last_in l.self)) ≡ map bare_of (take l.index (present_in l.self)) ∥₁
