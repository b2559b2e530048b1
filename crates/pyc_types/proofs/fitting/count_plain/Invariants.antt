use Rattle.std.proofs.Common.{◌≡◌, ◌+◌, ◌≤◌, drop}
use Rattle.pyc_types.specs.Parameters as spec
use Rattle.pyc_types.specs.Slots.{slots_in}
use Rattle.pyc_types.proofs.fitting.count_plain.Given as goal

-- those so far and those left are all
abbrev pub invariant-loop-param : goal.invariant-loop-param
invariant-loop-param l =
    (l.count + spec.count_plain (slots_in (drop l.param-index l.params)) ≡ spec.count_plain (slots_in l.params))
    × (l.count ≤ l.param-index)
