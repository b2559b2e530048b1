use Rattle.std.proofs.Common.{◌≡◌, true}
use Rattle.pyc_types.specs.Parameters as spec
use Rattle.pyc_types.specs.Slots.{slots_in}
use Rattle.pyc_types.proofs.fitting.is_all_served.Given as goal

-- each wanted one so far is served
abbrev pub invariant-loop-j : goal.invariant-loop-j
invariant-loop-j l = spec.all_below l.j (spec.is_served (slots_in l.gots) (slots_in l.wants)) ≡ true
