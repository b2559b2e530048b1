use Rattle.std.proofs.Common.{◌≡◌, false, length, sym, rules, arith}
use Rattle.pyc_types.specs.Parameters as spec
use Rattle.pyc_types.specs.Slots.{slots_in}
use Rattle.pyc_types.proofs.PlaceLemmas.{below_fails}
use Rattle.pyc_types.proofs.fitting.is_all_served.Goals as goal

pub returns-then-not-is_served : goal.returns-then-not-is_served
returns-then-not-is_served c =
    let h : spec.is_served (slots_in c.args.gots.now) (slots_in c.args.wants.now) c.loop-j.j ≡ false = search rules in
    sym (below_fails (length c.args.wants.now) (spec.is_served (slots_in c.args.gots.now) (slots_in c.args.wants.now)) c.loop-j.j (omega arith) h)
