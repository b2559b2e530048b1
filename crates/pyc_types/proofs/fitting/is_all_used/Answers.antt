use Rattle.std.proofs.Common.{◌≡◌, false, length, sym, rules, arith}
use Rattle.pyc_types.specs.Parameters as spec
use Rattle.pyc_types.specs.Slots.{slots_in}
use Rattle.pyc_types.proofs.PlaceLemmas.{below_fails}
use Rattle.pyc_types.proofs.fitting.is_all_used.Goals as goal

pub returns-then-not-is_used : goal.returns-then-not-is_used
returns-then-not-is_used c =
    let h : spec.is_used (slots_in c.args.gots.now) (slots_in c.args.wants.now) c.loop-i.i ≡ false = search rules in
    sym (below_fails (length c.args.gots.now) (spec.is_used (slots_in c.args.gots.now) (slots_in c.args.wants.now)) c.loop-i.i (omega arith) h)
