use Rattle.std.proofs.Common.{◌≡◌, true, length, sym, rules, arith}
use Rattle.pyc_types.specs.Parameters as spec
use Rattle.pyc_types.specs.Slots.{slots_in}
use Rattle.pyc_types.proofs.PlaceLemmas.{below_passes}
use Rattle.pyc_types.proofs.fitting.is_serving.Goals as goal

pub returns-then-serves : goal.returns-then-serves
returns-then-serves c =
    let h : spec.serves (slots_in c.args.gots.now) (slots_in c.args.wants.now) c.args.i c.loop-j.j ≡ true = search rules in
    sym (below_passes (length c.args.wants.now) (spec.serves (slots_in c.args.gots.now) (slots_in c.args.wants.now) c.args.i) c.loop-j.j (omega arith) h)
