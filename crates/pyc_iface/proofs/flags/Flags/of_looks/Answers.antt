use Rattle.std.proofs.lemmas.Result.{IfOk-weaker}
use Rattle.pyc_iface.proofs.FlagLemmas.{flagged_where_kept, flagged_where_unkept}
use Rattle.pyc_iface.proofs.flags.Flags.of_looks.Goals as goal

pub returns-in-Some : goal.returns-in-Some
returns-in-Some c =
    IfOk-weaker c.of_numbers.result _ _ (λ flags each. flagged_where_kept flags c.args.looks.now c.in-Some.numbers.now c.in-Some.ensures each)
    c.of_numbers.ensures

pub returns-in-None : goal.returns-in-None
returns-in-None c = flagged_where_unkept c.new.result.items c.args.looks.now c.new.ensures.items c.in-None.ensures
