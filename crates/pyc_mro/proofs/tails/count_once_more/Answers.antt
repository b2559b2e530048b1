use Rattle.std.proofs.Common.{arith}
use Rattle.std.proofs.lemmas.List.{get_or_read}
use Rattle.pyc_mro.proofs.TailLemmas.{once_more}
use Rattle.pyc_mro.proofs.tails.count_once_more.Goals as goal

pub returns-in-Some : goal.returns-in-Some
returns-in-Some c =
    once_more c.args.counts.now.items c.args.class c.in-Some.count c.requires
    (omega (arith, get_or_read c.args.counts.now.items c.args.class _ c.requires c.index.ensures 0, c.in-Some.ensures))
