use Rattle.pyc_mro.proofs.TailLemmas.{tail_within, tail_taken}
use Rattle.pyc_mro.proofs.tails.past_counted.Goals as goal

pub take_first-requires : goal.take_first-requires
take_first-requires c = tail_within c.args.counts.now c.args.row.now _ _ c.in-Some.ensures.cases.0 c.requires

pub returns-in-Some-clause-counts : goal.returns-in-Some-clause-counts
returns-in-Some-clause-counts c =
    tail_taken c.args.counts.now c.args.row.now _ _ c.in-Some.ensures.cases.0 c.take_first.new.counts c.take_first.ensures
