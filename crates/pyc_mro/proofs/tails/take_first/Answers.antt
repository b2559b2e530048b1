use Rattle.pyc_mro.proofs.TailLemmas.{first_counted, first_taken, none_taken}
use Rattle.pyc_mro.proofs.tails.take_first.Goals as goal

pub take_class-requires : goal.take_class-requires
take_class-requires c = first_counted c.args.counts.now c.args.classes.now _ _ c.in-Some.ensures.cases.0 c.requires

pub returns-in-Some : goal.returns-in-Some
returns-in-Some c =
    first_taken c.args.counts.now c.args.classes.now _ _ c.in-Some.ensures.cases.0 c.take_class.new.counts c.take_class.ensures

pub returns-in-None : goal.returns-in-None
returns-in-None c = none_taken c.args.counts.now c.args.classes.now c.in-None.ensures.cases
