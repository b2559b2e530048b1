use Rattle.pyc_names.proofs.NotedLemmas.{kept_is}
use Rattle.pyc_names.proofs.looks.Looks.is_kept.Goals as goal

pub returns : goal.returns
returns c = kept_is c.args.self.now.is_kept c.args.self.now.numbers.items
