use Rattle.std.proofs.Common.{◌∙◌, ap}
use Rattle.pyc_keys.specs.KeyTableView.{keys_in}
use Rattle.pyc_keys.proofs.NumberingLemmas.{still_free}
use Rattle.pyc_keys.proofs.keys.Keys.release.Goals as goal

pub invariant_of-self : goal.invariant_of-self
invariant_of-self c = λ i past. ap (λ f. f i) c.release.ensures ∙ still_free (keys_in c.self.inside.table) _ i (c.self.invariant i past)
