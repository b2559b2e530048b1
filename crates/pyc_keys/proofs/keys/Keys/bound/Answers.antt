use Rattle.std.proofs.Common.{◌∙◌, ap, arith, sym}
use Rattle.pyc_keys.specs.KeyNumbers.{key_at}
use Rattle.pyc_keys.proofs.NumberingLemmas.{below_bound}
use Rattle.pyc_keys.proofs.keys.Keys.bound.Goals as goal

pub returns : goal.returns
returns c =
    below_bound (key_at c.args.self.now) c.bound.result
    (λ i past. ap (λ ks. key_at ks i) (sym c.self.view_is) ∙ c.self.invariant i (omega (arith, past, c.bound.ensures)))
