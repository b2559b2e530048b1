use Rattle.std.proofs.Common.{◌≢◌, ◌<◌, ◌≤◌, ◌∙◌, ap, arith, length}
use Rattle.pyc_keys.specs.KeyNumbers.{key_at}
use Rattle.pyc_keys.specs.KeyTableView.{keys_in}
use Rattle.pyc_reading.specs.KeyView.{key_of}
use Rattle.pyc_keys.proofs.NumberingLemmas.{free_but, new_extends}
use Rattle.pyc_keys.proofs.keys.Keys.add.Goals as goal

pub invariant_of-self-2 : goal.invariant_of-self-2
invariant_of-self-2 c =
    λ i past.
    let below : c.in_ok-number.number < length c.cover.new.self = omega (arith, c.vacant.ensures, c.in_ok-number.ensures.vacant, c.in_ok-cover.ensures.covered) in
    let apart : c.in_ok-number.number ≢ i = λ same. omega (arith, below, past, same) in
    let before : length c.self.inside.marks ≤ i = omega (arith, past, c.in_ok-cover.ensures.more) in
    ap (λ f. f i) c.in_ok-number.ensures.held
    ∙ free_but (keys_in c.self.inside.table) c.in_ok-number.number i (key_of c.args.key.now) apart (c.self.invariant i before)

pub returns-clause-extends : goal.returns-clause-extends
returns-clause-extends c =
    λ i item h.
    new_extends (keys_in c.self.inside.table) _ _ _ c.in_ok-number.ensures.held c.in_ok-number.ensures.free i item
    (ap (λ ks. key_at ks i) c.self.view_is ∙ h)
