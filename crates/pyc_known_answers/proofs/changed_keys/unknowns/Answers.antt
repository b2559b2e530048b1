use Rattle.std.proofs.Common.{◌≡◌, ◌∙◌, sym, ap, arith, ◌++◌, ◌∷◌, [], None, add-one}
use Rattle.pyc_known_answers.specs.Changes.{unknowns}
use Rattle.pyc_known_answers.proofs.KeyChangeLemmas.{unknowns_more}
use Rattle.pyc_known_answers.proofs.changed_keys.unknowns.Goals as goal

pub loop-number-preserved : goal.loop-number-preserved
loop-number-preserved c =
    rw add-one (c.in_ok-push.ensures.items ∙ ap (λ l. l ++ None ∷ []) c.loop-number.invariant ∙ sym (unknowns_more c.loop-number.number))

pub returns : goal.returns
returns c =
    let same : c.loop-number.number ≡ c.args.count = omega (arith, c.loop-number-test.false, c.loop-number.auto.number-end) in
    c.loop-number.invariant ∙ ap unknowns same
