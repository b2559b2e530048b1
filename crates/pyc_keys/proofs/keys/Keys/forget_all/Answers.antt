use Rattle.std.proofs.Common.{◌+◌, ◌∙◌, ◌++◌, ◌∷◌, [], ap, sym, take}
use Rattle.std.proofs.lemmas.List.{take_more}
use Rattle.pyc_keys.proofs.NumberingLemmas.{more_without}
use Rattle.pyc_keys.proofs.keys.Keys.forget_all.Goals as goal

pub loop-id-preserved : goal.loop-id-preserved
loop-id-preserved c =
    more_without _ _ _ (take c.loop-id.id-index c.args.ids.now) (take (c.loop-id.id-index + 1) c.args.ids.now) _
    c.loop-id.invariant c.release.ensures (take_more c.args.ids.now c.loop-id.id-index _ c.loop-id-test.true
    ∙ ap (λ k. take c.loop-id.id-index c.args.ids.now ++ k ∷ []) (sym c.id-item.is))
