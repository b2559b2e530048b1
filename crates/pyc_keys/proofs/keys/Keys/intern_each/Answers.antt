use Rattle.std.proofs.Common.{arith, ◌<◌, length, sym, ap, ◌∙◌, ◌++◌, ◌∷◌, [], map, take, refl}
use Rattle.std.proofs.lemmas.List.{take_more, map-append}
use Rattle.pyc_reading.specs.KeyView.{key_of}
use Rattle.pyc_keys.proofs.NumberingLemmas.{extends_trans, extends_same, more_of}
use Rattle.pyc_keys.proofs.keys.Keys.intern_each.Goals as goal

pub loop-key-init : goal.loop-key-init
loop-key-init c = record {
  held = rw c.requires.first refl;
  extends = extends_same _ _ refl;
  undo = rw c.requires.none refl;
}

pub loop-key-preserved : goal.loop-key-preserved
loop-key-preserved c =
    let one = c.in_ok-intern_one.ensures in
    let within : c.loop-key.key-index < length c.args.keys.now = omega (arith, c.loop-key-test.true) in
    record {
      held = more_of _ _ _ _ _ _ one.held.0 (key_of c.key-item.result) c.loop-key.invariant.held one.extends one.held.1 one.held.2
          (ap (map key_of) (take_more c.args.keys.now c.loop-key.key-index c.key-item.result within)
          ∙ map-append key_of (take c.loop-key.key-index c.args.keys.now) (_ ∷ [])
          ∙ ap (λ k. map key_of (take c.loop-key.key-index c.args.keys.now) ++ key_of k ∷ []) (sym c.key-item.is));
      extends = extends_trans _ _ _ c.loop-key.invariant.extends one.extends;
      undo = one.undo ∙ c.loop-key.invariant.undo;
    }

pub returns-in_err-intern_one-clause-extends : goal.returns-in_err-intern_one-clause-extends
returns-in_err-intern_one-clause-extends c = extends_trans _ _ _ c.loop-key.invariant.extends c.in_err-intern_one.ensures.extends

pub returns-in_err-intern_one-clause-undo : goal.returns-in_err-intern_one-clause-undo
returns-in_err-intern_one-clause-undo c = c.in_err-intern_one.ensures.undo ∙ c.loop-key.invariant.undo
