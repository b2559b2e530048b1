use Rattle.std.proofs.Common.{List, flat_map, map, drop, ◌+◌, refl, ◌∙◌}
use Rattle.pyc_names.specs.Looks.{Look}
use Rattle.pyc_reading.specs.declared.key.Key.{Key}
use Rattle.pyc_reading.specs.KeyView.{key_of}
use Rattle.pyc_declarations.proofs.NotedLemmas.{noted_turn, noted_all}
use Rattle.pyc_declarations.proofs.looking.note_each.Goals as goal

pub loop-key-preserved : goal.loop-key-preserved
loop-key-preserved g c =
    let looked_at = g.A.Looking.looked_at c.args.answers.now in
    let at_keys : List Key → List Look = λ keys. flat_map looked_at (map key_of keys) in
    noted_turn at_keys (looked_at (key_of c.key-item.result)) (at_keys (drop (c.loop-key.key-index + 1) c.args.keys.now)) c.args.keys.now c.loop-key.key-index c.key-item.result _ _
    c.loop-key-test.true c.key-item.is refl c.in_ok-note_looks.ensures
    ∙ c.loop-key.invariant

pub returns : goal.returns
returns g c =
    let at_keys : List Key → List Look = λ keys. flat_map (g.A.Looking.looked_at c.args.answers.now) (map key_of keys) in
    noted_all at_keys c.args.keys.now c.loop-key.key-index _ c.loop-key-test.false refl ∙ c.loop-key.invariant
