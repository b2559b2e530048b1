use Rattle.std.proofs.Common.{◌≡◌, ap, arith, length, map, refl, sym, take, take_all, ◌∙◌}
use Rattle.pyc_reuse.proofs.InPlaceLemmas.{in_place_more}
use Rattle.pyc_reuse.specs.FileStatuses.{file_status_in, nothing_from}
use Rattle.pyc_reuse.proofs.file_status.are_in_place.Goals as goal

pub loop-index-preserved : goal.loop-index-preserved
loop-index-preserved c =
    in_place_more c.args.list.now c.loop-index.index c.index-list-index.result c.loop-index-test.true c.index-list-index.is (c.if-not-is_in_place.ensures refl) c.loop-index.invariant

pub returns : goal.returns
returns c =
    λ _.
    let list = c.args.list.now in
    let whole : take c.loop-index.index list ≡ list = take_all c.loop-index.index list (omega (arith, c.loop-index-test.false)) in
    let many : c.loop-index.index ≡ c.args.many = omega (arith, c.loop-index-test.false, c.loop-index.auto.index-end, c.if-list-many.false) in
    ap (map file_status_in) (sym whole) ∙ c.loop-index.invariant ∙ ap (nothing_from 0) many
