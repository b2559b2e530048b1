use Rattle.std.proofs.Common.{map, sym, ◌∷◌, [], append-nil, append_assoc}
use Rattle.std.proofs.lemmas.List.{map-append}
use Rattle.pyc_workspace.specs.Fresh.{number_units, unit_in}
use Rattle.pyc_workspace.proofs.FreshLemmas.{number_units-next}
use Rattle.pyc_workspace.proofs.files.push_units.Goals as goal

pub loop-index-init : goal.loop-index-init
unfolding number_units
loop-index-init c = sym (append-nil (map unit_in c.args.units.now.items))

pub loop-index-preserved : goal.loop-index-preserved
loop-index-preserved c =
    let i = c.loop-index.index in
    let path = c.args.path.now in
    rw (c.in_ok-push.ensures.items, map-append, c.loop-index.invariant, number_units-next path i)
    (append_assoc (map unit_in c.args.units.now.items) (number_units path 0 i) (record { path = path; index = i } ∷ []))
