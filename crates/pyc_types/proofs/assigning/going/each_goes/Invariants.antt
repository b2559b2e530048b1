use Rattle.std.proofs.Common.{◌≡◌, drop}
use Rattle.pyc_type_forms.specs.TypeView.{ty_of, row}
use Rattle.pyc_types.specs.Ways.{gathered, ways_of}
use Rattle.pyc_types.proofs.assigning.going.each_goes.Given as goal

-- the items left decide
abbrev pub invariant-loop-i : goal.invariant-loop-i
invariant-loop-i g l =
    let o = g.L.Lins.orders l.lins in
    (gathered (ways_of o (row (drop l.i l.items))) (ty_of l.want)).there ≡ (gathered (ways_of o (row l.items)) (ty_of l.want)).there
