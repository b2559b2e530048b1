use Rattle.std.proofs.Common.{◌≡◌, drop}
use Rattle.pyc_type_forms.specs.Types.{instance}
use Rattle.pyc_type_forms.specs.TypeView.{row}
use Rattle.pyc_types.specs.Pairs as pairs
use Rattle.pyc_types.specs.Ways as spec
use Rattle.pyc_types.proofs.assigning.instances.+instance.Given as goal

-- the items so far joined with those left are all
abbrev pub invariant-instance_item_ways-loop-item : goal.invariant-instance_item_ways-loop-item
invariant-instance_item_ways-loop-item g l =
    let o = g.L.Lins.orders l.lins in
    pairs.choose l.all (spec.into_items o (instance l.class) (spec.instance_rule o l.class) (row (drop l.item-index l.items)))
    ≡ spec.into_items o (instance l.class) (spec.instance_rule o l.class) (row l.items)
