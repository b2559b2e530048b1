use Rattle.std.proofs.Common.{map, drop}
use Rattle.pyc_ast.specs.ExprView.{index_of}
use Rattle.pyc_subscripts.specs.OwnerView.{items_in}
use Rattle.pyc_subscripts.specs.Subscripts.{more_items, no_items}
use Rattle.pyc_reading.specs.Traces.{Going}
use Rattle.pyc_type_forms.specs.TypeView.{ty_of}
use Rattle.pyc_subscripts.proofs.subscripts.all_items.Given as goal

-- what is left to do comes to the same as all
abbrev pub invariant-loop-ty : goal.invariant-loop-ty
invariant-loop-ty g l =
    Going (more_items l.at (index_of l.index) (ty_of l.got) (items_in l.found) (map ty_of (drop l.ty-index l.types))) (g.N.Ask.trace l.recorder)
    (more_items l.at (index_of l.index) (ty_of l.got) no_items (map ty_of l.types)) (g.N.Ask.trace l.fn.recorder)
