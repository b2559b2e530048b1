use Rattle.std.proofs.Common.{map, drop}
use Rattle.pyc_ast.specs.ExprView.{index_of}
use Rattle.pyc_targets.specs.ItemTargets.{more_targets, no_targets}
use Rattle.pyc_targets.specs.Views.{item_targets_in}
use Rattle.pyc_reading.specs.Traces.{Going}
use Rattle.pyc_type_forms.specs.TypeView.{ty_of}
use Rattle.pyc_targets.proofs.item_targets.all_targets.Given as goal

-- what is left to do comes to the same as all
abbrev pub invariant-loop-ty : goal.invariant-loop-ty
invariant-loop-ty g l =
    Going (more_targets l.at (index_of l.index) (ty_of l.got) (item_targets_in l.found) (map ty_of (drop l.ty-index l.types))) (g.N.Ask.trace l.recorder)
    (more_targets l.at (index_of l.index) (ty_of l.got) no_targets (map ty_of l.types)) (g.N.Ask.trace l.fn.recorder)
