use Rattle.std.proofs.Common.{◌≡◌, ◌++◌, drop}
use Rattle.pyc_mro.specs.Tables.{classes_among}
use Rattle.pyc_mro.proofs.table.classes_among.Given as goal

-- the classes so far, with those of the bases that are left, are the whole
abbrev pub invariant-loop-base : goal.invariant-loop-base
invariant-loop-base l = l.classes.items ++ classes_among (drop l.base-index l.bases) ≡ classes_among l.bases
