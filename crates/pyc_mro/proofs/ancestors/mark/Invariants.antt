use Rattle.std.proofs.Common.{◌≡◌, drop}
use Rattle.pyc_mro.specs.Marks.{Marks, mark_all}
use Rattle.pyc_mro.specs.Tables.{classes_among}
use Rattle.pyc_mro.proofs.ancestors.mark.Given as goal

-- the marks so far, and then those of the bases that are left, are the whole
abbrev pub invariant-loop-base : goal.invariant-loop-base
invariant-loop-base l =
    let now : Marks = record { marks = l.marks; work = l.work.items } in
    let before : Marks = record { marks = l.initial.marks; work = l.initial.work.items } in
    mark_all (classes_among (drop l.base-index l.bases)) now ≡ mark_all (classes_among l.bases) before
