use Rattle.std.proofs.Common.{drop}
use Rattle.pyc_obligations.specs.Judging.{classes_asked}
use Rattle.pyc_reading.specs.Owing.{row_written, listed_written}
use Rattle.pyc_reading.specs.Traces.{Going}
use Rattle.pyc_type_forms.specs.TypeView.{row, param_row}
use Rattle.pyc_obligations.proofs.judging.+written.Given as goal

-- what is left to do comes to the same as all
abbrev pub invariant-ask_row_written-loop-ty : goal.invariant-ask_row_written-loop-ty
invariant-ask_row_written-loop-ty g l =
    Going (classes_asked (row_written (row (drop l.ty-index l.types)))) (g.N.Ask.trace l.recorder)
    (classes_asked (row_written (row l.types))) (g.N.Ask.trace l.fn.recorder)

abbrev pub invariant-ask_listed_written-loop-param : goal.invariant-ask_listed_written-loop-param
invariant-ask_listed_written-loop-param g l =
    Going (classes_asked (listed_written (param_row (drop l.param-index l.params)))) (g.N.Ask.trace l.recorder)
    (classes_asked (listed_written (param_row l.params))) (g.N.Ask.trace l.fn.recorder)
