use Rattle.std.proofs.Common.{drop}
use Rattle.pyc_arguments.specs.Arguments.{all_read}
use Rattle.pyc_arguments.specs.Views.{unread_in}
use Rattle.pyc_reading.specs.Traces.{Going}
use Rattle.pyc_arguments.proofs.arguments.read_each.Given as goal

-- what is left to do comes to the same as all
abbrev pub invariant-loop-argument : goal.invariant-loop-argument
invariant-loop-argument g l =
    Going (all_read (unread_in (g.R.InferType.reads l.reader) (drop l.argument-index l.arguments))) (g.N.Ask.trace l.recorder)
    (all_read (unread_in (g.R.InferType.reads l.reader) l.arguments)) (g.N.Ask.trace l.fn.recorder)
