use Rattle.std.proofs.Common.{◌≤◌, drop}
use Rattle.pyc_arguments.specs.Matched.{arguments_matched, no_filling}
use Rattle.pyc_arguments.specs.Views.{call_in, filling_in, unread_in}
use Rattle.pyc_reading.specs.Traces.{Going}
use Rattle.pyc_type_forms.specs.TypeView.{param_row}
use Rattle.pyc_arguments.proofs.argument_matching.ListedCall.match_unread.Given as goal

-- what is left to do comes to the same as all, and no more arguments were given by place than there were
abbrev pub invariant-loop-argument : goal.invariant-loop-argument
invariant-loop-argument g l =
    Going (arguments_matched (call_in l.self.call.now) (param_row l.self.params.now) l.number (filling_in l.filling) (unread_in (g.R.InferType.reads l.reader) (drop l.argument-index l.arguments))) (g.N.Ask.trace l.recorder)
    (arguments_matched (call_in l.self.call.now) (param_row l.self.params.now) 0 no_filling (unread_in (g.R.InferType.reads l.reader) l.arguments)) (g.N.Ask.trace l.fn.recorder)
    × (l.number ≤ l.argument-index)
