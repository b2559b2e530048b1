use Rattle.std.proofs.Common.{ℕ, ◌≤◌, ◌-◌, ◌^◌}
use Rattle.pyc_arguments.specs.Views.{args_in, call_in}
use Rattle.pyc_calls.specs.Views.{count_of, walk_in}
use Rattle.pyc_calls.specs.Walks.{calls, left}
use Rattle.pyc_reading.specs.Traces.{Going}
use Rattle.pyc_type_forms.specs.TypeView.{ty_of}
use Rattle.pyc_calls.proofs.caller.Caller.walk.Given as goal

-- what is left to do comes to the same as all
abbrev pub invariant-loop-class : goal.invariant-loop-class
invariant-loop-class g l =
    (top : ℕ) → 2 ^ 63 ≤ top
    → Going (left top (call_in l.self.call.now) (args_in (g.R.InferType.reads l.self.reader.now) l.self.arguments.now) (walk_in l.walk) (calls (ty_of l.next))) (g.N.Ask.trace l.recorder)
    (left top (call_in l.self.call.now) (args_in (g.R.InferType.reads l.self.reader.now) l.self.arguments.now) (walk_in l.fn.walk) (calls (ty_of l.fn.callee))) (g.N.Ask.trace l.fn.recorder)

-- how many more classes can be remembered
abbrev pub decreases-loop-class : goal.decreases-loop-class
decreases-loop-class g l = 2 ^ 63 - count_of l.walk.memory
