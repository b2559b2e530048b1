use Rattle.std.proofs.Common.{◌<◌, ◌+◌, ◌-◌, ◌^◌}
use Rattle.pyc_arguments.specs.Views.{args_in, call_in}
use Rattle.pyc_calls.specs.Called.{call_result, most_calls, typed}
use Rattle.pyc_calls.specs.Views.{count_of, memory_in}
use Rattle.pyc_calls.specs.Walks.{called_in}
use Rattle.pyc_reading.specs.Traces.{Going}
use Rattle.pyc_type_forms.specs.TypeView.{ty_of}
use Rattle.pyc_calls.proofs.caller.Caller.call.Given as goal

-- what is left to do comes to the same as all, and more classes can be remembered
abbrev pub invariant-loop-recorder : goal.invariant-loop-recorder
invariant-loop-recorder g l =
    record {
      going : Going (typed (called_in (most_calls - (count_of l.memory + 1)) (call_in l.self.call.now) (memory_in l.memory) (args_in (g.R.InferType.reads l.self.reader.now) l.self.arguments.now) (ty_of l.next))) (g.N.Ask.trace l.recorder)
          (call_result (call_in l.self.call.now) (args_in (g.R.InferType.reads l.self.reader.now) l.self.arguments.now) (ty_of l.fn.callee)) (g.N.Ask.trace l.fn.recorder);
      small : count_of l.memory < 2 ^ 63;
    }

abbrev pub decreases-loop-recorder : goal.decreases-loop-recorder
decreases-loop-recorder g l = 2 ^ 63 - count_of l.memory
