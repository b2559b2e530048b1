use Rattle.std.proofs.Common.{ℕ, ◌≤◌, ◌^◌}
use Rattle.pyc_arguments.specs.Views.{args_in, call_in}
use Rattle.pyc_calls.specs.Views.{count_of, memory_in, standing_in, walk_in}
use Rattle.pyc_calls.specs.Walks.{calls, left, IsNewStanding, stood_weight}
use Rattle.pyc_reading.specs.Traces.{Going}
use Rattle.pyc_type_forms.specs.TypeView.{ty_of}
use Rattle.pyc_calls.proofs.caller.Caller.follow.Given as goal

-- what is left to do comes to the same as all, a `__call__` that is met is new, and no class is forgotten
abbrev pub invariant-loop-standing : goal.invariant-loop-standing
invariant-loop-standing g l =
    record {
      going : (top : ℕ) → 2 ^ 63 ≤ top
          → Going (left top (call_in l.self.call.now) (args_in (g.R.InferType.reads l.self.reader.now) l.self.arguments.now) (walk_in l.walk) (standing_in l.standing)) (g.N.Ask.trace l.recorder)
          (left top (call_in l.self.call.now) (args_in (g.R.InferType.reads l.self.reader.now) l.self.arguments.now) (walk_in l.fn.walk) (calls (ty_of l.fn.callee))) (g.N.Ask.trace l.fn.recorder);
      fresh : IsNewStanding (memory_in l.walk.memory) (standing_in l.standing);
      counted : count_of l.fn.walk.memory ≤ count_of l.walk.memory;
    }

-- how much is left to do before a class is met
abbrev pub decreases-loop-standing : goal.decreases-loop-standing
decreases-loop-standing g l = stood_weight (walk_in l.walk) (standing_in l.standing)
