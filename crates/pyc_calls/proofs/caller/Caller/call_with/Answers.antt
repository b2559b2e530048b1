use Rattle.std.proofs.Common.{◌+◌, ◌-◌, map, subst}
use Rattle.pyc_arguments.proofs.Parts.{read_once_is}
use Rattle.pyc_arguments.specs.Views.{call_in, read_in}
use Rattle.pyc_calls.proofs.CallLemmas.{deep_enough, walk_begins}
use Rattle.pyc_calls.specs.Called.{most_calls, typed}
use Rattle.pyc_calls.specs.Views.{count_of, memory_in}
use Rattle.pyc_calls.specs.Walks.{Walk, calls, left}
use Rattle.pyc_obligations.proofs.Steps.{performs_same}
use Rattle.pyc_reading.specs.Traces.{Performs}
use Rattle.pyc_type_forms.specs.TypeView.{ty_of}
use Rattle.pyc_calls.proofs.caller.Caller.call_with.Goals as goal

pub walk-requires-clause-read : goal.walk-requires-clause-read
walk-requires-clause-read g c = read_once_is c.args.read.now

pub returns : goal.returns
returns g c =
    let top = most_calls - (count_of c.args.memory + 1) in
    let call = call_in c.args.self.now.call.now in
    let args = map read_in c.args.read.now in
    let ty = ty_of c.args.callee in
    performs_same _ _ _ _ _ _ (walk_begins call args top (memory_in c.args.memory) ty)
    (subst (λ (walk : Walk). Performs ty_of (typed (left top call args walk (calls ty))) (g.N.Ask.trace c.args.recorder.now) c.walk.result (g.N.Ask.trace c.walk.new.recorder)) c.new-walk.ensures.walk
    (c.walk.ensures top (deep_enough (count_of c.args.memory) c.requires.small)))
