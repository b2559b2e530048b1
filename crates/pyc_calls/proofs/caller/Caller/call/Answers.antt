use Rattle.std.proofs.Common.{◌≡◌, ◌+◌, ◌-◌, false, ap, sym, subst, ◌∙◌, arith, rules}
use Rattle.pyc_arguments.specs.Views.{args_in, call_in}
use Rattle.pyc_calls.proofs.CallLemmas.{call_begins, call_ends, call_goes_on}
use Rattle.pyc_calls.proofs.EndLemmas.{met_is_new}
use Rattle.pyc_calls.specs.Called.{most_calls}
use Rattle.pyc_calls.specs.declared.walks.CallOutcome.{CallOutcome as CallOutcomeOf}
use Rattle.pyc_calls.specs.Remembered.{fresh, progress_of}
use Rattle.pyc_calls.specs.Views.{count_of, memory_in, met_in}
use Rattle.pyc_calls.specs.Walks.{CallOutcome, IsNew, is_union}
use Rattle.pyc_reading.proofs.RunLemmas.{grown_refl, grown_trans}
use Rattle.pyc_reading.specs.Traces.{Trace, run}
use Rattle.pyc_type_forms.specs.TypeView.{ty_of}
use Rattle.pyc_calls.proofs.caller.Caller.call.Goals as goal

pub loop-recorder-init : goal.loop-recorder-init
loop-recorder-init g c =
    let call = call_in c.args.self.now.call.now in
    let args = args_in (g.R.InferType.reads c.args.self.now.reader.now) c.args.self.now.arguments.now in
    let memory = c.nothing_met-memory.result in
    let trace = g.N.Ask.trace c.args.recorder.now in
    record {
      going = record {
        same = ap (λ r. run r trace) (call_begins call args (memory_in memory) (count_of memory) (ty_of c.in_ok-next.next) (ty_of c.args.callee.now) c.nothing_met-memory.ensures.remembered c.nothing_met-memory.ensures.none c.in_ok-next.ensures.cases);
        grown = grown_refl trace;
      };
      small = omega (arith, c.nothing_met-memory.ensures.none);
    }

pub loop-recorder-smaller : goal.loop-recorder-smaller
loop-recorder-smaller g c =
    let call = call_in c.args.self.now.call.now in
    let args = args_in (g.R.InferType.reads c.args.self.now.reader.now) c.args.self.now.arguments.now in
    let memory = memory_in c.loop-recorder.memory in
    let ty = ty_of c.loop-recorder.next in
    let is_new : progress_of memory c.in-New.class ≡ fresh = subst (λ (met : CallOutcomeOf). IsNew memory (met_in met)) c.in-New.is (met_is_new memory call args ty _ _ _ c.in_ok-class.ensures.done) in
    let counted = c.in_ok-begin-in-New.ensures.counted is_new in
    omega (arith, counted, c.in_ok-begin-in-New.ensures.small)

pub loop-recorder-preserved : goal.loop-recorder-preserved
loop-recorder-preserved g c =
    let call = call_in c.args.self.now.call.now in
    let args = args_in (g.R.InferType.reads c.args.self.now.reader.now) c.args.self.now.arguments.now in
    let memory = memory_in c.loop-recorder.memory in
    let ty = ty_of c.loop-recorder.next in
    let old = g.N.Ask.trace c.loop-recorder.recorder in
    let new = g.N.Ask.trace c.meet.new.recorder in
    let other : is_union ty ≡ false = search rules in
    let at_new : CallOutcomeOf → CallOutcome × Trace = λ met. (met_in met, new) in
    let is_new : progress_of memory c.in-New.class ≡ fresh = subst (λ (met : CallOutcomeOf). IsNew memory (met_in met)) c.in-New.is (met_is_new memory call args ty _ _ _ c.in_ok-class.ensures.done) in
    let counted = c.in_ok-begin-in-New.ensures.counted is_new in
    let met = c.in_ok-class.ensures.done ∙ ap at_new c.in-New.is in
    record {
      going = record {
        same =
            call_goes_on call args memory (memory_in c.begin.new.memory) (count_of c.loop-recorder.memory) (count_of c.begin.new.memory) ty (ty_of c.in-New.bound) c.in-New.class old new other met c.in_ok-begin-in-New.ensures.remembered counted c.in_ok-begin-in-New.ensures.small
            ∙ c.loop-recorder.invariant.going.same;
        grown = grown_trans c.loop-recorder.invariant.going.grown c.meet.ensures.grown;
      };
      small = c.in_ok-begin-in-New.ensures.small;
    }

pub returns-in-Came : goal.returns-in-Came
returns-in-Came g c =
    let call = call_in c.args.self.now.call.now in
    let args = args_in (g.R.InferType.reads c.args.self.now.reader.now) c.args.self.now.arguments.now in
    let memory = memory_in c.loop-recorder.memory in
    let ty = ty_of c.loop-recorder.next in
    let old = g.N.Ask.trace c.loop-recorder.recorder in
    let new = g.N.Ask.trace c.meet.new.recorder in
    let other : is_union ty ≡ false = search rules in
    let at_new : CallOutcomeOf → CallOutcome × Trace = λ met. (met_in met, new) in
    record {
      done =
          sym c.loop-recorder.invariant.going.same
          ∙ call_ends call args (most_calls - (count_of c.loop-recorder.memory + 1)) memory ty (ty_of c.in-Came.ty) old new other (c.in_ok-class.ensures.done ∙ ap at_new c.in-Came.is);
      grown = grown_trans c.loop-recorder.invariant.going.grown c.meet.ensures.grown;
    }
