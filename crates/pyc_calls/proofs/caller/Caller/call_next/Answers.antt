use Rattle.std.proofs.Common.{ap, sym, refl, ◌∙◌}
use Rattle.std.proofs.lemmas.Result.{IfOk-weaker}
use Rattle.pyc_arguments.specs.Views.{args_in, call_in}
use Rattle.pyc_calls.proofs.WalkLemmas.{opened_is, other_runs}
use Rattle.pyc_calls.specs.Views.{walk_in}
use Rattle.pyc_calls.specs.Walks.{Standing, Stood}
use Rattle.pyc_obligations.proofs.Steps.{performs_same}
use Rattle.pyc_reading.proofs.RunLemmas.{grown_refl}
use Rattle.pyc_reading.specs.Traces.{Trace}
use Rattle.pyc_type_forms.specs.TypeView.{ty_of}
use Rattle.pyc_calls.proofs.caller.Caller.call_next.Goals as goal

pub returns-then-is_union : goal.returns-then-is_union
returns-then-is_union g c =
    let call = call_in c.args.self.now.call.now in
    let args = args_in (g.R.InferType.reads c.args.self.now.reader.now) c.args.self.now.arguments.now in
    let trace = g.N.Ask.trace c.args.recorder.now in
    let at_trace : Stood → Stood × Trace = λ stood. (stood, trace) in
    record {
      performs =
          performs_same _ _ _ _ _ _ (opened_is call args (walk_in c.args.walk.now) (ty_of c.args.callee.now) (sym c.is_union.ensures ∙ c.if-is_union.true)) (record {
            done = IfOk-weaker c.open.result _ _ (λ standing is. ap at_trace (sym is)) c.open.ensures.walk;
            grown = grown_refl trace;
          });
      same = c.open.ensures.same;
    }

pub returns : goal.returns
returns g c =
    let call = call_in c.args.self.now.call.now in
    let args = args_in (g.R.InferType.reads c.args.self.now.reader.now) c.args.self.now.arguments.now in
    let walk = walk_in c.args.walk.now in
    let new = g.N.Ask.trace c.meet.new.recorder in
    let stood : Standing → Stood × Trace = λ standing. (record { walk = walk; standing = standing }, new) in
    record {
      performs = record {
        done =
            other_runs call args walk (ty_of c.args.callee.now) _ (g.N.Ask.trace c.args.recorder.now) new (sym c.is_union.ensures ∙ c.if-is_union.false) c.in_ok-met.ensures.done
            ∙ ap stood (sym c.standing_met.ensures);
        grown = c.meet.ensures.grown;
      };
      same = refl;
    }
