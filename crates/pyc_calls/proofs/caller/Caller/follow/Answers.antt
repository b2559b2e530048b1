use Rattle.std.proofs.Common.{◌≤◌, ◌<◌, sym, subst, arith, rules}
use Rattle.pyc_arguments.specs.Views.{args_in, call_in}
use Rattle.pyc_calls.proofs.CallLemmas.{called_goes_on, given_goes_on}
use Rattle.pyc_calls.proofs.EndLemmas.{is_stepped, given_new}
use Rattle.pyc_calls.proofs.WaitLemmas.{waits_small}
use Rattle.pyc_calls.specs.declared.walks.Standing.{Standing as StandingOf}
use Rattle.pyc_calls.specs.Views.{count_of, memory_in, standing_in, stood_in, waiting_in, walk_in}
use Rattle.pyc_calls.specs.Walks.{Stood, left, calls, IsNewStanding, stood_weight}
use Rattle.pyc_reading.proofs.RunLemmas.{grown_trans}
use Rattle.pyc_reading.specs.Traces.{Going}
use Rattle.pyc_type_forms.specs.TypeView.{ty_of}
use Rattle.pyc_calls.proofs.caller.Caller.follow.Goals as goal

pub returns-in_err-standing-in-Calls-clause-goes_on : goal.returns-in_err-standing-in-Calls-clause-goes_on
returns-in_err-standing-in-Calls-clause-goes_on g c =
    λ top much. record { done = first_of (search rules, grind arith); grown = grown_trans (c.loop-standing.invariant.going top much).grown c.call_next.ensures.performs.grown }

pub loop-standing-smaller-in-Calls : goal.loop-standing-smaller-in-Calls
loop-standing-smaller-in-Calls g c =
    let call = call_in c.args.self.now.call.now in
    let args = args_in (g.R.InferType.reads c.args.self.now.reader.now) c.args.self.now.arguments.now in
    let less = (is_stepped call args (walk_in c.loop-standing.walk) (ty_of c.in-Calls.callee) _ _ _ c.in_ok-standing-in-Calls.ensures.performs.done).less in
    subst (λ (s : StandingOf). stood_weight (walk_in c.call_next.new.walk) (standing_in c.in_ok-standing-in-Calls.standing) < stood_weight (walk_in c.loop-standing.walk) (standing_in s)) (sym c.in-Calls.is) less

pub loop-standing-preserved-in-Calls : goal.loop-standing-preserved-in-Calls
loop-standing-preserved-in-Calls g c =
    let call = call_in c.args.self.now.call.now in
    let args = args_in (g.R.InferType.reads c.args.self.now.reader.now) c.args.self.now.arguments.now in
    let walk = walk_in c.loop-standing.walk in
    let stepped = is_stepped call args walk (ty_of c.in-Calls.callee) _ _ _ c.in_ok-standing-in-Calls.ensures.performs.done in
    record {
      going =
          λ top much.
          called_goes_on top call args _ _ c.requires.read walk (ty_of c.in-Calls.callee) _ _ _ c.in_ok-standing-in-Calls.ensures.performs.done c.call_next.ensures.performs.grown
          (subst (λ (s : StandingOf). Going (left top call args (walk_in c.loop-standing.walk) (standing_in s)) (g.N.Ask.trace c.loop-standing.recorder) (left top call args (walk_in c.args.walk.now) (calls (ty_of c.args.callee))) (g.N.Ask.trace c.args.recorder.now)) c.in-Calls.is (c.loop-standing.invariant.going top much));
      fresh = stepped.new;
      counted = subst (λ m. count_of c.args.walk.now.memory ≤ count_of m) (sym c.call_next.ensures.same) c.loop-standing.invariant.counted;
    }

pub returns-in_err-standing-in-Gives-clause-goes_on : goal.returns-in_err-standing-in-Gives-clause-goes_on
returns-in_err-standing-in-Gives-clause-goes_on g c = λ top much. record { done = first_of (search rules, grind arith); grown = (c.loop-standing.invariant.going top much).grown }

pub loop-standing-preserved : goal.loop-standing-preserved
loop-standing-preserved g c =
    let call = call_in c.args.self.now.call.now in
    let args = args_in (g.R.InferType.reads c.args.self.now.reader.now) c.args.self.now.arguments.now in
    let walk = c.loop-standing.walk in
    let ty = ty_of c.in-Gives.ty in
    record {
      going =
          λ top much.
          given_goes_on top call args _ _ (memory_in walk.memory) (waiting_in walk.waiting) ty (stood_in c.give.new.self c.in_ok-standing-in-Gives.standing) _ c.in_ok-standing-in-Gives.ensures.walk (omega (arith, much, waits_small walk.waiting))
          (subst (λ (s : StandingOf). Going (left top call args (walk_in c.loop-standing.walk) (standing_in s)) (g.N.Ask.trace c.loop-standing.recorder) (left top call args (walk_in c.args.walk.now) (calls (ty_of c.args.callee))) (g.N.Ask.trace c.args.recorder.now)) c.in-Gives.is (c.loop-standing.invariant.going top much));
      fresh = subst (λ (stood : Stood). IsNewStanding stood.walk.memory stood.standing) (sym c.in_ok-standing-in-Gives.ensures.walk) (given_new (memory_in walk.memory) (waiting_in walk.waiting) ty);
      counted = omega (arith, c.loop-standing.invariant.counted, c.in_ok-standing-in-Gives.ensures.counted);
    }

pub returns-in-Meets-clause-goes_on : goal.returns-in-Meets-clause-goes_on
returns-in-Meets-clause-goes_on g c =
    let call = call_in c.args.self.now.call.now in
    let args = args_in (g.R.InferType.reads c.args.self.now.reader.now) c.args.self.now.arguments.now in
    λ top much.
    let going = subst (λ (s : StandingOf). Going (left top call args (walk_in c.loop-standing.walk) (standing_in s)) (g.N.Ask.trace c.loop-standing.recorder) (left top call args (walk_in c.args.walk.now) (calls (ty_of c.args.callee))) (g.N.Ask.trace c.args.recorder.now)) c.in-Meets.is (c.loop-standing.invariant.going top much) in
    record { done = going.same; grown = going.grown }

pub returns-in-Ends-clause-goes_on : goal.returns-in-Ends-clause-goes_on
returns-in-Ends-clause-goes_on g c =
    let call = call_in c.args.self.now.call.now in
    let args = args_in (g.R.InferType.reads c.args.self.now.reader.now) c.args.self.now.arguments.now in
    λ top much.
    let going = subst (λ (s : StandingOf). Going (left top call args (walk_in c.loop-standing.walk) (standing_in s)) (g.N.Ask.trace c.loop-standing.recorder) (left top call args (walk_in c.args.walk.now) (calls (ty_of c.args.callee))) (g.N.Ask.trace c.args.recorder.now)) c.in-Ends.is (c.loop-standing.invariant.going top much) in
    record { done = going.same; grown = going.grown }
