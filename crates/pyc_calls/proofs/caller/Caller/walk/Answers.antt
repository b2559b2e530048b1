use Rattle.std.proofs.Common.{ap, sym, ◌∙◌, arith, rules}
use Rattle.pyc_arguments.specs.Views.{args_in, call_in}
use Rattle.pyc_calls.proofs.CallLemmas.{begun_goes_on, walk_ends}
use Rattle.pyc_calls.proofs.WaitLemmas.{waits_small}
use Rattle.pyc_calls.specs.declared.walks.CallOutcome.{CallOutcome as CallOutcomeOf}
use Rattle.pyc_calls.specs.Views.{met_in, walk_in}
use Rattle.pyc_calls.specs.Walks.{left_met}
use Rattle.pyc_reading.proofs.RunLemmas.{grown_trans}
use Rattle.pyc_reading.specs.Traces.{run}
use Rattle.pyc_type_forms.specs.TypeView.{ty_of}
use Rattle.pyc_calls.proofs.caller.Caller.walk.Goals as goal

pub returns-in_err-class : goal.returns-in_err-class
returns-in_err-class g c =
    λ top much. record { done = first_of (search rules, grind arith); grown = grown_trans (c.loop-class.invariant top much).grown (c.follow.ensures.goes_on top much).grown }

pub returns-in_err-begin-in-New : goal.returns-in_err-begin-in-New
returns-in_err-begin-in-New g c =
    λ top much. record { done = first_of (search rules, grind arith); grown = grown_trans (c.loop-class.invariant top much).grown (c.follow.ensures.goes_on top much).grown }

pub loop-class-preserved : goal.loop-class-preserved
loop-class-preserved g c =
    let call = call_in c.args.self.now.call.now in
    let args = args_in (g.R.InferType.reads c.args.self.now.reader.now) c.args.self.now.arguments.now in
    let walk = walk_in c.follow.new.walk in
    let new = g.N.Ask.trace c.follow.new.recorder in
    λ top much.
    let before = c.loop-class.invariant top much in
    let goes = c.in_ok-class.ensures.goes_on top much in
    begun_goes_on top call args _ _ walk c.in-New.class (ty_of c.in-New.bound) (walk_in c.begin.new.self) new c.in_ok-begin-in-New.ensures.walk (omega (arith, much, waits_small c.follow.new.walk.waiting)) (record {
      same = ap (λ (met : CallOutcomeOf). run (left_met top call args walk (met_in met)) new) (sym c.in-New.is) ∙ goes.done ∙ before.same;
      grown = grown_trans before.grown goes.grown;
    })

pub returns-in-Came : goal.returns-in-Came
returns-in-Came g c =
    let call = call_in c.args.self.now.call.now in
    let args = args_in (g.R.InferType.reads c.args.self.now.reader.now) c.args.self.now.arguments.now in
    let walk = walk_in c.follow.new.walk in
    let new = g.N.Ask.trace c.follow.new.recorder in
    λ top much.
    let before = c.loop-class.invariant top much in
    let goes = c.in_ok-class.ensures.goes_on top much in
    record {
      done = walk_ends top call args _ _ walk (ty_of c.in-Came.ty) _ _ new (ap (λ (met : CallOutcomeOf). run (left_met top call args walk (met_in met)) new) (sym c.in-Came.is) ∙ goes.done) before;
      grown = grown_trans before.grown goes.grown;
    }
