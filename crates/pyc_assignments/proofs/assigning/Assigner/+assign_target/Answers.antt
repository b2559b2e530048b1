use Rattle.std.proofs.lemmas.Grind.{common_steps}
use Rattle.pyc_obligations.proofs.Steps.{performing}
use Rattle.std.proofs.Common.{◌≡◌, ◌∙◌, ap, arith, rules}
use Rattle.pyc_assignments.proofs.Turns.{element_turn}
use Rattle.pyc_assignments.specs.Assignments.{assign_target}
use Rattle.pyc_assignments.specs.Views.{shares_in}
use Rattle.pyc_ast.specs.declared.target.TargetElement.{TargetElement}
use Rattle.pyc_ast.specs.TargetView.{target_of}
use Rattle.pyc_locals.specs.Views.{flow_state_in}
use Rattle.pyc_reading.proofs.RunLemmas.{grown_trans}
use Rattle.pyc_reading.specs.Traces.{run}
use Rattle.pyc_type_forms.specs.TypeView.{ty_of}
use Rattle.pyc_assignments.proofs.assigning.Assigner.+assign_target.Goals as goal

pub assign_each-loop-index-preserved : goal.assign_each-loop-index-preserved
assign_each-loop-index-preserved g t c =
    let read = g.R.InferAssignment.reads c.args.self.now.reader.now in
    let at = c.args.self.now.at in
    let ty = ty_of c.in_ok-ty.ty in
    let p = flow_state_in c.loop-index.flow_state in
    let trace = g.N.Ask.trace c.loop-index.recorder in
    let first : run (assign_target read at (target_of c.index-elements-index.result.target) ty p) trace ≡ (flow_state_in c.assign_target.new.flow_state, g.N.Ask.trace c.assign_target.new.recorder) =
    ap (λ (x : TargetElement). run (assign_target read at (target_of x.target) ty p) trace) c.index-elements-index.is ∙ c.in_ok-assign_target.ensures.done in
    record {
      same =
          element_turn read at (shares_in c.args.found.now) c.args.elements.now c.loop-index.index c.index-elements-index.result ty p _ trace _ c.loop-index-test.true c.index-elements-index.is c.in_ok-ty.ensures first
          ∙ c.loop-index.invariant.same;
      grown = grown_trans c.loop-index.invariant.grown c.assign_target.ensures.grown;
    }

pub unpack_value-returns-in_err-found : goal.unpack_value-returns-in_err-found
unpack_value-returns-in_err-found g t c = first_of (grind (arith, performing), search rules)

pub unpack_value-returns : goal.unpack_value-returns
unpack_value-returns g t c = first_of (grind (arith, performing), search rules)

pub assign_each-returns-in_err-ty : goal.assign_each-returns-in_err-ty
assign_each-returns-in_err-ty g t c = first_of (grind (arith, performing), search rules)

pub assign_each-returns-in_err-assign_target : goal.assign_each-returns-in_err-assign_target
assign_each-returns-in_err-assign_target g t c = first_of (grind (arith, performing), search rules)

pub assign_each-loop-index-init : goal.assign_each-loop-index-init
assign_each-loop-index-init g t c = first_of (grind (arith, performing), search rules)

pub assign_each-returns : goal.assign_each-returns
assign_each-returns g t c = first_of (grind (arith, common_steps, performing), search rules)
