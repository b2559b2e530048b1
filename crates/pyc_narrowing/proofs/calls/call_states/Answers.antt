use Rattle.std.proofs.lemmas.Grind.{common_steps}
use Rattle.std.proofs.Common.{◌≡◌, ◌∙◌, ◌<◌, ◌≤◌, length, ap, sym, arith, rules}
use Rattle.pyc_ast.specs.ExprView.{expr_of}
use Rattle.pyc_narrowing.proofs.Others.{other_call}
use Rattle.pyc_narrowing.specs.SplitStates.{SplitStates}
use Rattle.pyc_places.specs.StateView.{state_of}
use Rattle.pyc_reading.proofs.RunLemmas.{grown_refl}
use Rattle.pyc_reading.specs.Traces.{Step, run}
use Rattle.pyc_narrowing.proofs.calls.call_states.Goals.{in_default-via-then-given-lt2, in_default-via-else-given-lt2+else-given-lt3}
use Rattle.pyc_narrowing.proofs.calls.call_states.Goals as goal

pub returns-in_ok-unchanged-in_default : goal.returns-in_ok-unchanged-in_default
returns-in_ok-unchanged-in_default g c =
    let trace = g.N.Ask.trace c.args.recorder.now in
    let xs = c.args.given.now in
    let other : length xs ≡ 2 → ⊥ = elim c.in_default.branch as (λ b. length xs ≡ 2 → ⊥) [
      | in_default-via-then-given-lt2 w ↦ λ e. let h : length xs < 2 = search rules in omega arith
      | in_default-via-else-given-lt2+else-given-lt3 w ↦ λ e. let h : 3 ≤ length xs = search rules in omega arith
    ] in
    record {
      done =
          ap (λ (r : Step SplitStates). run r trace) (other_call (g.L.InferOperand.looks c.args.looks.now) (state_of c.args.state.now) (expr_of c.args.callee.now) xs other)
          ∙ ap (λ (found : SplitStates). (found, trace)) (sym c.in_ok-unchanged-in_default.ensures);
      grown = grown_refl trace;
    }

pub returns-in-len2 : goal.returns-in-len2
returns-in-len2 g c = first_of (grind (arith, common_steps), search rules)

pub returns-in_err-unchanged-in_default : goal.returns-in_err-unchanged-in_default
returns-in_err-unchanged-in_default g c = first_of (grind (arith, common_steps), search rules)
