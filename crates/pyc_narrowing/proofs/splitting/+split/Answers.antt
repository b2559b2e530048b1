use Rattle.std.proofs.lemmas.Grind.{common_steps}
use Rattle.std.proofs.Common.{◌≡◌, ◌∙◌, ap, sym, rules, arith}
use Rattle.pyc_ast.specs.declared.expr.DictItem.TheFolds.{the_lemmas}
use Rattle.pyc_ast.specs.declared.expr.Expr.{Expr as ExprOf}
use Rattle.pyc_ast.specs.Exprs.{Form, unary, boolean}
use Rattle.pyc_ast.specs.ExprView.{expr_of, form_of}
use Rattle.pyc_narrowing.specs.Splitting.{split, form_rule, unary_rule, boolean_rule, right_rule, not_rule, and_right, or_right}
use Rattle.pyc_obligations.proofs.Steps.{performs_same, performing}
use Rattle.pyc_reading.proofs.RunLemmas.{after, grown_trans}
use Rattle.pyc_reading.specs.Traces.{run}
use Rattle.pyc_places.specs.StateView.{state_of}
use Rattle.pyc_narrowing.proofs.splitting.+split.Goals as goal

pub split_form-returns-in-Unary : goal.split_form-returns-in-Unary
split_form-returns-in-Unary g t c =
    let look = g.L.InferOperand.looks c.args.looks.now in
    let s = state_of c.args.state.now in
    let form : form_of c.args.condition.now.form ≡ unary c.in-Unary.operator (expr_of c.in-Unary.operand.value) = rw c.in-Unary.is (search (rules, the_lemmas)) in
    performs_same _ _ _ _ _ _
    (ap (λ (f : Form). form_rule look s (expr_of c.args.condition.now) f) form
    ∙ ap (λ (x : ExprOf). unary_rule c.in-Unary.operator (λ state. split look state (expr_of x)) s) (sym c.deref.ensures)) c.split_unary.ensures

pub split_form-returns-in_ok-states-in-Boolean : goal.split_form-returns-in_ok-states-in-Boolean
unfolding boolean_rule
split_form-returns-in_ok-states-in-Boolean g t c =
    let look = g.L.InferOperand.looks c.args.looks.now in
    let s = state_of c.args.state.now in
    let trace = g.N.Ask.trace c.args.recorder.now in
    let operator = c.in-Boolean.operator in
    let left = expr_of c.deref-in-Boolean.result.now in
    let right = expr_of c.deref-in-Boolean-2.result.now in
    let form : form_of c.args.condition.now.form ≡ boolean operator left right = rw (c.in-Boolean.is, c.deref-in-Boolean.ensures, c.deref-in-Boolean-2.ensures) (search (rules, the_lemmas)) in
    record {
      done =
          ap (λ (f : Form). run (form_rule look s (expr_of c.args.condition.now) f) trace) form
          ∙ after (split look s left) (right_rule operator (λ state. split look state right)) trace _ _ _ _ c.in_ok-first-in-Boolean.ensures.done c.in_ok-states-in-Boolean.ensures.done;
      grown = grown_trans c.split.ensures.grown c.split_right.ensures.grown;
    }

pub split_not-returns-in_err-states : goal.split_not-returns-in_err-states
unfolding not_rule
split_not-returns-in_err-states g t c = first_of (grind (arith, performing), search rules)

pub split_not-returns : goal.split_not-returns
unfolding not_rule
split_not-returns g t c = first_of (grind (arith, performing), search rules)

pub split_and_right-returns-in_err-second : goal.split_and_right-returns-in_err-second
unfolding and_right
split_and_right-returns-in_err-second g t c = first_of (grind (arith, performing), search rules)

pub split_and_right-returns : goal.split_and_right-returns
unfolding and_right
split_and_right-returns g t c = first_of (grind (arith, performing), search rules)

pub split_or_right-returns-in_err-second : goal.split_or_right-returns-in_err-second
unfolding or_right
split_or_right-returns-in_err-second g t c = first_of (grind (arith, performing), search rules)

pub split_or_right-returns : goal.split_or_right-returns
unfolding or_right
split_or_right-returns g t c = first_of (grind (arith, performing), search rules)

pub split-returns-in-Unreachable : goal.split-returns-in-Unreachable
split-returns-in-Unreachable g t c = first_of (grind (arith, common_steps), search rules)

pub split_form-returns-in_err-first-in-Boolean : goal.split_form-returns-in_err-first-in-Boolean
split_form-returns-in_err-first-in-Boolean g t c = first_of (grind (arith, common_steps), search rules)

pub split_form-returns-in_err-literal_states-in-Constant : goal.split_form-returns-in_err-literal_states-in-Constant
split_form-returns-in_err-literal_states-in-Constant g t c = first_of (grind (arith, common_steps), search rules)

pub split_form-returns-in_err-states-in-Boolean : goal.split_form-returns-in_err-states-in-Boolean
split_form-returns-in_err-states-in-Boolean g t c = first_of (grind (arith, common_steps), search rules)

pub split_right-returns-in-And : goal.split_right-returns-in-And
split_right-returns-in-And g t c = first_of (grind (arith, common_steps), search rules)

pub split_right-returns-in-Or : goal.split_right-returns-in-Or
split_right-returns-in-Or g t c = first_of (grind (arith, common_steps), search rules)

pub split_unary-returns-in-Not : goal.split_unary-returns-in-Not
split_unary-returns-in-Not g t c = first_of (grind (arith, common_steps), search rules)

pub split_unary-returns-in_default : goal.split_unary-returns-in_default
split_unary-returns-in_default g t c = first_of (grind (arith, common_steps), search rules)
