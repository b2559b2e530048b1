use Rattle.std.proofs.lemmas.Grind.{common_steps}
use Rattle.std.proofs.Common.{◌≡◌, Bool, if◌then◌else◌, option_map, Bor, ap, sym, ◌∙◌, rules, arith}
use Rattle.pyc_ast.specs.declared.expr.DictItem.TheFolds.{the_lemmas}
use Rattle.pyc_ast.specs.Exprs.{Expr, expr, boolean}
use Rattle.pyc_ast.specs.ExprView.{expr_of}
use Rattle.pyc_expr_forms.specs.ChainView.{chain_of}
use Rattle.pyc_expr_forms.specs.Choices.{infer_chain, first_side, next_side}
use Rattle.pyc_places.specs.StateView.{state_of}
use Rattle.pyc_reading.proofs.RunLemmas.{after, grown_trans}
use Rattle.pyc_reading.specs.Traces.{run}
use Rattle.pyc_reading.specs.Readings.{and_then}
use Rattle.pyc_type_forms.specs.declared.types.Ty.{Ty as TyOf}
use Rattle.pyc_type_forms.specs.TypeView.{ty_of}
use Rattle.pyc_expr_forms.proofs.choices.+infer_chain.Goals as goal

pub returns-in_ok-both-in-Boolean : goal.returns-in_ok-both-in-Boolean
returns-in_ok-both-in-Boolean g t c =
    let parts = g.P.InferValue.parts c.args.parts.now in
    let s = state_of c.args.state.now in
    let want = option_map (λ (ty : Bor TyOf). ty_of ty.now) c.args.want in
    let operator = c.args.operator in
    let trace = g.N.Ask.trace c.args.recorder.now in
    let left = expr_of c.deref.result.now in
    let right = expr_of c.deref-then-same_operator.result.now in
    let e = expr c.args.e.now.at c.args.e.now.inside (boolean c.in-Boolean.inner left right) in
    let form : expr_of c.args.e.now ≡ e = rw (c.deref.ensures, c.deref-then-same_operator.ensures) (search (rules, the_lemmas, c.in-Boolean.is)) in
    record {
      done =
          ap (λ (x : Expr). run (infer_chain parts s want operator x) trace) form
          ∙ ap (λ (b : Bool). run (if b then and_then (infer_chain parts s want operator left) (next_side parts want operator right) else first_side parts s want operator e) trace)
          (sym c.same_operator.ensures ∙ c.if-same_operator.true)
          ∙ after (infer_chain parts s want operator left) (next_side parts want operator right) trace (g.N.Ask.trace c.infer_chain.new.recorder) (g.N.Ask.trace c.next_side.new.recorder) (chain_of c.in_ok-first-in-Boolean.first) (chain_of c.in_ok-both-in-Boolean.both) c.in_ok-first-in-Boolean.ensures.done c.in_ok-both-in-Boolean.ensures.done;
      grown = grown_trans c.infer_chain.ensures.grown c.next_side.ensures.grown;
    }

pub returns-in_err-both-in-Boolean : goal.returns-in_err-both-in-Boolean
returns-in_err-both-in-Boolean g t c = first_of (grind (arith, common_steps), search rules)

pub returns-in_err-first-in-Boolean : goal.returns-in_err-first-in-Boolean
returns-in_err-first-in-Boolean g t c = first_of (grind (arith, common_steps), search rules)
