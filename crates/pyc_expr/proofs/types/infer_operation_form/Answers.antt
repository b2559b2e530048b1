use Rattle.std.proofs.Common.{◌≡◌, List, map, option_map, Bor, ap, ◌∙◌, rules}
use Rattle.pyc_ast.specs.declared.expr.DictItem.TheFolds.{the_lemmas}
use Rattle.pyc_ast.specs.Exprs.{Form, Argument, arguments, call}
use Rattle.pyc_ast.specs.ExprView.{expr_of, form_of, argument_of}
use Rattle.pyc_expr.proofs.Rows.{argument_row}
use Rattle.pyc_expr_forms.specs.CallValues.{call_type}
use Rattle.pyc_expr.specs.Values.{infer_operation_form}
use Rattle.pyc_obligations.proofs.Steps.{performs_same}
use Rattle.pyc_places.specs.StateView.{state_of}
use Rattle.pyc_type_forms.specs.declared.types.Ty.{Ty as TyOf}
use Rattle.pyc_type_forms.specs.TypeView.{ty_of}
use Rattle.pyc_expr.proofs.types.infer_operation_form.Goals as goal

pub returns-in-Call : goal.returns-in-Call
returns-in-Call g c =
    let context = g.C.Context.context c.args.context.now in
    let parts = g.P.InferValue.parts c.args.parts.now in
    let s = state_of c.args.state.now in
    let at = c.args.e.now.inside in
    let want = option_map (λ (ty : Bor TyOf). ty_of ty.now) c.args.want in
    let callee = expr_of c.deref.result.now in
    let given = map argument_of c.deref-in-Call.result.now in
    let is : form_of c.args.e.now.form ≡ call callee (arguments given) = rw (c.in-Call.is, c.deref.ensures, c.deref-in-Call.ensures.value) (search (rules, the_lemmas)) in
    performs_same _ _ _ _ _ _ (ap (λ (f : Form). infer_operation_form context parts s at want f) is
    ∙ ap (λ (l : List Argument). call_type context parts s at callee l) (argument_row given)) c.call_type.ensures
