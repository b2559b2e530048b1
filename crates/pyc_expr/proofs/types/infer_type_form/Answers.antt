use Rattle.std.proofs.lemmas.Grind.{common_steps}
use Rattle.std.proofs.Common.{◌≡◌, List, map, option_map, Bor, ap, ◌∙◌, rules, arith}
use Rattle.pyc_ast.specs.declared.expr.DictItem.TheFolds.{the_lemmas}
use Rattle.pyc_ast.specs.Exprs as form
use Rattle.pyc_ast.specs.Exprs.{Form, Element, elements, DictItem, dict_items}
use Rattle.pyc_ast.specs.ExprView.{form_of, element_of, dict_item_of}
use Rattle.pyc_displays.specs.Displays.{tuple_display, list_display, set_display, dict_display}
use Rattle.pyc_expr.proofs.Rows.{element_row, dict_item_row}
use Rattle.pyc_expr_forms.specs.Contexts.{type_in}
use Rattle.pyc_expr.specs.Values.{infer_type_form}
use Rattle.pyc_obligations.proofs.Steps.{performs_same}
use Rattle.pyc_places.specs.StateView.{state_of}
use Rattle.pyc_type_forms.specs.declared.types.Ty.{Ty as TyOf}
use Rattle.pyc_type_forms.specs.TypeView.{ty_of}
use Rattle.pyc_expr.proofs.types.infer_type_form.Goals as goal

pub returns-in-Tuple : goal.returns-in-Tuple
returns-in-Tuple g c =
    let parts = g.P.InferValue.parts c.args.parts.now in
    let s = state_of c.args.state.now in
    let want = option_map (λ (ty : Bor TyOf). ty_of ty.now) c.args.want in
    let items = map element_of c.deref.result.now in
    let is : form_of c.args.e.now.form ≡ form.tuple (elements items) = rw (c.in-Tuple.is, c.deref.ensures.value) (search (rules, the_lemmas)) in
    performs_same _ _ _ _ _ _ (ap (λ (f : Form). infer_type_form (g.C.Context.context c.args.context.now) parts s c.args.e.now.inside want f) is
    ∙ ap (λ (l : List Element). tuple_display (type_in parts s) l want) (element_row items)) c.tuple_display.ensures

pub returns-in-List : goal.returns-in-List
returns-in-List g c =
    let parts = g.P.InferValue.parts c.args.parts.now in
    let s = state_of c.args.state.now in
    let want = option_map (λ (ty : Bor TyOf). ty_of ty.now) c.args.want in
    let items = map element_of c.deref-in-List.result.now in
    let is : form_of c.args.e.now.form ≡ form.list (elements items) = rw (c.in-List.is, c.deref-in-List.ensures.value) (search (rules, the_lemmas)) in
    performs_same _ _ _ _ _ _ (ap (λ (f : Form). infer_type_form (g.C.Context.context c.args.context.now) parts s c.args.e.now.inside want f) is
    ∙ ap (λ (l : List Element). list_display (type_in parts s) l want) (element_row items)) c.list_display.ensures

pub returns-in-Set : goal.returns-in-Set
returns-in-Set g c =
    let parts = g.P.InferValue.parts c.args.parts.now in
    let s = state_of c.args.state.now in
    let want = option_map (λ (ty : Bor TyOf). ty_of ty.now) c.args.want in
    let items = map element_of c.deref-in-Set.result.now in
    let is : form_of c.args.e.now.form ≡ form.set (elements items) = rw (c.in-Set.is, c.deref-in-Set.ensures.value) (search (rules, the_lemmas)) in
    performs_same _ _ _ _ _ _ (ap (λ (f : Form). infer_type_form (g.C.Context.context c.args.context.now) parts s c.args.e.now.inside want f) is
    ∙ ap (λ (l : List Element). set_display (type_in parts s) l want) (element_row items)) c.set_display.ensures

pub returns-in-Dict : goal.returns-in-Dict
returns-in-Dict g c =
    let parts = g.P.InferValue.parts c.args.parts.now in
    let s = state_of c.args.state.now in
    let want = option_map (λ (ty : Bor TyOf). ty_of ty.now) c.args.want in
    let items = map dict_item_of c.deref-in-Dict.result.now in
    let is : form_of c.args.e.now.form ≡ form.dict (dict_items items) = rw (c.in-Dict.is, c.deref-in-Dict.ensures.value) (search (rules, the_lemmas)) in
    performs_same _ _ _ _ _ _ (ap (λ (f : Form). infer_type_form (g.C.Context.context c.args.context.now) parts s c.args.e.now.inside want f) is
    ∙ ap (λ (l : List DictItem). dict_display (type_in parts s) l want) (dict_item_row items)) c.dict_display.ensures

pub returns-in_err-opaque_type-in-Unchecked : goal.returns-in_err-opaque_type-in-Unchecked
returns-in_err-opaque_type-in-Unchecked g c = first_of (grind (arith, common_steps), search rules)
