use Rattle.std.proofs.Common.{◌≡◌, false, ap, sym, ◌∙◌}
use Rattle.pyc_class_ids.specs.Mro.{is_unknown}
use Rattle.pyc_type_forms.specs.TypeView.{ty_of}
use Rattle.pyc_types.specs.Going.{goes_by}
use Rattle.pyc_types.proofs.GoingLemmas.{by_known, by_unknown}
use Rattle.pyc_types.proofs.assigning.going.instance_goes_to.Goals as goal

-- the order is unknown
pub returns-then-is_unknown : goal.returns-then-is_unknown
returns-then-is_unknown g c =
    by_unknown (g.L.Lins.orders c.args.lins.now) c.args.class.now (ty_of c.args.want.now)
    (ap is_unknown (sym c.lin-order.ensures) ∙ sym c.is_unknown.ensures ∙ c.if-is_unknown.true)

-- the order is known
pub returns : goal.returns
returns g c =
    let o = g.L.Lins.orders c.args.lins.now in
    let known : is_unknown (o c.args.class.now) ≡ false = ap is_unknown (sym c.lin-order.ensures) ∙ sym c.is_unknown.ensures ∙ c.if-is_unknown.false in
    c.goes_by.ensures ∙ ap (λ order. goes_by order (ty_of c.args.want.now)) c.lin-order.ensures ∙ sym (by_known o c.args.class.now known (ty_of c.args.want.now))
