use Rattle.std.proofs.Common.{◌≡◌, ◌∙◌, ◌&&◌, ◌++◌, ◌∷◌, ◌-◌, [], length, take, option_map, ap, sym, rules, Bool}
use Rattle.pyc_ast.specs.declared.expr.DictItem.TheFolds.{the_lemmas}
use Rattle.pyc_ast.specs.Exprs.{Expr, expr, attribute}
use Rattle.pyc_ast.specs.ExprView.{expr_of}
use Rattle.pyc_places.proofs.NameLemmas.{below_same, below_none, ends_in}
use Rattle.pyc_places.specs.Places.{Place, place_of, is_place}
use Rattle.pyc_places.proofs.places.+names.Goals as goal

pub are_below-returns-in-empty : goal.are_below-returns-in-empty
are_below-returns-in-empty t c = sym (below_none c.args.names.now c.args.name.now (place_of (expr_of c.args.owner.now)) c.in-empty.len_below)

pub are_below-returns-then-eq : goal.are_below-returns-then-eq
are_below-returns-then-eq t c =
    let names = c.args.names.now in
    let rest = take (length names - 1) names in
    let owner = place_of (expr_of c.args.owner.now) in
    c.has_names.ensures ∙ ap (λ (b : Bool). b && is_place rest owner) (sym c.if-eq.true ∙ c.eq.ensures)
    ∙ sym (below_same names rest c.last-item.result c.args.name.now owner (ends_in names c.last-item.result c.in-len1-up.len_at_least c.last-item.is))

pub are_below-returns-else-eq : goal.are_below-returns-else-eq
are_below-returns-else-eq t c =
    let names = c.args.names.now in
    let rest = take (length names - 1) names in
    let owner = place_of (expr_of c.args.owner.now) in
    c.if-eq.false ∙ ap (λ (b : Bool). b && is_place rest owner) (sym c.if-eq.false ∙ c.eq.ensures)
    ∙ sym (below_same names rest c.last-item.result c.args.name.now owner (ends_in names c.last-item.result c.in-len1-up.len_at_least c.last-item.is))

pub has_names-returns-in-Attribute : goal.has_names-returns-in-Attribute
unfolding place_of
has_names-returns-in-Attribute t c =
    let e = c.args.e.now in
    let names = c.args.names.now in
    let k : expr_of e ≡ expr e.at e.inside (attribute (expr_of c.in-Attribute.value.value) c.in-Attribute.name) = rw c.in-Attribute.is (search (rules, the_lemmas)) in
    c.are_below.ensures
    ∙ ap (λ owner. is_place names (option_map (λ (place : Place). place ++ (c.in-Attribute.name ∷ [])) (place_of (expr_of owner)))) c.deref.ensures
    ∙ sym (ap (λ (x : Expr). is_place names (place_of x)) k)
