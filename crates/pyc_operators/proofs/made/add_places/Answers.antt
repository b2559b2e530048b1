use Rattle.std.proofs.Common.{◌≡◌, ◌∙◌, ap, map, rules}
use Rattle.pyc_operators.proofs.Rows.{row_types}
use Rattle.pyc_operators.specs.Made.{places_of}
use Rattle.pyc_type_forms.specs.declared.types.Params.TheFolds.{the_lemmas}
use Rattle.pyc_type_forms.specs.Types.{tuple}
use Rattle.pyc_type_forms.specs.TypeView.{ty_of, row}
use Rattle.pyc_operators.proofs.made.add_places.Goals as goal

pub returns-in-Tuple : goal.returns-in-Tuple
returns-in-Tuple c =
    let tuple_is : ty_of c.args.ty.now ≡ tuple (row c.deref-in-Tuple.result.now) = rw c.in-Tuple.is (search (rules, the_lemmas)) in
    let places : places_of (ty_of c.args.ty.now) ≡ map ty_of c.deref-in-Tuple.result.now = ap places_of tuple_is ∙ row_types c.deref-in-Tuple.result.now in
    rw places c.add_each.ensures
