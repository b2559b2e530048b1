use Rattle.std.proofs.Common.{◌≡◌, List, sym, subst, map, rules}
use Rattle.std.specs.Result.{IfOk}
use Rattle.pyc_displays.proofs.Parts.{types_in-tys_of}
use Rattle.pyc_displays.specs.Expecting.{if_as_many, tuple_places}
use Rattle.pyc_type_forms.specs.declared.types.Params.TheFolds.{the_lemmas}
use Rattle.pyc_type_forms.specs.Types.{Ty, tuple}
use Rattle.pyc_type_forms.specs.TypeView.{ty_of, tys_of}
use Rattle.pyc_displays.proofs.expecting.tuple_places.Goals as goal

pub returns-in-Tuple : goal.returns-in-Tuple
returns-in-Tuple c =
    let tys = map ty_of c.deref-in-Tuple.result.now in
    let is : ty_of c.args.ty.now ≡ tuple (tys_of tys) = rw (c.in-Tuple.is, c.deref-in-Tuple.ensures.value, c.deref.ensures) (search (rules, the_lemmas)) in
    subst (λ (ty : Ty). IfOk c.if_as_many.result (λ places. map ty_of places.items ≡ tuple_places c.args.count ty)) (sym is)
    (subst (λ (l : List Ty). IfOk c.if_as_many.result (λ places. map ty_of places.items ≡ if_as_many c.args.count l)) (sym (types_in-tys_of tys)) c.if_as_many.ensures)
