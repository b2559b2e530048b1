use Rattle.std.proofs.Common.{◌<◌, length, rules, ◌∙◌, sym, Some, ap}
use Rattle.pyc_type_forms.specs.TypeView.{ty_of}
use Rattle.pyc_places.specs.declared.narrowings.Narrowing.{Narrowing as NarrowingOf}
use Rattle.pyc_places.proofs.LookupLemmas.{placed_within, type_never, type_placed}
use Rattle.pyc_places.proofs.lookup.type_by.Goals as goal

pub offset_bounds-narrowings-index : goal.offset_bounds-narrowings-index
offset_bounds-narrowings-index c =
    let within : c.in-Some.index < length c.args.narrowings.now =
    placed_within c.args.narrowings.now c.args.place.now c.in-Some.index (sym c.in-Some.is ∙ c.requires) in
    search rules

pub bounds-narrowings-index : goal.bounds-narrowings-index
bounds-narrowings-index c =
    placed_within c.args.narrowings.now c.args.place.now c.in-Some.index (sym c.in-Some.is ∙ c.requires)

pub returns-in-Some : goal.returns-in-Some
returns-in-Some c =
    ap (λ (n : NarrowingOf). Some (ty_of n.ty)) c.deref.ensures
    ∙ type_placed c.args.narrowings.now c.args.place.now c.in-Some.index c.index-narrowings-index.result
    c.index-narrowings-index.is (sym c.in-Some.is ∙ c.requires)

pub returns-in-None : goal.returns-in-None
returns-in-None c = type_never c.args.narrowings.now c.args.place.now (sym c.in-None.is ∙ c.requires)
