use Rattle.std.proofs.Common.{◌≡◌, Some, None, option_map, ap, sym, ◌∙◌}
use Rattle.std.proofs.lemmas.Bool.{ltb-true, ltb-false}
use Rattle.std.proofs.lemmas.List.{take-map}
use Rattle.std.proofs.lemmas.Option.{slice_get-map, slice_get_past}
use Rattle.std.specs.List.{slice_get}
use Rattle.pyc_types.proofs.PlaceLemmas.{looked_at}
use Rattle.pyc_types.specs.Slots.{slot_of, slots_in}
use Rattle.pyc_types.proofs.fitting.server.Goals as goal

pub returns-in-Some : goal.returns-in-Some
returns-in-Some c =
    let e : slice_get (slots_in c.args.wants.now) c.args.j ≡ Some (slot_of c.in-Some.want.now) =
    slice_get-map slot_of c.args.wants.now c.args.j ∙ ap (option_map slot_of) (looked_at c.args.wants.now c.args.j c.in-Some.want.now (ltb-true c.args.j _ (sym c.in-Some.ensures.lookup.0)) c.in-Some.ensures.lookup.1) in
    rw (e, take-map slot_of c.args.j c.args.wants.now) (rw (c.count_plain.ensures, c.count_plain-in-Some.ensures) at c.server_of.ensures)

pub returns-in-None : goal.returns-in-None
returns-in-None c =
    let e : slice_get (slots_in c.args.wants.now) c.args.j ≡ None =
    slice_get-map slot_of c.args.wants.now c.args.j ∙ ap (option_map slot_of) (slice_get_past c.args.wants.now c.args.j (ltb-false c.args.j _ (sym c.in-None.ensures.lookup.0))) in
    rw e (λ i. None)
