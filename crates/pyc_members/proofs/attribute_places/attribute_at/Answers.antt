use Rattle.std.proofs.Common.{◌<◌, length, rules, ◌∙◌}
use Rattle.pyc_members.proofs.AttributePlaceLemmas.{placed_within, placed_at, placed_never}
use Rattle.pyc_members.proofs.attribute_places.attribute_at.Goals as goal

pub offset_bounds-attributes-place : goal.offset_bounds-attributes-place
offset_bounds-attributes-place c =
    let within : c.in-Some.place.now < length c.args.attributes.now =
    placed_within c.args.are_annotated c.args.attributes.now c.args.name.now c.in-Some.place.now
    (c.in-Some.ensures.value ∙ c.requires c.args.name.now) in
    search rules

pub bounds-attributes-place : goal.bounds-attributes-place
bounds-attributes-place c =
    placed_within c.args.are_annotated c.args.attributes.now c.args.name.now c.in-Some.place.now
    (c.in-Some.ensures.value ∙ c.requires c.args.name.now)

pub returns-in-Some : goal.returns-in-Some
returns-in-Some c =
    placed_at c.args.are_annotated c.args.attributes.now c.args.name.now c.in-Some.place.now
    c.index-attributes-place.result c.index-attributes-place.is
    (c.in-Some.ensures.value ∙ c.requires c.args.name.now)

pub returns-in-None : goal.returns-in-None
returns-in-None c =
    placed_never c.args.are_annotated c.args.attributes.now c.args.name.now
    (c.in-None.ensures.value ∙ c.requires c.args.name.now)
