use Rattle.std.proofs.Common.{◌<◌, length, rules, ◌∙◌}
use Rattle.pyc_bindings.proofs.PlaceLemmas.{declared_within, declared_at, declared_never}
use Rattle.pyc_bindings.proofs.first_bindings.declaration_at.Goals as goal

pub offset_bounds-bindings-place : goal.offset_bounds-bindings-place
offset_bounds-bindings-place c =
    let within : c.in-Some.place.now < length c.args.bindings.now =
    declared_within c.args.bindings.now c.args.name.now c.in-Some.place.now
    (c.in-Some.ensures.value ∙ c.requires c.args.name.now) in
    search rules

pub bounds-bindings-place : goal.bounds-bindings-place
bounds-bindings-place c =
    declared_within c.args.bindings.now c.args.name.now c.in-Some.place.now
    (c.in-Some.ensures.value ∙ c.requires c.args.name.now)

pub returns-in-Some : goal.returns-in-Some
returns-in-Some c =
    declared_at c.args.bindings.now c.args.name.now c.in-Some.place.now c.index-bindings-place.result
    c.index-bindings-place.is (c.in-Some.ensures.value ∙ c.requires c.args.name.now)

pub returns-in-None : goal.returns-in-None
returns-in-None c =
    declared_never c.args.bindings.now c.args.name.now (c.in-None.ensures.value ∙ c.requires c.args.name.now)
