use Rattle.std.proofs.Common.{◌<◌, length, rules, ◌∙◌}
use Rattle.pyc_bindings.proofs.PlaceLemmas.{declared_within, declared_early, declared_late, undeclared}
use Rattle.pyc_bindings.proofs.first_bindings.declaration_before.Goals as goal
use Rattle.pyc_bindings.proofs.first_bindings.declaration_before.Goals.{in_default-via-in-Some+else-place-count}
use Rattle.pyc_bindings.proofs.first_bindings.declaration_before.Goals.{in_default-via-in_default}

pub offset_bounds-bindings-place : goal.offset_bounds-bindings-place
offset_bounds-bindings-place c =
    let within : c.in-Some.place.now < length c.args.bindings.now =
    declared_within c.args.bindings.now c.args.name.now c.in-Some.place.now
    (c.in-Some.ensures.value ∙ c.requires c.args.name.now) in
    search rules

pub bounds-bindings-place : goal.bounds-bindings-place
bounds-bindings-place c =
    declared_within c.args.bindings.now c.args.name.now c.in-Some.place.now
    (c.in-Some.ensures.value ∙ c.requires c.args.name.now)

pub returns-in-Some : goal.returns-in-Some
returns-in-Some c =
    declared_early c.args.bindings.now c.args.name.now c.in-Some.place.now c.args.count
    c.index-bindings-place.result c.index-bindings-place.is
    (c.in-Some.ensures.value ∙ c.requires c.args.name.now) c.if-place-count.true

pub returns-in_default : goal.returns-in_default
returns-in_default c = elim c.in_default.branch [
  | in_default-via-in-Some+else-place-count w ↦
      declared_late c.args.bindings.now c.args.name.now w.in-Some.place.now c.args.count
      (w.in-Some.ensures.value ∙ c.requires c.args.name.now) w.if-place-count.false
  | in_default-via-in_default w ↦
      undeclared c.args.bindings.now c.args.name.now c.args.count
      (w.in_default.ensures.value ∙ c.requires c.args.name.now)
]
