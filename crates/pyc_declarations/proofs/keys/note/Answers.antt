use Rattle.std.proofs.lemmas.Grind.{common_steps}
use Rattle.pyc_declarations.specs.SameKeys.{is_same}
use Rattle.std.proofs.Common.{◌∷◌, [], refl, arith, rules}
use Rattle.std.proofs.lemmas.List.{map-append}
use Rattle.pyc_reading.specs.KeyView.{key_of}
use Rattle.pyc_declarations.proofs.keys.note.Goals as goal

pub returns-in_ok-push-clause-more : goal.returns-in_ok-push-clause-more
returns-in_ok-push-clause-more c = (key_of c.args.key ∷ [], rw (c.in_ok-push.ensures.items, map-append) refl)

pub returns-else-not-is_among : goal.returns-else-not-is_among
unfolding is_same
returns-else-not-is_among c = first_of (grind (arith, common_steps), search rules)

pub returns-in_err-push : goal.returns-in_err-push
unfolding is_same
returns-in_err-push c = first_of (grind (arith, common_steps), search rules)
