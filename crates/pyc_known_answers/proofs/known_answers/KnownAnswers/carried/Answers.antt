use Rattle.std.proofs.Common.{◌∙◌, ap, map, option_map}
use Rattle.pyc_iface.specs.PlainWorldView.{world_in}
use Rattle.pyc_known_answers.specs.CarryLaws.{carried}
use Rattle.pyc_known_answers.specs.LookedAnswerView.{looked_in}
use Rattle.pyc_known_answers.specs.KnownAnswersView.{interfaces_of, known_at}
use Rattle.pyc_known_answers.proofs.CarryLemmas.{carried_over, carried_slots}
use Rattle.pyc_known_answers.proofs.known_answers.KnownAnswers.carried.Goals as goal

pub returns-clause-known : goal.returns-clause-known
returns-clause-known c =
    carried_slots (λ shared. looked_in shared.value) c.args.flags.now c.args.self.now.known.items c.in_ok-known.known.items
    (c.in_ok-known.ensures ∙ ap (λ known. map (carried c.args.flags.now) (map (option_map (λ shared. looked_in shared.value)) known)) c.deref.ensures.value)

pub returns-clause-over : goal.returns-clause-over
returns-clause-over c =
    λ keys stay are.
    carried_over c.args.flags.now (interfaces_of c.args.self.now) (world_in c.args.world.value) keys (known_at c.args.self.now) _ stay (returns-clause-known c) are
