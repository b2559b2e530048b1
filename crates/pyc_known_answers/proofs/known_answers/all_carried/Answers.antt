use Rattle.std.proofs.Common.{◌≡◌, ◌≤◌, ◌∙◌, ap, arith, length, map, option_map, take}
use Rattle.std.proofs.lemmas.List.{take_all}
use Rattle.pyc_known_answers.proofs.CarryLemmas.{carried_more}
use Rattle.pyc_known_answers.specs.CarryLaws.{carried}
use Rattle.pyc_known_answers.specs.LookedAnswerView.{looked_in}
use Rattle.pyc_known_answers.proofs.known_answers.all_carried.Goals as goal

pub loop-answer-preserved : goal.loop-answer-preserved
loop-answer-preserved c =
    carried_more (λ shared. looked_in shared.value) c.args.flags.now c.args.known.now c.loop-answer.kept.items c.push.new.self.items
    c.loop-answer.answer-index c.answer-item.result c.in_ok-one.one c.loop-answer-test.true c.answer-item.is c.in_ok-one.ensures
    c.in_ok-push.ensures.items c.loop-answer.invariant

pub returns : goal.returns
returns c =
    let known = c.args.known.now in
    let past : length known ≤ c.loop-answer.answer-index = omega (arith, c.loop-answer-test.false) in
    c.loop-answer.invariant
    ∙ ap (λ xs. map (carried c.args.flags.now) (map (option_map (λ shared. looked_in shared.value)) xs)) (take_all c.loop-answer.answer-index known past)
