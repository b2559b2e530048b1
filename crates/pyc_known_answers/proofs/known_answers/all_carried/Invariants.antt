use Rattle.std.proofs.Common.{◌≡◌, map, option_map, take}
use Rattle.pyc_known_answers.specs.CarryLaws.{carried}
use Rattle.pyc_known_answers.specs.LookedAnswerView.{looked_in}
use Rattle.pyc_known_answers.proofs.known_answers.all_carried.Given as goal

-- what stays known of those so far
abbrev pub invariant-loop-answer : goal.invariant-loop-answer
invariant-loop-answer l =
    map (option_map (λ shared. looked_in shared.value)) l.kept.items
    ≡ map (carried l.flags) (map (option_map (λ shared. looked_in shared.value)) (take l.answer-index l.known))
