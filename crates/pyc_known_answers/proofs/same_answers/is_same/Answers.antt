use Rattle.std.proofs.Common.{◌≡◌, subst, sym}
use Rattle.std.specs.Prelude.{Decides}
use Rattle.pyc_reading.specs.AnswerView.{answer_in}
use Rattle.pyc_known_answers.proofs.EqualityLemmas.{answers_decide}
use Rattle.pyc_known_answers.proofs.same_answers.is_same.Goals as goal

pub returns-clause-decides : goal.returns-clause-decides
returns-clause-decides c =
    subst (λ reported. Decides reported (answer_in c.args.answer.now ≡ answer_in c.args.other.now))
    (sym c.same_answer.ensures) (answers_decide (answer_in c.args.answer.now) (answer_in c.args.other.now))
