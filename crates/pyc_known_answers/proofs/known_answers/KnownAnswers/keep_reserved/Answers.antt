use Rattle.std.proofs.Common.{◌∙◌, ap, arith, refl}
use Rattle.pyc_keys.specs.Numbering.{with_item}
use Rattle.pyc_known_answers.specs.LookedAnswerView.{looked_in}
use Rattle.pyc_known_answers.specs.KnownAnswersView.{interfaces_of, known_at}
use Rattle.pyc_known_answers.proofs.KnownLemmas.{one_more_kept, over_same}
use Rattle.pyc_known_answers.proofs.SlotLemmas.{put_at}
use Rattle.pyc_known_answers.proofs.known_answers.KnownAnswers.keep_reserved.Goals as goal

pub returns-then-number-len-clause-over : goal.returns-then-number-len-clause-over
returns-then-number-len-clause-over c =
    let self = c.args.self.now in
    λ keys key are held is.
    over_same (interfaces_of self) (interfaces_of self) keys (with_item (known_at self) c.args.id (looked_in c.args.answer.value)) _ refl
    (put_at (λ shared. looked_in shared.value) self.known.items c.number-number.result c.args.answer
    (omega (arith, c.if-number-len.true, c.len.ensures))
    ∙ ap (λ number. with_item (known_at self) number (looked_in c.args.answer.value)) c.number-number.ensures)
    (one_more_kept (interfaces_of self) keys (known_at self) (with_item (known_at self) c.args.id (looked_in c.args.answer.value)) c.args.id
    (looked_in c.args.answer.value) key are held is refl)

pub returns-then-number-len-clause-known : goal.returns-then-number-len-clause-known
returns-then-number-len-clause-known c =
    λ place.
    put_at (λ shared. looked_in shared.value) c.args.self.now.known.items c.number-number.result c.args.answer (omega (arith, c.if-number-len.true, c.len.ensures))
    ∙ ap (λ number. with_item (known_at c.args.self.now) number (looked_in c.args.answer.value)) c.number-number.ensures
