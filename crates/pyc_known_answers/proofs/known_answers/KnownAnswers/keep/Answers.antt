use Rattle.std.proofs.Common.{◌∙◌, ap, refl}
use Rattle.pyc_keys.specs.Numbering.{with_item}
use Rattle.pyc_known_answers.specs.LookedAnswerView.{looked_in}
use Rattle.pyc_known_answers.specs.KnownAnswersView.{interfaces_of, known_at}
use Rattle.pyc_known_answers.proofs.KnownLemmas.{one_more_kept, over_same}
use Rattle.pyc_known_answers.proofs.SlotLemmas.{put_at}
use Rattle.pyc_known_answers.proofs.known_answers.KnownAnswers.keep.Goals as goal

pub returns-in_err-cover-clause-over : goal.returns-in_err-cover-clause-over
returns-in_err-cover-clause-over c =
    let self = c.args.self.now in
    λ keys key are held is.
    over_same (interfaces_of self) (interfaces_of c.cover.new.self) keys (known_at self) (known_at c.cover.new.self) c.cover.ensures.world c.cover.ensures.same are

pub returns-clause-kept : goal.returns-clause-kept
returns-clause-kept c =
    put_at (λ shared. looked_in shared.value) c.cover.new.self.known.items c.number-number.result c.args.answer c.in_ok-cover.ensures.covered
    ∙ ap (λ known. with_item known c.number-number.result (looked_in c.args.answer.value)) c.cover.ensures.same
    ∙ ap (λ number. with_item (known_at c.args.self.now) number (looked_in c.args.answer.value)) c.number-number.ensures

pub returns-clause-over : goal.returns-clause-over
returns-clause-over c =
    let self = c.args.self.now in
    λ keys key are held is.
    over_same (interfaces_of self) (interfaces_of c.cover.new.self) keys (with_item (known_at self) c.args.id (looked_in c.args.answer.value)) _ c.cover.ensures.world
    (returns-clause-kept c)
    (one_more_kept (interfaces_of self) keys (known_at self) (with_item (known_at self) c.args.id (looked_in c.args.answer.value)) c.args.id
    (looked_in c.args.answer.value) key are held is refl)
