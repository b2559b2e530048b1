use Rattle.std.proofs.Common.{subst, sym}
use Rattle.pyc_recorder.proofs.KeptLemmas.{still_answers}
use Rattle.pyc_recorder.specs.KeptAnswers.{AreAnswers}
use Rattle.pyc_recorder.proofs.kept.keep.Goals as goal

pub returns-in_err-insert-clause-answers : goal.returns-in_err-insert-clause-answers
returns-in_err-insert-clause-answers c =
    λ interfaces is all. subst (AreAnswers interfaces) (sym c.in_err-insert.ensures.err) all

pub returns-clause-answers : goal.returns-clause-answers
returns-clause-answers c =
    λ interfaces is all.
    subst (AreAnswers interfaces) (sym c.in_ok-insert.ensures.entries)
    (still_answers interfaces c.args.asked c.args.answer c.args.kept.now.entries is all)
