use Rattle.std.proofs.Common.{◌∙◌, ap, is_some, List, subst, sym}
use Rattle.pyc_iface.specs.Answers.{answer_by}
use Rattle.pyc_keys.specs.Numbering.{Numbering}
use Rattle.pyc_known_answers.specs.LookedAnswerView.{looked_in}
use Rattle.pyc_known_answers.specs.WorldView.{held_by, interfaces_by}
use Rattle.pyc_known_answers.specs.KnownAnswersView.{interfaces_of, IsOver}
use Rattle.pyc_names.specs.Interfaces.{Interface}
use Rattle.pyc_reading.specs.Keys.{Key}
use Rattle.pyc_known_answers.proofs.KeyChangeLemmas.{changed_is}
use Rattle.pyc_known_answers.proofs.changed_keys.compare.Goals as goal

pub find_or_form-requires-clause-held : goal.find_or_form-requires-clause-held
find_or_form-requires-clause-held c = ap (λ (h : Numbering Key). is_some (h c.args.id)) c.keys-keys.ensures ∙ c.requires.held

pub find_or_form-requires-clause-over : goal.find_or_form-requires-clause-over
find_or_form-requires-clause-over c =
    subst (λ (h : Numbering Key). IsOver h c.answers.result.now) (sym c.keys-keys.ensures) c.answers.ensures.over

pub is_answered_by-requires-clause-held : goal.is_answered_by-requires-clause-held
is_answered_by-requires-clause-held c = ap (λ (h : Numbering Key). is_some (h c.args.id)) c.keys-keys.ensures ∙ c.requires.held

pub is_answered_by-requires-clause-over : goal.is_answered_by-requires-clause-over
is_answered_by-requires-clause-over c = subst (λ (h : Numbering Key). IsOver h c.args.second.now) (sym c.keys-keys.ensures) c.requires.over

pub returns-clause-value : goal.returns-clause-value
returns-clause-value c =
    let id = c.args.id in
    let first = c.args.first.now in
    changed_is (answer_by (interfaces_by first)) (answer_by (interfaces_of c.args.second.now)) (held_by first id)
    (looked_in c.in_ok-before.before.value).answer c.in_ok-same.same c.requires.held
    (λ key at.
    (c.in_ok-before.ensures key (ap (λ (h : Numbering Key). h id) c.keys-keys.ensures ∙ at)).answers
    ∙ ap (λ (s : List Interface). answer_by s key) c.answers.ensures.world)
    (λ key at. c.in_ok-same.ensures.value key (ap (λ (h : Numbering Key). h id) c.keys-keys.ensures ∙ at))

pub returns-clause-over : goal.returns-clause-over
returns-clause-over c = subst (λ (h : Numbering Key). IsOver h c.is_answered_by.new.self) c.keys-keys.ensures c.is_answered_by.ensures.over

pub returns-in_err-same-clause-over : goal.returns-in_err-same-clause-over
returns-in_err-same-clause-over c = subst (λ (h : Numbering Key). IsOver h c.is_answered_by.new.self) c.keys-keys.ensures c.is_answered_by.ensures.over
