use Rattle.std.proofs.Common.{◌≡◌, ◌∙◌, ◌∷◌, ap, arith, length, map, subst, sym}
use Rattle.std.specs.Vec.Iter.{into_iter_items}
use Rattle.pyc_known_answers.specs.LookedAnswerView.{looked_in}
use Rattle.pyc_known_answers.specs.KnownAnswersView.{interfaces_of, known_at, HasPlace}
use Rattle.pyc_keys.specs.Marks.{is_in}
use Rattle.pyc_known_answers.specs.KnownAnswers.{with_items}
use Rattle.pyc_known_answers.specs.LookedAnswers.{IsAnswerOf}
use Rattle.pyc_known_answers.proofs.KnownLemmas.{AreLeft, first_left, none_left, in_first, in_rest, with_no_item, with_no_number}
use Rattle.pyc_known_answers.proofs.known_answers.KnownAnswers.keep_all.Goals as goal

pub loop-answer-preserved-in-Some-split_first : goal.loop-answer-preserved-in-Some-split_first
loop-answer-preserved-in-Some-split_first c = record {
  world = c.keep_reserved.ensures.world ∙ c.loop-answer.invariant.world;
  count =
      let was = c.loop-answer.invariant.count in
      let gone = c.in-Some.ensures.steps.1 in
      let short = ap (λ xs. length xs) c.in-Some.ensures.steps.0 in
      omega arith;
  places = λ have i is.
      c.keep_reserved.ensures.places i (c.loop-answer.invariant.places have i
      (ap (λ ids. is_in ids i) c.in-Some-split_first.ensures.cases.0 ∙ in_rest c.in-Some-split_first.id.now c.in-Some-split_first.others.now i is));
  known = λ have.
      let after = map (λ answer. looked_in answer.value) (into_iter_items c.next.new.self) in
      let before = known_at c.loop-answer.self in
      let place : HasPlace c.loop-answer.self c.in-Some-split_first.id.now =
      c.loop-answer.invariant.places have c.in-Some-split_first.id.now
      (ap (λ ids. is_in ids c.in-Some-split_first.id.now) c.in-Some-split_first.ensures.cases.0
      ∙ in_first c.in-Some-split_first.id.now c.in-Some-split_first.others.now) in
      ap (λ known. with_items known c.in-Some-split_first.others.now after) (c.keep_reserved.ensures.known place)
      ∙ ap (λ ids. with_items before ids (looked_in c.in-Some.answer.value ∷ after)) (sym c.in-Some-split_first.ensures.cases.0)
      ∙ ap (λ answers. with_items before c.loop-answer.rest.now (map (λ answer. looked_in answer.value) answers)) (sym c.in-Some.ensures.steps.0)
      ∙ c.loop-answer.invariant.known have;
  over = λ keys asked are of given.
      let interfaces = interfaces_of c.args.self.now in
      let after = into_iter_items c.next.new.self in
      let held = c.loop-answer.invariant.over keys asked are of given in
      let next =
      first_left keys (λ answer. looked_in answer.value) interfaces c.in-Some-split_first.id.now c.in-Some-split_first.others.now c.in-Some.answer after
      (subst (λ ids. AreLeft keys (λ answer. looked_in answer.value) interfaces ids (c.in-Some.answer ∷ after)) c.in-Some-split_first.ensures.cases.0
      (subst (λ answers. AreLeft keys (λ answer. looked_in answer.value) interfaces c.loop-answer.rest.now answers) c.in-Some.ensures.steps.0 held.1))
      in (
        c.keep_reserved.ensures.over keys next.0 held.0 next.1
            (subst (λ world. IsAnswerOf world next.0 (looked_in c.in-Some.answer.value)) (sym c.loop-answer.invariant.world) next.2),
        next.3,
      );
}

pub loop-answer-preserved : goal.loop-answer-preserved
loop-answer-preserved c = record {
  world = c.loop-answer.invariant.world;
  count =
      let was = c.loop-answer.invariant.count in
      let gone = c.in-Some.ensures.steps.1 in
      let short = ap (λ xs. length xs) c.in-Some.ensures.steps.0 in
      omega arith;
  places = c.loop-answer.invariant.places;
  known = λ have.
      let before = known_at c.loop-answer.self in
      with_no_number before c.loop-answer.rest.now (map (λ answer. looked_in answer.value) (into_iter_items c.next.new.self)) c.in_default.ensures.cases
      ∙ sym (with_no_number before c.loop-answer.rest.now (map (λ answer. looked_in answer.value) (into_iter_items c.loop-answer.answer-iterator)) c.in_default.ensures.cases)
      ∙ c.loop-answer.invariant.known have;
  over = λ keys asked are of given.
      let held = c.loop-answer.invariant.over keys asked are of given in
      absurd (none_left keys (λ answer. looked_in answer.value) (interfaces_of c.args.self.now) c.loop-answer.rest.now c.in-Some.answer
      (into_iter_items c.next.new.self) c.in_default.ensures.cases
      (subst (λ answers. AreLeft keys (λ answer. looked_in answer.value) (interfaces_of c.args.self.now) c.loop-answer.rest.now answers)
      c.in-Some.ensures.steps.0 held.1));
}

pub returns-clause-over : goal.returns-clause-over
returns-clause-over c = λ keys asked are of given. (c.loop-answer.invariant.over keys asked are of given).0

pub returns-clause-known : goal.returns-clause-known
returns-clause-known c = λ have.
    let left = into_iter_items c.loop-answer.answer-iterator in
    let none : length left ≡ 0 = sym c.loop-answer.invariant.count ∙ c.in-None.ensures.steps.0 in
    sym (with_no_item (known_at c.loop-answer.self) c.loop-answer.rest.now (λ answer. looked_in answer.value) left none) ∙ c.loop-answer.invariant.known have
