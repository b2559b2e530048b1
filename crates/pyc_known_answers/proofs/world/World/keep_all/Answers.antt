use Rattle.std.proofs.Common.{◌≡◌, ◌∙◌, ap, length, map, subst, sym}
use Rattle.pyc_keys.proofs.NumberingLemmas.{extends_same}
use Rattle.pyc_keys.specs.KeyNumbers.{key_at}
use Rattle.pyc_keys.specs.Numbering.{AreOf, Numbering, without_all}
use Rattle.pyc_reading.specs.KeyView.{key_of}
use Rattle.pyc_known_answers.specs.LookedAnswerView.{looked_in}
use Rattle.pyc_known_answers.specs.KnownAnswers.{AreKnownOf, with_items}
use Rattle.pyc_known_answers.specs.LookedAnswers.{LookedAnswer, AreAnswersOf}
use Rattle.pyc_known_answers.specs.KnownAnswersView.{HavePlaces, interfaces_of, known_at}
use Rattle.pyc_known_answers.proofs.KnownLemmas.{given_known, has_place, over_same, plain, plain_values, stay_with_more_keys, still_known}
use Rattle.pyc_known_answers.proofs.world.World.keep_all.Goals as goal

pub invariant_of-self : goal.invariant_of-self
invariant_of-self c =
    let self = c.args.self.now in
    record {
      are_over = stay_with_more_keys (interfaces_of self.answers) (key_at self.keys) (key_at c.intern_all.new.self) (known_at self.answers)
          c.intern_all.ensures.extends self.are_over;
    }

pub invariant_of-self-in-Ok : goal.invariant_of-self-in-Ok
invariant_of-self-in-Ok c =
    let self = c.args.self.now in
    let held = key_at c.intern_all.new.self in
    let asked = map key_of c.args.keys.now in
    let given = map (λ answer. looked_in answer.value) c.args.answers.items in
    record {
      are_over = c.keep_all.ensures.over held asked
          (stay_with_more_keys (interfaces_of c.cover.new.self) (key_at self.keys) held (known_at c.cover.new.self) c.intern_all.ensures.extends
          (over_same (interfaces_of self.answers) (interfaces_of c.cover.new.self) (key_at self.keys) (known_at self.answers)
          (known_at c.cover.new.self) c.cover.ensures.world c.cover.ensures.same self.are_over))
          (subst (λ ids. AreOf held ids asked) (sym c.deref.ensures.value) c.in_ok-interned.ensures.held)
          (subst (λ interfaces. AreAnswersOf interfaces asked given) (sym c.cover.ensures.world) c.requires);
    }

pub returns-in-Ok-clause-known : goal.returns-in-Ok-clause-known
returns-in-Ok-clause-known c =
    let self = c.args.self.now in
    let held = key_at c.intern_all.new.self in
    let asked = map key_of c.args.keys.now in
    let ids = c.in_ok-interned.interned.ids.items in
    let given = map (λ answer. looked_in answer.value) c.args.answers.items in
    let of : AreOf held ids asked = c.in_ok-interned.ensures.held in
    let places : HavePlaces c.cover.new.self ids =
    has_place held ids asked c.bound.result (length c.cover.new.self.known.items) of c.bound.ensures c.in-Ok.ensures.covered in
    subst (AreOf (plain (known_at c.keep_all.new.self)) ids) (plain_values (λ answer. looked_in answer.value) c.args.answers.items)
    (given_known (interfaces_of c.cover.new.self) held (known_at c.cover.new.self) (known_at c.keep_all.new.self) ids asked given
    (stay_with_more_keys (interfaces_of c.cover.new.self) (key_at self.keys) held (known_at c.cover.new.self) c.intern_all.ensures.extends
    (over_same (interfaces_of self.answers) (interfaces_of c.cover.new.self) (key_at self.keys) (known_at self.answers)
    (known_at c.cover.new.self) c.cover.ensures.world c.cover.ensures.same self.are_over))
    of (subst (λ interfaces. AreAnswersOf interfaces asked given) (sym c.cover.ensures.world) c.requires)
    (c.keep_all.ensures.known (subst (λ numbers. HavePlaces c.cover.new.self numbers) (sym c.deref.ensures.value) places)
    ∙ ap (λ numbers. with_items (known_at c.cover.new.self) numbers given) c.deref.ensures.value))

pub returns-in-Ok-clause-still_known : goal.returns-in-Ok-clause-still_known
returns-in-Ok-clause-still_known c =
    let self = c.args.self.now in
    let held = key_at c.intern_all.new.self in
    let asked = map key_of c.args.keys.now in
    let ids = c.in_ok-interned.interned.ids.items in
    let given = map (λ answer. looked_in answer.value) c.args.answers.items in
    let of : AreOf held ids asked = c.in_ok-interned.ensures.held in
    let places : HavePlaces c.cover.new.self ids =
    has_place held ids asked c.bound.result (length c.cover.new.self.known.items) of c.bound.ensures c.in-Ok.ensures.covered in
    λ i x h.
    still_known (interfaces_of c.cover.new.self) held (known_at c.cover.new.self) (known_at c.keep_all.new.self) ids asked given
    (stay_with_more_keys (interfaces_of c.cover.new.self) (key_at self.keys) held (known_at c.cover.new.self) c.intern_all.ensures.extends
    (over_same (interfaces_of self.answers) (interfaces_of c.cover.new.self) (key_at self.keys) (known_at self.answers)
    (known_at c.cover.new.self) c.cover.ensures.world c.cover.ensures.same self.are_over))
    of (subst (λ interfaces. AreAnswersOf interfaces asked given) (sym c.cover.ensures.world) c.requires)
    (c.keep_all.ensures.known (subst (λ numbers. HavePlaces c.cover.new.self numbers) (sym c.deref.ensures.value) places)
    ∙ ap (λ numbers. with_items (known_at c.cover.new.self) numbers given) c.deref.ensures.value)
    i x (ap (λ (known : Numbering LookedAnswer). plain known i) c.cover.ensures.same ∙ h)

pub invariant_of-self-in-Err : goal.invariant_of-self-in-Err
invariant_of-self-in-Err c =
    let self = c.args.self.now in
    let back : key_at c.forget_all.new.self ≡ key_at self.keys =
    c.forget_all.ensures ∙ ap (λ ids. without_all (key_at c.intern_all.new.self) ids) c.deref-in-Err.ensures.value ∙ c.in_ok-interned.ensures.added in
    record {
      are_over = subst (λ held. AreKnownOf (interfaces_of c.cover.new.self) held (known_at c.cover.new.self)) (sym back)
          (over_same (interfaces_of self.answers) (interfaces_of c.cover.new.self) (key_at self.keys) (known_at self.answers)
          (known_at c.cover.new.self) c.cover.ensures.world c.cover.ensures.same self.are_over);
    }

pub returns-in-Err-clause-still_known : goal.returns-in-Err-clause-still_known
returns-in-Err-clause-still_known c = extends_same _ _ (ap plain c.cover.ensures.same)

pub returns-in-Err-clause-extends : goal.returns-in-Err-clause-extends
returns-in-Err-clause-extends c =
    extends_same _ _
    (c.forget_all.ensures ∙ ap (λ ids. without_all (key_at c.intern_all.new.self) ids) c.deref-in-Err.ensures.value ∙ c.in_ok-interned.ensures.added)
