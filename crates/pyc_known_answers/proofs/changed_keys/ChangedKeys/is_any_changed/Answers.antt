use Rattle.std.proofs.Common.{◌≡◌, ◌≤◌, ◌∙◌, ◌||◌, [], ap, arith, drop, is_some, length, sym, ℕ}
use Rattle.std.specs.List.{list_any}
use Rattle.pyc_iface.specs.Answers.{answer_by}
use Rattle.pyc_known_answers.proofs.KeyChangeLemmas.{any_of, compared_more, drop_past, held_there, or_end, value_more}
use Rattle.pyc_known_answers.specs.Changes.{has_changed}
use Rattle.pyc_known_answers.specs.ChangedKeysView.{compared_in, first_in, held_in, second_in}
use Rattle.pyc_known_answers.proofs.changed_keys.ChangedKeys.is_any_changed.Goals as goal

pub is_changed-requires : goal.is_changed-requires
is_changed-requires c =
    let id = c.id-item.result in
    ap (λ f. is_some (f id)) c.loop-id.invariant.held
    ∙ held_there (held_in c.args.self.now) c.args.ids.now c.loop-id.id-index id c.loop-id-test.true c.id-item.is c.requires

pub loop-id-preserved : goal.loop-id-preserved
loop-id-preserved c =
    let ids = c.args.ids.now in
    let i = c.loop-id.id-index in
    let id = c.id-item.result in
    let self = c.args.self.now in
    let changed = λ (n : ℕ). has_changed (answer_by (first_in self)) (answer_by (second_in self)) (held_in self n) in
    let reported = c.in_ok-one.ensures.value
    ∙ (λ t. has_changed (answer_by (c.loop-id.invariant.first t)) (answer_by (c.loop-id.invariant.second t)) (c.loop-id.invariant.held t id)) in
    record {
      value =
          value_more changed ids i id c.loop-id.changed c.in_ok-one.one c.either-changed.result _ c.loop-id-test.true c.id-item.is
          c.either-changed.ensures reported c.loop-id.invariant.value;
      compared =
          compared_more ids (compared_in c.loop-id.self) (compared_in c.is_changed.new.self) _ i id c.loop-id-test.true c.id-item.is
          c.in_ok-one.ensures.compared c.loop-id.invariant.compared;
      held = c.in_ok-one.ensures.held ∙ c.loop-id.invariant.held;
      first = c.in_ok-one.ensures.first ∙ c.loop-id.invariant.first;
      second = c.in_ok-one.ensures.second ∙ c.loop-id.invariant.second;
    }

pub returns-clause-value : goal.returns-clause-value
returns-clause-value c =
    let ids = c.args.ids.now in
    let self = c.args.self.now in
    let changed = λ (n : ℕ). has_changed (answer_by (first_in self)) (answer_by (second_in self)) (held_in self n) in
    let past : length ids ≤ c.loop-id.id-index = omega (arith, c.loop-id-test.false) in
    let none : drop c.loop-id.id-index ids ≡ [] = drop_past ids c.loop-id.id-index past in
    sym (or_end c.loop-id.changed) ∙ sym (ap (λ l. c.loop-id.changed || list_any changed l) none) ∙ c.loop-id.invariant.value
    ∙ any_of (has_changed (answer_by (first_in self)) (answer_by (second_in self))) (held_in self) ids
