use Rattle.std.proofs.Common.{◌≡◌, ◌||◌, drop}
use Rattle.std.specs.List.{list_any}
use Rattle.pyc_iface.specs.Answers.{answer_by}
use Rattle.pyc_known_answers.specs.Changes.{has_changed, with_numbers}
use Rattle.pyc_known_answers.specs.ChangedKeysView.{compared_in, first_in, held_in, second_in}
use Rattle.pyc_known_answers.proofs.changed_keys.ChangedKeys.is_any_changed.Given as goal

-- with what the keys that are left give, what was found so far is the whole
abbrev pub invariant-loop-id : goal.invariant-loop-id
invariant-loop-id l = record {
  value : (l.changed || list_any (λ n. has_changed (answer_by (first_in l.fn.self)) (answer_by (second_in l.fn.self)) (held_in l.fn.self n)) (drop l.id-index l.ids))
      ≡ list_any (λ n. has_changed (answer_by (first_in l.fn.self)) (answer_by (second_in l.fn.self)) (held_in l.fn.self n)) l.ids;
  compared : with_numbers (compared_in l.self) (drop l.id-index l.ids) ≡ with_numbers (compared_in l.fn.self) l.ids;
  held : held_in l.self ≡ held_in l.fn.self;
  first : first_in l.self ≡ first_in l.fn.self;
  second : second_in l.self ≡ second_in l.fn.self;
}
