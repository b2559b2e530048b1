use Rattle.std.proofs.Common.{rules}
use Rattle.pyc_iface.specs.Answers.{answer_by}
use Rattle.pyc_known_answers.proofs.KeyChangeLemmas.{known_more}
use Rattle.pyc_known_answers.specs.KnownAnswersView.{interfaces_of}
use Rattle.pyc_known_answers.specs.WorldView.{held_by, interfaces_by}
use Rattle.pyc_known_answers.proofs.changed_keys.ChangedKeys.is_changed.Goals as goal

pub invariant_of-self-inside-2-clause-second_over : goal.invariant_of-self-inside-2-clause-second_over
invariant_of-self-inside-2-clause-second_over c = search rules

pub invariant_of-self-inside-2-clause-are_known : goal.invariant_of-self-inside-2-clause-are_known
invariant_of-self-inside-2-clause-are_known c =
    let first = c.self.inside.0.0.now in
    known_more (held_by first) (answer_by (interfaces_by first)) (interfaces_of c.self.inside.0.1.0) (interfaces_of c.compare.new.second) _ c.push.new.self.items
    c.self.inside.0.1.1.1.0.items c.args.id c.number-2.result c.in_ok-changed.changed c.self.inside.1.1.0 c.in_ok-changed.ensures.world c.in_ok-push.ensures.items
    c.number-2.ensures (search rules) c.in_ok-changed.ensures.value
