use Rattle.std.proofs.Common.{◌≡◌, ◌-◌}
use Rattle.pyc_tree.specs.Expressions.{expr}
use Rattle.pyc_tree.specs.Items.{comprehensions, comprehensions_of}
use Rattle.pyc_list_rules.proofs.LoopLemmas.{with_comprehensions}
use Rattle.pyc_list_rules.proofs.rules.ItemRules.comprehensions.Given as goal

abbrev pub invariant-loop-turn : goal.invariant-loop-turn
invariant-loop-turn g l =
    with_comprehensions l.found.comprehensions.items (comprehensions_of (expr l.self.depth) (l._turn-end - l._turn) l.tokens.rest.now) ≡ comprehensions (expr l.self.depth) l.fn.tokens.rest.now
