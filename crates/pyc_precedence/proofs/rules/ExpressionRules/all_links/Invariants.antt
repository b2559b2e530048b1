use Rattle.std.proofs.Common.{◌≡◌, ◌-◌}
use Rattle.pyc_tree.specs.Expressions.{expr, links, all_links}
use Rattle.pyc_list_rules.proofs.LoopLemmas.{with_links}
use Rattle.pyc_precedence.proofs.rules.ExpressionRules.all_links.Given as goal

abbrev pub invariant-loop-turn : goal.invariant-loop-turn
invariant-loop-turn g l =
    with_links l.found.links.items (links (expr l.self.rules.depth) (l._turn-end - l._turn) l.tokens.rest.now) ≡ all_links (expr l.self.rules.depth) l.fn.tokens.rest.now
