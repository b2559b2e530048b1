use Rattle.std.proofs.Common.{◌≡◌, ◌-◌}
use Rattle.pyc_tree.specs.Expressions.{expr}
use Rattle.pyc_tree.specs.Items.{items, parse_items_from}
use Rattle.pyc_tree.specs.View.{tree_of}
use Rattle.pyc_list_rules.proofs.ListLemmas.{with_front}
use Rattle.pyc_list_rules.proofs.rules.ItemRules.parse_items_from.Given as goal

abbrev pub invariant-loop-turn : goal.invariant-loop-turn
invariant-loop-turn g l =
    with_front l.so_far.each.items (items (expr l.self.depth) (l._turn-end - l._turn) l.list_context (tree_of l.item.expr.value) l.tokens.rest.now)
    ≡ parse_items_from (expr l.self.depth) l.fn.here (tree_of l.fn.first.expr.value) l.fn.tokens.rest.now
