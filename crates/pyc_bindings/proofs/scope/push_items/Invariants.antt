use Rattle.std.proofs.Common.{◌≡◌, ◌++◌, map, flat_map, drop}
use Rattle.pyc_ast.specs.StatementView.{with_item_of}
use Rattle.pyc_bindings.specs.Scopes.{item_parts}
use Rattle.pyc_bindings.specs.ScopeView.{part_of}
use Rattle.pyc_bindings.proofs.scope.push_items.Given as goal

-- what was added, with what the items that are left add, is the whole
abbrev pub invariant-loop-item : goal.invariant-loop-item
invariant-loop-item l =
    map part_of l.parts.items ++ flat_map (item_parts l.at l.is_guarded) (map with_item_of (drop l.item-index l.items))
    ≡ map part_of l.fn.parts.items ++ flat_map (item_parts l.at l.is_guarded) (map with_item_of l.items)
