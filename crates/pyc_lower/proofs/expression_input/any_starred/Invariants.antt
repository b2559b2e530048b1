use Rattle.std.proofs.Common.{◌≡◌, drop}
use Rattle.std.specs.List.{list_any}
use Rattle.pyc_lower.proofs.InputLemmas.{is_starred_item}
use Rattle.pyc_lower.proofs.expression_input.any_starred.Given as goal

-- one of the items that are left is starred where one of all is
abbrev pub invariant-loop-item : goal.invariant-loop-item
invariant-loop-item l = list_any is_starred_item (drop l.item-index l.items) ≡ list_any is_starred_item l.items
