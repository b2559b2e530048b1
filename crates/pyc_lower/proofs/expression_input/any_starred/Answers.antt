use Rattle.std.specs.List.{list_any}
use Rattle.pyc_lower.proofs.InputLemmas.{is_starred_item}
use Rattle.pyc_lower_expression.proofs.Loops.{no_more}
use Rattle.pyc_lower.proofs.expression_input.any_starred.Goals as goal

pub returns : goal.returns
returns c = no_more (list_any is_starred_item) c.args.items.now c.loop-item.item-index c.loop-item-test.false c.loop-item.invariant
