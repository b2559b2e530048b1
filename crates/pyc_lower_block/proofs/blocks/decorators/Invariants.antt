use Rattle.std.proofs.Common.{◌≡◌, ◌++◌, map, drop}
use Rattle.pyc_ast.specs.ExprView.{expr_of}
use Rattle.pyc_lower_block.specs.Blocks.{decorators_in}
use Rattle.pyc_lower_atom.specs.OriginView.{origin_of}
use Rattle.pyc_tree.specs.BlockView.{decorator_of}
use Rattle.pyc_lower_block.proofs.blocks.decorators.Given as goal

-- the expressions made so far, and those of the decorators that are left, are those of all
abbrev pub invariant-loop-mark : goal.invariant-loop-mark
invariant-loop-mark g l =
    map expr_of l.found.items ++ decorators_in g.Q.Quotes.spelled (origin_of l.lowering.origin) (map decorator_of (drop l.mark-index l.marks))
    ≡ decorators_in g.Q.Quotes.spelled (origin_of l.lowering.origin) (map decorator_of l.marks)
