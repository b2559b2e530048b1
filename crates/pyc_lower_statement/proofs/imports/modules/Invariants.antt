use Rattle.std.proofs.Common.{◌≡◌, ◌++◌, map, drop}
use Rattle.pyc_ast.specs.StatementView.{imported_of}
use Rattle.pyc_lower_atom.specs.OriginView.{origin_of}
use Rattle.pyc_lower_statement.specs.Statements.{separated_in, module_in}
use Rattle.pyc_tree.specs.StatementView.{separated_of, separated_before, last_item_of, module_of}
use Rattle.pyc_lower_statement.proofs.imports.modules.Given as goal

-- what is made so far, and what is left, is the whole
abbrev pub invariant-loop-item : goal.invariant-loop-item
invariant-loop-item g l =
    map imported_of l.found.items
    ++ separated_in (module_in (origin_of l.lowering.origin)) (separated_before module_of (drop l.item-index l.item-items) (last_item_of module_of l.trees.last))
    ≡ separated_in (module_in (origin_of l.lowering.origin)) (separated_of module_of l.trees)
